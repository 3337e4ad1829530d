use Rattle.std.proofs.Common.{◌≡◌, length, vec_len}
use Rattle.lr_actors.specs.Body.{AddsUnbegun}
use Rattle.lr_actors.proofs.body.leave_rest.Given as goal

abbrev pub invariant-loop : goal.invariant-loop
invariant-loop l = record {
  rest : AddsUnbegun l.setting l.initial.book l.book;
  at : length l.book.trail.results.items ≡ l.counter;
  end : l.end ≡ vec_len l.setting.jobs;
}
