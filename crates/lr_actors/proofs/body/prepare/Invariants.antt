use Rattle.std.proofs.Common.{◌≡◌, length, vec_len}
use Rattle.lr_actors.specs.Body.{SkipsSome}
use Rattle.lr_actors.proofs.body.prepare.Given as goal

abbrev pub invariant-loop : goal.invariant-loop
invariant-loop l = record {
  skips : SkipsSome l.setting l.initial.book l.book;
  at : length l.book.trail.results.items ≡ l.counter;
  end : l.end ≡ vec_len l.setting.jobs;
}
