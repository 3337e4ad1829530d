use Rattle.std.proofs.Common.{◌≡◌}
use Rattle.lr_bench.proofs.turn.call_times.Given as goal

abbrev pub invariant-loop : goal.invariant-loop
invariant-loop g l = l.pass.place.table_id ≡ l.initial.pass.place.table_id
