use Rattle.std.proofs.Common.{◌≡◌}
use Rattle.lr_test_objects.proofs.pair.Caller.turns.Given as goal

abbrev pub invariant-loop : goal.invariant-loop
invariant-loop g l = (l.self.pass.place.table_id ≡ l.initial.self.pass.place.table_id) × (l.self.pass.number ≡ l.initial.self.pass.number)
