use Rattle.lr_test_objects.specs.Seats.{SameSeats}
use Rattle.lr_test_objects.proofs.cross.Runner.rounds.Given as goal

abbrev pub invariant-loop : goal.invariant-loop
invariant-loop g l = SameSeats l.initial.self l.self
