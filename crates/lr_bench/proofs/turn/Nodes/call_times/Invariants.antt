use Rattle.lr_bench.specs.Seats.{Sits}
use Rattle.lr_bench.proofs.turn.Nodes.call_times.Given as goal

abbrev pub invariant-loop : goal.invariant-loop
invariant-loop g l = Sits l.fn.self l.passes
