use Rattle.std.proofs.Common.{◌≡◌, ◌+◌, ◌≤◌, length}
use Rattle.lr_text.specs.Bytes.{maximal_runs}
use Rattle.lr_text.proofs.bytes.has_few_runs.Given as goal

abbrev pub invariant-loop-rest : goal.invariant-loop-rest
invariant-loop-rest l = (l.runs + length (maximal_runs l.rest) ≡ length (maximal_runs l.bytes)) × (l.runs ≤ 64)

abbrev pub decreases-loop-rest : goal.decreases-loop-rest
decreases-loop-rest l = length l.rest
