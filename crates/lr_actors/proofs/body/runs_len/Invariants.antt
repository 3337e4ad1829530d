use Rattle.std.proofs.Common.{◌≡◌, ◌+◌, length, drop}
use Rattle.lr_text.specs.Bytes.{bytes_of_runs}
use Rattle.lr_actors.proofs.body.runs_len.Given as goal

abbrev pub invariant-loop-run : goal.invariant-loop-run
invariant-loop-run l = l.len + length (bytes_of_runs (drop l.run-index l.runs)) ≡ length (bytes_of_runs l.runs)
