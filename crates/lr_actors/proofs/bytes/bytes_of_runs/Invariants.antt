use Rattle.std.proofs.Common.{◌≡◌, take}
use Rattle.lr_text.specs.Bytes.{bytes_of_runs as bytes_seen}
use Rattle.lr_actors.proofs.bytes.bytes_of_runs.Given as goal

abbrev pub invariant-loop-run : goal.invariant-loop-run
invariant-loop-run l = l.bytes.items ≡ bytes_seen (take l.run-index l.runs)
