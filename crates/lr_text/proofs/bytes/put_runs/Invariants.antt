use Rattle.std.proofs.Common.{◌≡◌, ◌++◌, length, take}
use Rattle.lr_text.specs.Bytes.{maximal_runs, runs_text}
use Rattle.lr_text.proofs.bytes.put_runs.Given as goal

abbrev pub invariant-loop-rest : goal.invariant-loop-rest
invariant-loop-rest l = record {
  text : l.out.items ++ runs_text (maximal_runs l.rest) ≡ l.initial.out.items ++ runs_text (maximal_runs l.bytes);
  front : take (length l.initial.out.items) l.out.items ≡ l.initial.out.items;
}

abbrev pub decreases-loop-rest : goal.decreases-loop-rest
decreases-loop-rest l = length l.rest
