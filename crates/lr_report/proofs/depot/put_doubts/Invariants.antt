use Rattle.std.proofs.Common.{◌-◌, length}
use Rattle.lr_report.proofs.Doubting.{Doubted}
use Rattle.lr_report.proofs.depot.put_doubts.Given as goal

abbrev pub invariant-loop-key : goal.invariant-loop-key
invariant-loop-key l = Doubted l.initial.out.items l.out.items l.at l.depot.doubts

abbrev pub decreases-loop-key : goal.decreases-loop-key
decreases-loop-key l = length l.depot.doubts - l.at
