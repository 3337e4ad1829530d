use Rattle.lr_prepare.proofs.Reached.{HasReached}
use Rattle.lr_prepare.proofs.preparing.run_lines.Given as goal

abbrev pub invariant-loop-line : goal.invariant-loop-line
invariant-loop-line g l = HasReached g.O.Origin.faults l.lines l.line-index l.initial.depot l.depot l.draft
