use Rattle.lr_rules.specs.State.{Session, IsRootOf}
use Rattle.lr_depot.proofs.Walked.{AreLeftInOrder}
use Rattle.lr_depot.proofs.collecting.first_user.Given as goal

abbrev pub invariant-loop-number : goal.invariant-loop-number
invariant-loop-number l = AreLeftInOrder l.sessions (λ (j : Session). IsRootOf j.job l.root) l.number-iterator
