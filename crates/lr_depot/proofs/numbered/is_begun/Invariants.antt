use Rattle.lr_depot.proofs.Numbers.{AreLeft}
use Rattle.lr_depot.specs.Sessions.{IsCreation}
use Rattle.lr_depot.proofs.numbered.is_begun.Given as goal

abbrev pub invariant-loop-session : goal.invariant-loop-session
invariant-loop-session l = AreLeft l.sessions (IsCreation l.image) l.session-iterator
