use Rattle.std.proofs.Common.{◌≡◌}
use Rattle.lr_rules.specs.State.{Session}
use Rattle.lr_depot.proofs.Numbers.{AreLeft}
use Rattle.lr_depot.proofs.numbered.session_of.Given as goal

abbrev pub invariant-loop-number : goal.invariant-loop-number
invariant-loop-number l = AreLeft l.sessions (λ (s : Session). s.caller ≡ l.caller) l.number-iterator
