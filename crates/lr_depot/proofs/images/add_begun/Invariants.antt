use Rattle.std.proofs.Common.{◌≡◌, ℕ, Some}
use Rattle.std.specs.FinMap as map
use Rattle.lr_rules.specs.State.{Session}
use Rattle.lr_depot.specs.Sessions.{IsCreation}
use Rattle.lr_depot.proofs.Added.{AreAdded}
use Rattle.lr_depot.proofs.images.add_begun.Given as goal

abbrev pub invariant-loop-session : goal.invariant-loop-session
invariant-loop-session l =
    AreAdded l.catalog.view (λ (e : ℕ × Session). map.get l.sessions e.0 ≡ Some e.1) (λ i e. IsCreation i e.1) l.fn.others.items l.others.items l.session-iterator
