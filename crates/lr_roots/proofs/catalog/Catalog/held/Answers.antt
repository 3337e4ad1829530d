use Rattle.std.proofs.Common.{ap, sym, ◌∙◌}
use Rattle.std.proofs.lemmas.Bool.{false≢true}
use Rattle.std.specs.FinMap as map
use Rattle.lr_roots.specs.Catalog.{Seen}
use Rattle.lr_roots.proofs.Aside.{lacks_outside}
use Rattle.lr_roots.proofs.catalog.Catalog.held.Goals as goal

pub returns-then-not-is_within : goal.returns-then-not-is_within
returns-then-not-is_within c =
    sym (lacks_outside c.self.inside.aside c.self.inside.keys c.args.kind.now c.self.invariant.0 (λ h. false≢true (sym c.if-not-is_within.true ∙ c.is_within.ensures.1 h)))
    ∙ ap (λ (s : Seen). map.get s.view c.args.kind.now) c.self.view_is
