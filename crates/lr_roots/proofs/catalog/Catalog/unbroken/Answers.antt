use Rattle.std.proofs.Common.{◌≤◌, ℕ, subst, ◌∙◌, arith}
use Rattle.lr_origin.specs.declared.key.KeyKind.TheVariants as kind
use Rattle.lr_roots.specs.View.{Has, Lacks}
use Rattle.lr_roots.specs.Catalog.{Seen}
use Rattle.lr_roots.proofs.Aside.{lacks_above}
use Rattle.lr_roots.proofs.catalog.Catalog.unbroken.Goals as goal

pub returns : goal.returns
returns c =
    let within : (q : ℕ) → q ≤ 1000 → q ≤ c.loop-root.root = λ q le. omega (arith, le, c.loop-root-test.false) in (
      λ q least most. c.loop-root.invariant q least (within q most),
      subst (λ (s : Seen). Lacks s.view (kind.Root 1001)) c.self.view_is (lacks_above c.self.inside.aside c.self.inside.keys 1001 c.self.invariant.0 (omega arith)),
    )
