use Rattle.std.proofs.Common.{◌^◌, sym, subst}
use Rattle.lr_roots.specs.View.{View}
use Rattle.lr_roots.specs.Names.{AreFewer, IsNamed}
use Rattle.lr_roots.specs.Catalog.{IsWhole}
use Rattle.lr_roots.proofs.Aside.{whole_removed, few_removed}
use Rattle.lr_roots.proofs.catalog.Catalog.forget.Goals as goal

pub invariant_of-self : goal.invariant_of-self
invariant_of-self c = (subst IsWhole (sym c.remove.ensures) (whole_removed c.self.inside.keys _ c.self.invariant.0), λ key e. cc, subst (λ (v : View). AreFewer (IsNamed v) (2 ^ 32)) (sym c.remove.ensures) (few_removed c.self.inside.keys _ c.self.invariant.2))
