use Rattle.std.proofs.Common.{◌^◌, sym, subst}
use Rattle.lr_roots.specs.View.{View}
use Rattle.lr_roots.specs.Names.{AreFewer, IsNamed}
use Rattle.lr_roots.specs.Catalog.{IsWhole}
use Rattle.lr_roots.proofs.Aside.{whole_empty, few_empty}
use Rattle.lr_roots.proofs.catalog.Catalog.new.Goals as goal

pub invariant_of-result : goal.invariant_of-result
invariant_of-result c = (subst IsWhole (sym c.new.ensures) whole_empty, λ key e. cc, subst (λ (v : View). AreFewer (IsNamed v) (2 ^ 32)) (sym c.new.ensures) few_empty)
