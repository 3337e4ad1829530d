use Rattle.std.proofs.Common.{sym, subst}
use Rattle.std.specs.FinMap as map
use Rattle.lr_origin.specs.declared.key.KeyKind.{KeyKind}
use Rattle.lr_roots.specs.View.{View}
use Rattle.lr_roots.specs.Index.{IsIndex}
use Rattle.lr_roots.proofs.indexed.Indexed.remove.Goals as goal

pub invariant_of-self : goal.invariant_of-self
invariant_of-self c =
    subst (λ (v : View). IsIndex v c.leave.new.self) (sym c.remove.ensures)
    (subst (λ (k : KeyKind). IsIndex (map.remove c.self.inside.keys k) c.leave.new.self) c.kind.ensures.same (c.leave.ensures c.self.inside.keys c.self.invariant))
