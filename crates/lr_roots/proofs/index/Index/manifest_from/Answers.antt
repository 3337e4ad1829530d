use Rattle.std.proofs.Common.{subst, Some}
use Rattle.std.specs.declared.ops.Bound.TheVariants.{Included, Unbounded}
use Rattle.std.specs.BTreeSet.{IsKeyRangeOf}
use Rattle.lr_roots.specs.Index.{naming_cmp}
use Rattle.lr_roots.proofs.Indexes.{named_same, named_other, first_same, first_other, first_none}
use Rattle.lr_roots.proofs.index.Index.manifest_from.Goals as goal

pub returns-then-eq : goal.returns-then-eq
returns-then-eq c =
    let h = subst (IsKeyRangeOf naming_cmp (Included (record { image = c.args.image.now; root = Some c.args.bound })) Unbounded c.args.self.now.namings) c.in-Some.ensures.steps (c.range.ensures.in_range tt) in
    first_same c.args.self.now.namings c.args.image.now c.args.bound c.in-Some.first.now (named_same _ _ _ c.eq.ensures c.if-eq.true) h.1.0.0 h.1.1
    (λ q after here. h.2 q (after, tt) here)

pub returns-else-eq : goal.returns-else-eq
returns-else-eq c =
    let h = subst (IsKeyRangeOf naming_cmp (Included (record { image = c.args.image.now; root = Some c.args.bound })) Unbounded c.args.self.now.namings) c.in-Some.ensures.steps (c.range.ensures.in_range tt) in
    first_other c.args.self.now.namings c.args.image.now c.args.bound c.in-Some.first.now (named_other _ _ _ c.eq.ensures c.if-eq.false) h.1.0.0
    (λ q after here. h.2 q (after, tt) here)

pub returns-in-None : goal.returns-in-None
returns-in-None c = first_none c.args.self.now.namings c.args.image.now c.args.bound (λ q after. (c.range.ensures.in_range tt).5 c.in-None.ensures.steps.0 q (after, tt))
