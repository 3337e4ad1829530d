use Rattle.lr_roots.proofs.Indexes.{named_same, named_other, last_same, last_other, last_none}
use Rattle.lr_roots.proofs.index.Index.manifest_below.Goals as goal

pub returns-then-eq : goal.returns-then-eq
returns-then-eq c =
    let h = c.range.ensures.in_range tt in
    let last = h.3 _ _ c.in-Some.ensures.steps in
    last_same c.args.self.now.namings c.args.image.now c.args.bound c.in-Some.last.now (named_same _ _ _ c.eq.ensures c.if-eq.true) last.0.1 last.1
    (λ q less here. h.4 _ _ c.in-Some.ensures.steps q (tt, less) here)

pub returns-else-eq : goal.returns-else-eq
returns-else-eq c =
    let h = c.range.ensures.in_range tt in
    let last = h.3 _ _ c.in-Some.ensures.steps in
    last_other c.args.self.now.namings c.args.image.now c.args.bound c.in-Some.last.now (named_other _ _ _ c.eq.ensures c.if-eq.false) last.0.1
    (λ q less here. h.4 _ _ c.in-Some.ensures.steps q (tt, less) here)

pub returns-in-None : goal.returns-in-None
returns-in-None c = last_none c.args.self.now.namings c.args.image.now c.args.bound (λ q less. (c.range.ensures.in_range tt).5 c.in-None.ensures.steps.0 q (tt, less))
