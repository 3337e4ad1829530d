use Rattle.lr_roots.proofs.Indexes.{last_root, no_root}
use Rattle.lr_roots.proofs.index.Index.root_below.Goals as goal

pub returns-in-Some : goal.returns-in-Some
returns-in-Some c =
    let h = c.range.ensures.in_range tt in
    let last = h.3 _ _ c.in-Some.ensures.steps in
    last_root c.args.self.now.roots c.args.bound c.in-Some.root.now last.0.1 last.1 (λ q less here. h.4 _ _ c.in-Some.ensures.steps q (tt, less) here)

pub returns-in-None : goal.returns-in-None
returns-in-None c = no_root c.args.self.now.roots c.args.bound (λ q less. (c.range.ensures.in_range tt).5 c.in-None.ensures.steps.0 q (tt, less))
