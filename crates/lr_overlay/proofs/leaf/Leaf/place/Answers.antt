use Rattle.std.proofs.Common.{◌≡◌, length, set, List, ℕ, Some, ap, ◌∙◌}
use Rattle.lr_overlay.proofs.Over.{fitted_same}
use Rattle.lr_overlay.proofs.leaf.Leaf.place.Goals as goal

pub returns : goal.returns
returns c =
    let long : length c.args.bytes.value ≡ 4096 = rw c.deref.ensures at c.has_all.ensures in
    c.swap-was.ensures.left ∙ ap (λ (l : List ℕ). set c.args.self.now c.args.at (Some l)) (fitted_same 4096 c.args.bytes.value long)
