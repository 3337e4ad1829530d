use Rattle.std.proofs.Common.{◌≡◌, length, List, ℕ, Some, ap, ◌∙◌}
use Rattle.lr_overlay.proofs.Over.{fitted_same}
use Rattle.lr_overlay.proofs.leaf.Leaf.take.Goals as goal

pub returns-in-Some-clause-got : goal.returns-in-Some-clause-got
returns-in-Some-clause-got c =
    let long : length c.in-Some.bytes.value ≡ 4096 = rw c.deref.ensures at c.has_all.ensures in
    c.in-Some.ensures.was ∙ ap (λ (l : List ℕ). Some l) (fitted_same 4096 c.in-Some.bytes.value long)
