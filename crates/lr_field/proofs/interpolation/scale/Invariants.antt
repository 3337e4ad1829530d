use Rattle.std.proofs.Common.{◌≡◌, ℕ, ◌<◌, ◌≤◌, take, get_or, bit_xor}
use Rattle.lr_field.specs.Field.{product, inverse}
use Rattle.lr_field.specs.Weights.{xor_sum}
use Rattle.lr_field.proofs.interpolation.scale.Given as goal

abbrev pub invariant-loop-i : goal.invariant-loop-i
invariant-loop-i l =
    ((k : ℕ) → k < l.i → get_or l.weights k 0 ≡ product (get_or l.fn.weights k 0) (product (bit_xor l.at l.p) (inverse (bit_xor (get_or l.points k 0) l.p))))
    × ((k : ℕ) → l.i ≤ k → get_or l.weights k 0 ≡ get_or l.fn.weights k 0)
    × (l.last ≡ bit_xor 1 (xor_sum (take l.i l.weights)))
