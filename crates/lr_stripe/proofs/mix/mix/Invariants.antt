use Rattle.std.proofs.Common.{◌≡◌, ◌<◌, ℕ, slice_index, take, length}
use Rattle.lr_field.specs.Polynomial.{weighted}
use Rattle.lr_stripe.specs.Code.{column}
use Rattle.lr_stripe.proofs.mix.mix.Given as goal

abbrev pub invariant-loop-i : goal.invariant-loop-i
invariant-loop-i l = (t : ℕ) → t < length l.out → slice_index l.out t ≡ weighted (take l.i l.weights) (column l.i (length l.out) t l.parts)
