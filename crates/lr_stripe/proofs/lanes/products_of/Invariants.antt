use Rattle.std.proofs.Common.{◌≡◌, ◌<◌, ◌*◌, ℕ, slice_index, length}
use Rattle.lr_field.specs.Field.{product}
use Rattle.lr_stripe.proofs.lanes.products_of.Given as goal

abbrev pub invariant-loop-half : goal.invariant-loop-half
invariant-loop-half l =
    (length l.low ≡ 16) × (length l.high ≡ 16) × ((k : ℕ) → k < l.half → slice_index l.low k ≡ product l.weight k)
    × ((k : ℕ) → k < l.half → slice_index l.high k ≡ product l.weight (16 * k))
