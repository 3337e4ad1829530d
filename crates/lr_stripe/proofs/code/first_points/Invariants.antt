use Rattle.std.proofs.Common.{◌≡◌, ◌<◌, ℕ, slice_index, length}
use Rattle.lr_stripe.proofs.code.first_points.Given as goal

abbrev pub invariant-loop-i : goal.invariant-loop-i
invariant-loop-i g l = (length l.all ≡ g.row.K) × ((k : ℕ) → k < l.i → slice_index l.all k ≡ k)
