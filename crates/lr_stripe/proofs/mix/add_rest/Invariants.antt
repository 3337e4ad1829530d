use Rattle.std.proofs.Common.{◌≡◌, ◌<◌, ◌≤◌, ℕ, slice_index, length, bit_xor}
use Rattle.lr_stripe.proofs.mix.add_rest.Given as goal

abbrev pub invariant-loop-t : goal.invariant-loop-t
invariant-loop-t l =
    (length l.out ≡ length l.fn.out)
    × ((k : ℕ) → l.from ≤ k → k < l.t → slice_index l.out k ≡ bit_xor (slice_index l.fn.out k) (slice_index l.part k))
    × ((k : ℕ) → k < l.from → slice_index l.out k ≡ slice_index l.fn.out k)
    × ((k : ℕ) → l.t ≤ k → slice_index l.out k ≡ slice_index l.fn.out k)
