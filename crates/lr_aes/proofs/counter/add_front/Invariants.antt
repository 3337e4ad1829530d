use Rattle.std.proofs.Common.{◌≡◌, ℕ, ◌-◌, ◌<◌, ◌≤◌, length, slice_index, bit_xor}
use Rattle.lr_aes.proofs.counter.add_front.Given as goal

abbrev pub invariant-loop-i : goal.invariant-loop-i
invariant-loop-i l = record {
  len : length l.buffer ≡ length l.fn.buffer;
  done : (k : ℕ) → l.at ≤ k → k < l.i → slice_index l.buffer k ≡ bit_xor (slice_index l.fn.buffer k) (slice_index l.block (k - l.at));
  before : (k : ℕ) → k < l.at → slice_index l.buffer k ≡ slice_index l.fn.buffer k;
  left : (k : ℕ) → l.i ≤ k → slice_index l.buffer k ≡ slice_index l.fn.buffer k;
}
