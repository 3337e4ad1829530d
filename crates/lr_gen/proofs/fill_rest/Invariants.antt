use Rattle.std.proofs.Common.{◌≡◌, ℕ, ◌<◌, ◌≤◌, ◌-◌, slice_index}
use Rattle.std.specs.Int.{w32, to_le_bytes}
use Rattle.lr_gen.proofs.fill_rest.Given as goal

abbrev pub invariant-loop-at : goal.invariant-loop-at
invariant-loop-at l = record {
  kept : (k : ℕ) → k < l.from → slice_index l.buffer k ≡ slice_index l.initial.buffer k;
  rest : (k : ℕ) → l.from ≤ k → k < l.at → slice_index l.buffer k ≡ slice_index (to_le_bytes w32 l.word) (k - l.from);
}
