-- Products by lanes, read from two tables of 16 entries.
use Rattle.std.specs.Prelude.{◌≡◌, ℕ, ◌*◌, ◌+◌, ◌<◌, ◌≤◌, ◌⊎◌, List, length, slice_index, bit_xor}
use Rattle.lr_field.specs.Field.{product}

-- A place has an entry.
abbrev pub IsPlace : ℕ → Type 0
IsPlace i = i < 16

-- the entry at a place
abbrev pub entry : List ℕ → ℕ → ℕ
entry table i = slice_index table i

-- The tables have the products of the weight with the numbers below 16, and with 16 times these.
pub record HaveProducts (weight : ℕ) (low high : List ℕ) : Type 0 where
  pub by_low : (half : ℕ) → half < 16 → slice_index low half ≡ product weight half
  pub by_high : (half : ℕ) → half < 16 → slice_index high half ≡ product weight (16 * half)

-- The 16 bytes of old from byte at on have the lanes added in new.
pub record IsAdded (at : ℕ) (lanes old new : List ℕ) : Type 0 where
  pub len : length new ≡ length old
  pub added : (k : ℕ) → k < 16 → slice_index new (at + k) ≡ bit_xor (slice_index old (at + k)) (slice_index lanes k)
  pub others : (k : ℕ) → (k < at) ⊎ (at + 16 ≤ k) → slice_index new k ≡ slice_index old k

-- The bytes before place n have f of the part's byte added in new, and the others are as in old.
pub record IsSummed (f : ℕ → ℕ) (part old : List ℕ) (n : ℕ) (new : List ℕ) : Type 0 where
  pub len : length new ≡ length old
  pub summed : (k : ℕ) → k < n → slice_index new k ≡ bit_xor (slice_index old k) (f (slice_index part k))
  pub left : (k : ℕ) → n ≤ k → slice_index new k ≡ slice_index old k
