-- The cipher by lanes, each a byte in another basis of the field. There S is read from tables of 16 entries.
use Rattle.std.specs.Prelude.{◌≡◌, ℕ, suc, ◌*◌, ◌+◌, ◌/◌, ◌%◌, ◌<◌, ◌≤◌, ◌⊎◌, List, [], ◌∷◌, length, map, nat_le, if◌then◌else◌, slice_index, get_or, bit_xor}
use Rattle.std.specs.Int.{bit_at}
use Rattle.lr_aes.specs.Cipher.{state_of, below}
use Rattle.lr_aes.specs.declared.tables.TheConstants.{INVERSES, QUOTIENTS}

-- the sum of the bytes whose bit in y is 1, the first byte having bit i
unfoldable pub sum_at_bits : List ℕ → ℕ → ℕ → ℕ
sum_at_bits [] i y = 0
sum_at_bits (c ∷ cs) i y = bit_xor (bit_at y i * c) (sum_at_bits cs (suc i) y)

-- the byte that a lane stands for
unfoldable pub standard : ℕ → ℕ
standard y = sum_at_bits (0x60 ∷ 0xb6 ∷ 0x29 ∷ 0x08 ∷ 0xec ∷ 0xbc ∷ 0x51 ∷ 0xe0 ∷ []) 0 y

-- ---- look-ups

-- A place has an entry, or none.
abbrev pub IsPlace : ℕ → Type 0
IsPlace i = (i < 16) ⊎ (128 ≤ i)

-- the entry at a place, and 0 where there is none
abbrev pub entry : List ℕ → ℕ → ℕ
entry table i = if nat_le 128 i then 0 else slice_index table i

-- the two places at which S of a lane is read
unfoldable pub upper_place : ℕ → ℕ
upper_place y = let sum = bit_xor (y / 16) (y % 16) in
    bit_xor (entry INVERSES (bit_xor (entry INVERSES (y / 16)) (entry QUOTIENTS (y % 16)))) sum

unfoldable pub lower_place : ℕ → ℕ
lower_place y = let sum = bit_xor (y / 16) (y % 16) in
    bit_xor (entry INVERSES (bit_xor (entry INVERSES sum) (entry QUOTIENTS (y % 16)))) (y / 16)

-- what two tables have at these places, and what is added last
abbrev pub read_at : List ℕ → List ℕ → ℕ → ℕ → ℕ
read_at upper lower added y = bit_xor (bit_xor (entry upper (upper_place y)) (entry lower (lower_place y))) added

-- ---- states

-- each column turned up by d bytes
abbrev pub up : ℕ → List ℕ → List ℕ
up d x = state_of (λ k. below x k d)

-- round key n of the expanded key w
abbrev pub key_of : List ℕ → ℕ → List ℕ
key_of w n = state_of (λ k. slice_index w (16 * n + k))

-- The lanes stand for these round keys.
abbrev pub HasKeys : List (List ℕ) → List ℕ → Type 0
HasKeys lanes w = (n : ℕ) → n < 15 → map standard (get_or lanes n []) ≡ key_of w n

-- ---- the key stream

-- The 16 bytes of old from byte at on, or those that are there, have the block added in new.
pub record IsAdded (at : ℕ) (block old new : List ℕ) : Type 0 where
  pub len : length new ≡ length old
  pub added : (k : ℕ) → k < 16 → at + k < length old → slice_index new (at + k) ≡ bit_xor (slice_index old (at + k)) (slice_index block k)
  pub others : (k : ℕ) → (k < at) ⊎ (at + 16 ≤ k) → slice_index new k ≡ slice_index old k
