-- The bytes that a number stands for: the words that a generator draws, each with its low byte first.
use Rattle.std.specs.Prelude.{ℕ, ◌/◌, ◌%◌, slice_index}
use Rattle.std.specs.Int.{w32, to_le_bytes}
use Rattle.rand_pcg.specs.Lcg.{Lcg, started, increment_of, advance}
use Rattle.rand_pcg.specs.Pcg.{multiplier_64, pcg32}

-- the generator PCG XSH RR 64/32 of a state and a stream
abbrev pub started_at : ℕ → ℕ → Lcg
started_at state stream = started 64 multiplier_64 state (increment_of 64 stream)

-- the generator after n words
abbrev pub after_words : ℕ → Lcg → Lcg
after_words n g = advance 64 multiplier_64 n g

-- word i of a generator
abbrev pub word_at : Lcg → ℕ → ℕ
word_at g i = (pcg32 (after_words i g)).0

-- byte k of the words, each low byte first
unfoldable pub byte_at : Lcg → ℕ → ℕ
byte_at g k = slice_index (to_le_bytes w32 (word_at g (k / 4))) (k % 4)

-- byte k of `seed N`: stream 2
abbrev pub seed_byte : ℕ → ℕ → ℕ
seed_byte seed k = byte_at (started_at seed 2) k
