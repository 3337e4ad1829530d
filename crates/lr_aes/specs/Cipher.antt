-- The block cipher of FIPS 197. A state is a list of 16 bytes: byte r + 4 * c stands in row r and column c.
use Rattle.std.specs.Prelude.{ℕ, zero, suc, ◌+◌, ◌-◌, ◌*◌, ◌/◌, ◌%◌, ◌==◌, List, [], ◌∷◌, ◌++◌, map, slice_index, bit_xor, if◌then◌else◌}
use Rattle.std.specs.Int.{bit_at}
use Rattle.std.specs.List.{range_with_len}
use Rattle.lr_field.specs.Field.{product, inverse}

-- ---- the rounds (section 5.1)

-- bit i of the image of a under the affine map of SubBytes (section 5.1.1)
abbrev pub affine_bit : ℕ → ℕ → ℕ
affine_bit a i = (bit_at a i + bit_at a ((i + 4) % 8) + bit_at a ((i + 5) % 8)
    + bit_at a ((i + 6) % 8) + bit_at a ((i + 7) % 8) + bit_at 0x63 i) % 2

-- the number with these bits, the lowest first
abbrev pub of_bits : List ℕ → ℕ
of_bits [] = 0
of_bits (b ∷ bs) = b + 2 * of_bits bs

-- S(b): the affine map of the inverse of b (section 5.1.1)
unfoldable pub sub_byte : ℕ → ℕ
sub_byte b = of_bits (map (affine_bit (inverse b)) (range_with_len 0 8))

-- the state with the bytes f 0 to f 15
abbrev pub state_of : (ℕ → ℕ) → List ℕ
state_of f = map f (range_with_len 0 16)

-- SubBytes: each byte is replaced (section 5.1.1)
abbrev pub sub_bytes : List ℕ → List ℕ
sub_bytes s = state_of (λ k. sub_byte (slice_index s k))

-- ShiftRows: row r is turned left by r places (section 5.1.2)
abbrev pub shift_rows : List ℕ → List ℕ
shift_rows s = state_of (λ k. slice_index s (k % 4 + 4 * ((k / 4 + k % 4) % 4)))

-- the byte d rows below byte k in its column, the first row coming after the last
abbrev pub below : List ℕ → ℕ → ℕ → ℕ
below s k d = slice_index s ((k + d) % 4 + 4 * (k / 4))

-- MixColumns: each byte is 2 times itself, 3 times the next one of its column, and the two others (section 5.1.3)
abbrev pub mix_columns : List ℕ → List ℕ
mix_columns s = state_of (λ k.
    bit_xor (bit_xor (product 2 (below s k 0)) (product 3 (below s k 1))) (bit_xor (below s k 2) (below s k 3)))

-- AddRoundKey with round key n of the expanded key w, which is given by the bytes of its words (section 5.1.4)
abbrev pub add_round_key : List ℕ → ℕ → List ℕ → List ℕ
add_round_key w n s = state_of (λ k. bit_xor (slice_index s k) (slice_index w (16 * n + k)))

-- round n (section 5.1)
unfoldable pub round : List ℕ → ℕ → List ℕ → List ℕ
round w n s = add_round_key w n (mix_columns (shift_rows (sub_bytes s)))

-- the last round, which is round n and has no MixColumns (section 5.1)
unfoldable pub last_round : List ℕ → ℕ → List ℕ → List ℕ
last_round w n s = add_round_key w n (shift_rows (sub_bytes s))

-- the state after round key 0 and n rounds (section 5.1)
unfoldable pub rounds : List ℕ → List ℕ → ℕ → List ℕ
rounds w s zero = add_round_key w 0 s
rounds w s (suc n) = round w (suc n) (rounds w s n)

-- the cipher with n + 1 rounds (section 5.1)
abbrev pub cipher : ℕ → List ℕ → List ℕ → List ℕ
cipher n w s = last_round w (suc n) (rounds w s n)

-- ---- the key schedule (section 5.2)

-- x^i in the field
unfoldable pub round_constant : ℕ → ℕ
round_constant zero = 1
round_constant (suc i) = product 2 (round_constant i)

-- the four bytes of word i
abbrev pub word_of : List ℕ → ℕ → List ℕ
word_of w i = slice_index w (4 * i) ∷ slice_index w (4 * i + 1) ∷ slice_index w (4 * i + 2) ∷ slice_index w (4 * i + 3) ∷ []

-- the sum of two words
abbrev pub add_words : List ℕ → List ℕ → List ℕ
add_words [] v = []
add_words (x ∷ u) [] = []
add_words (x ∷ u) (y ∷ v) = bit_xor x y ∷ add_words u v

-- RotWord: the bytes turned left by one
abbrev pub rotated : List ℕ → List ℕ
rotated [] = []
rotated (x ∷ t) = t ++ x ∷ []

-- the word whose first byte is changed by c
abbrev pub changed : List ℕ → ℕ → List ℕ
changed [] c = []
changed (x ∷ t) c = bit_xor x c ∷ t

-- what word i takes from the word t before it, where the key has nk words
abbrev pub scheduled : ℕ → ℕ → List ℕ → List ℕ
scheduled nk i t =
    if i % nk == 0 then changed (map sub_byte (rotated t)) (round_constant (i / nk - 1))
    else (if i % nk == 4 then (if nk == 8 then map sub_byte t else t) else t)

-- word i, from the bytes of the words before it
unfoldable pub next_word : ℕ → List ℕ → ℕ → List ℕ
next_word nk w i = add_words (word_of w (i - nk)) (scheduled nk i (word_of w (i - 1)))

-- the first nk + n words of the schedule of a key of nk words, as bytes
unfoldable pub schedule : ℕ → List ℕ → ℕ → List ℕ
schedule nk key zero = key
schedule nk key (suc n) = schedule nk key n ++ next_word nk (schedule nk key n) (nk + n)
