-- States in lanes.
use Rattle.std.proofs.Common.{◌≡◌, ℕ, suc, ◌+◌, ◌-◌, ◌*◌, ◌<◌, ◌≤◌, List, [], ◌∷◌, map, length, slice_index, bit_xor, refl, sym, ap, ◌∙◌, arith, lit<, w8, Fits}
use Rattle.std.proofs.lemmas.List.{get_or-map, length-map}
use Rattle.std.proofs.lemmas.List.FromFn.{get_or-map-range_with_len}
use Rattle.std.proofs.lemmas.Grind.{same_number_lists}
use Rattle.std.proofs.lemmas.Nat.{xor_comm}
use lib.Bits.{xor_assoc}
use Rattle.lr_field.proofs.Linear.{xor_swap}
use Rattle.std.proofs.lemmas.Simd.{length-zip2, get_or-zip2, length-chunk, get_or-chunk, Each1-get_or}
use Rattle.std.specs.Simd.Lanes.{Each1, zip2, chunk}
use Rattle.lr_field.specs.Field.{product}
use Rattle.lr_aes.specs.Cipher.{state_of, sub_byte, shift_rows, mix_columns, add_round_key, round, last_round, rounds}
use Rattle.lr_aes.specs.Lanes.{standard, up, key_of}
use Rattle.lr_aes.proofs.LaneFacts.{standard-xor, standard_sum, three_at}

-- ---- lists of 16

pub as_state : (f : ℕ → ℕ) (t : List ℕ) → length t ≡ 16 → ((k : ℕ) → k < 16 → slice_index t k ≡ f k) → t ≡ state_of f
as_state f t len h =
    same_number_lists t (state_of f) len (λ k lk. h k (omega arith) ∙ sym (get_or-map-range_with_len f 0 16 k k 0 (omega arith) (omega arith)))

pub eta : (t : List ℕ) → length t ≡ 16 → t ≡ state_of (slice_index t)
eta t len = as_state (slice_index t) t len (λ k lk. refl)

-- ShiftRows moves bytes as they are
pub rows_of : (f : ℕ → ℕ) (t : List ℕ) → length t ≡ 16 → map f (shift_rows t) ≡ shift_rows (map f t)
rows_of f t len =
    let e = eta t len in
    ap (λ (u : List ℕ). map f (shift_rows u)) e ∙ sym (ap (λ (u : List ℕ). shift_rows (map f u)) e)

pub key_is : (w : List ℕ) (n : ℕ) → 16 * n + 16 ≤ length w → chunk (16 * n) 16 w ≡ key_of w n
key_is w n le =
    as_state (λ k. slice_index w (16 * n + k)) (chunk (16 * n) 16 w) (length-chunk (16 * n) 16 w le) (λ k lk. get_or-chunk (16 * n) 16 w k 0 lk)

pub key_added : (s w : List ℕ) (n : ℕ) → length s ≡ 16 → zip2 bit_xor s (key_of w n) ≡ add_round_key w n s
key_added s w n len =
    as_state (λ k. bit_xor (slice_index s k) (slice_index w (16 * n + k))) (zip2 bit_xor s (key_of w n)) (length-zip2 bit_xor s (key_of w n) len ∙ len)
    (λ k lk. get_or-zip2 bit_xor s (key_of w n) k 0 0 0 (omega arith) lk
    ∙ ap (bit_xor (slice_index s k)) (get_or-map-range_with_len (λ k. slice_index w (16 * n + k)) 0 16 k k 0 lk (omega arith)))

-- ---- rounds

pub round_is : (w s : List ℕ) (n : ℕ) → zip2 bit_xor (mix_columns (map sub_byte (shift_rows s))) (key_of w n) ≡ round w n s
unfolding round
round_is w s n = refl

pub last_is : (w s : List ℕ) (n : ℕ) → zip2 bit_xor (map sub_byte (shift_rows s)) (key_of w n) ≡ last_round w n s
unfolding last_round
last_is w s n = refl

-- the state before the first round
pub start : (s w ready key : List ℕ) → length s ≡ 16 → map standard ready ≡ s → map standard key ≡ key_of w 0 → map standard (zip2 bit_xor ready key) ≡ rounds w s 0
unfolding rounds
start s w ready key len er ek = standard_sum ready key ∙ (λ i. zip2 bit_xor (er i) (ek i)) ∙ key_added s w 0 len

-- the state after a round more
pub one_more : (w s : List ℕ) (n : ℕ) → 1 ≤ n → round w n (rounds w s (n - 1)) ≡ rounds w s (n + 1 - 1)
unfolding rounds
one_more w s n h =
    let here : n ≡ suc (n - 1) = omega arith in
    let there : suc (n - 1) ≡ n + 1 - 1 = omega arith in
    ap (λ (k : ℕ). round w k (rounds w s (n - 1))) here ∙ ap (rounds w s) there

turned_sum : (a b c d : ℕ) → bit_xor (bit_xor (bit_xor a b) c) d ≡ bit_xor (bit_xor c a) (bit_xor d b)
turned_sum a b c d = xor_assoc (bit_xor a b) c d ∙ xor_swap a b c d ∙ (λ i. bit_xor (xor_comm a c i) (xor_comm b d i))

module _ (single double s : List ℕ) (len : length single ≡ 16) (double_len : length double ≡ 16) (fits : Each1 (Fits w8) single)
    (is : map standard single ≡ s) (double_is : map standard double ≡ map (product 2) s) where
  long : length s ≡ 16
  long = ap (λ (l : List ℕ). length l) (sym is) ∙ length-map single standard ∙ len

  at_single : (p : ℕ) → p < 16 → standard (slice_index single p) ≡ slice_index s p
  at_single p lp = sym (get_or-map standard single p 0 0 (omega arith)) ∙ ap (λ (l : List ℕ). slice_index l p) is

  at_double : (p : ℕ) → p < 16 → standard (slice_index double p) ≡ product 2 (slice_index s p)
  at_double p lp =
      let le = long in
      sym (get_or-map standard double p 0 0 (omega arith)) ∙ ap (λ (l : List ℕ). slice_index l p) double_is ∙ get_or-map (product 2) s p 0 0 (omega arith)

  abbrev both : List ℕ
  both = zip2 bit_xor single double

  at_both : (p : ℕ) → p < 16 → standard (slice_index both p) ≡ product 3 (slice_index s p)
  at_both p lp =
      let y : ℕ = slice_index single p in
      let small : y < 256 = (Each1-get_or (Fits w8) single p 0 (omega arith) fits).fits in
      ap standard (get_or-zip2 bit_xor single double p 0 0 0 (omega arith) (omega arith))
      ∙ standard-xor y (slice_index double p)
      ∙ ap (bit_xor (standard y)) (at_double p lp ∙ ap (product 2) (sym (at_single p lp)))
      ∙ sym (three_at y small) ∙ ap (product 3) (at_single p lp)

  abbrev sum : List ℕ
  sum = zip2 bit_xor both (up 2 single)

  at_sum : (q t : ℕ) → q < 16 → t < 16 → slice_index (up 2 single) q ≡ slice_index single t → standard (slice_index sum q) ≡ bit_xor (product 3 (slice_index s q)) (slice_index s t)
  at_sum q t lq lt e =
      let both_len : length both ≡ 16 = length-zip2 bit_xor single double (omega arith) ∙ len in
      ap standard (get_or-zip2 bit_xor both (up 2 single) q 0 0 0 (omega arith) lq ∙ ap (bit_xor (slice_index both q)) e)
      ∙ standard-xor (slice_index both q) (slice_index single t)
      ∙ (λ i. bit_xor (at_both q lq i) (at_single t lt i))

  lane : (p q r t : ℕ) → p < 16 → q < 16 → r < 16 → t < 16 → slice_index (up 2 single) q ≡ slice_index single t
      → standard (bit_xor (bit_xor (slice_index sum q) (slice_index double p)) (slice_index single r))
      ≡ bit_xor (bit_xor (product 2 (slice_index s p)) (product 3 (slice_index s q))) (bit_xor (slice_index s r) (slice_index s t))
  lane p q r t lp lq lr lt e =
      standard-xor (bit_xor (slice_index sum q) (slice_index double p)) (slice_index single r)
      ∙ ap (λ (x : ℕ). bit_xor x (standard (slice_index single r))) (standard-xor (slice_index sum q) (slice_index double p))
      ∙ (λ i. bit_xor (bit_xor (at_sum q t lq lt e i) (at_double p lp i)) (at_single r lr i))
      ∙ turned_sum (product 3 (slice_index s q)) (slice_index s t) (product 2 (slice_index s p)) (slice_index s r)

  pub mixed_is : map standard (zip2 bit_xor (zip2 bit_xor (up 1 sum) double) (up 2 single)) ≡ mix_columns s
  mixed_is =
      ap (λ (d : List ℕ). map standard (zip2 bit_xor (zip2 bit_xor (up 1 sum) d) (up 2 single))) (eta double double_len)
      ∙ (λ i. lane 0 1 2 3 (lit< tt) (lit< tt) (lit< tt) (lit< tt) refl i
      ∷ lane 1 2 3 0 (lit< tt) (lit< tt) (lit< tt) (lit< tt) refl i
      ∷ lane 2 3 0 1 (lit< tt) (lit< tt) (lit< tt) (lit< tt) refl i
      ∷ lane 3 0 1 2 (lit< tt) (lit< tt) (lit< tt) (lit< tt) refl i
      ∷ lane 4 5 6 7 (lit< tt) (lit< tt) (lit< tt) (lit< tt) refl i
      ∷ lane 5 6 7 4 (lit< tt) (lit< tt) (lit< tt) (lit< tt) refl i
      ∷ lane 6 7 4 5 (lit< tt) (lit< tt) (lit< tt) (lit< tt) refl i
      ∷ lane 7 4 5 6 (lit< tt) (lit< tt) (lit< tt) (lit< tt) refl i
      ∷ lane 8 9 10 11 (lit< tt) (lit< tt) (lit< tt) (lit< tt) refl i
      ∷ lane 9 10 11 8 (lit< tt) (lit< tt) (lit< tt) (lit< tt) refl i
      ∷ lane 10 11 8 9 (lit< tt) (lit< tt) (lit< tt) (lit< tt) refl i
      ∷ lane 11 8 9 10 (lit< tt) (lit< tt) (lit< tt) (lit< tt) refl i
      ∷ lane 12 13 14 15 (lit< tt) (lit< tt) (lit< tt) (lit< tt) refl i
      ∷ lane 13 14 15 12 (lit< tt) (lit< tt) (lit< tt) (lit< tt) refl i
      ∷ lane 14 15 12 13 (lit< tt) (lit< tt) (lit< tt) (lit< tt) refl i
      ∷ lane 15 12 13 14 (lit< tt) (lit< tt) (lit< tt) (lit< tt) refl i ∷ [])
