-- A word of the schedule, case by case.
use Rattle.std.proofs.Common.{◌≡◌, ◌≢◌, ℕ, ◌+◌, ◌-◌, ◌*◌, ◌/◌, ◌%◌, ◌==◌, ◌<◌, ◌≤◌, ◌++◌, suc, zero, length, take, set, append_assoc, length-set, sym, ap, ◌∙◌, arith, Bool, true, false, if◌then◌else◌, List, [], ◌∷◌, slice_index, bit_xor, refl}
use Rattle.std.proofs.lemmas.Bool.{ne_eqb}
use Rattle.lr_aes.specs.Cipher.{next_word, word_of, add_words, scheduled, schedule, sub_byte, round_constant}
use Rattle.std.proofs.lemmas.List.{take_more_set, get_or-take}
use Rattle.std.proofs.Math.Nat.{div-lt_iff_lt-mul}

pub first_case : (nk i a b c d : ℕ) → i % nk ≡ 0 → scheduled nk i (a ∷ b ∷ c ∷ d ∷ [])
    ≡ bit_xor (sub_byte b) (round_constant (i / nk - 1)) ∷ sub_byte c ∷ sub_byte d ∷ sub_byte a ∷ []
first_case nk i a b c d h = rw h refl

same_either : (b : Bool) (l : List ℕ) → (if b then l else l) ≡ l
same_either true l = refl
same_either false l = refl

pub short_case : (nk i a b c d : ℕ) → i % nk ≢ 0 → nk ≢ 8 → scheduled nk i (a ∷ b ∷ c ∷ d ∷ []) ≡ a ∷ b ∷ c ∷ d ∷ []
short_case nk i a b c d h k =
    let e : (i % nk == 0) ≡ false = ne_eqb (i % nk) 0 h in
    let f : (nk == 8) ≡ false = ne_eqb nk 8 k in
    rw (e, f) (same_either (i % nk == 4) (a ∷ b ∷ c ∷ d ∷ []))

pub middle_case : (nk i a b c d : ℕ) → nk ≡ 8 → i % nk ≡ 4 → scheduled nk i (a ∷ b ∷ c ∷ d ∷ [])
    ≡ sub_byte a ∷ sub_byte b ∷ sub_byte c ∷ sub_byte d ∷ []
middle_case nk i a b c d k h =
    let f : (nk == 8) ≡ true = ap (λ (n : ℕ). n == 8) k in
    rw (h, f) refl

pub other_case : (nk i a b c d : ℕ) → i % nk ≢ 0 → i % nk ≢ 4 → scheduled nk i (a ∷ b ∷ c ∷ d ∷ []) ≡ a ∷ b ∷ c ∷ d ∷ []
other_case nk i a b c d h k =
    let e : (i % nk == 0) ≡ false = ne_eqb (i % nk) 0 h in
    let f : (i % nk == 4) ≡ false = ne_eqb (i % nk) 4 k in
    rw (e, f) refl

-- the constants are enough
pub few : (nk i : ℕ) → 4 ≤ nk → nk ≤ 8 → i < 4 * (nk + 7) → i / nk < 11
few nk i low high lt = (div-lt_iff_lt-mul {k = nk} {x = i} {y = 11} (omega arith)).1 (omega arith)

-- a word of the front
word_of-take : (w : List ℕ) (n j : ℕ) → 4 * j + 4 ≤ n → word_of (take n w) j ≡ word_of w j
word_of-take w n j le =
    let l0 : 4 * j < n = omega arith in
    let l1 : 4 * j + 1 < n = omega arith in
    let l2 : 4 * j + 2 < n = omega arith in
    let l3 : 4 * j + 3 < n = omega arith in
    (λ k. get_or-take n w (4 * j) 0 l0 k ∷ get_or-take n w (4 * j + 1) 0 l1 k ∷ get_or-take n w (4 * j + 2) 0 l2 k ∷ get_or-take n w (4 * j + 3) 0 l3 k ∷ [])

pub next_word-take : (nk : ℕ) (w : List ℕ) (i : ℕ) → 1 ≤ nk → nk ≤ i → next_word nk (take (4 * i) w) i ≡ next_word nk w i
unfolding next_word
next_word-take nk w i pos le =
    let near : 4 * (i - 1) + 4 ≤ 4 * i = omega arith in
    let far : 4 * (i - nk) + 4 ≤ 4 * i = omega arith in
    (λ k. add_words (word_of-take w (4 * i) (i - nk) far k) (scheduled nk i (word_of-take w (4 * i) (i - 1) near k)))

pub four_written : (w : List ℕ) (n a b c d : ℕ) → n + 4 ≤ length w
    → take (n + 4) (set (set (set (set w n a) (n + 1) b) (n + 2) c) (n + 3) d) ≡ take n w ++ (a ∷ b ∷ c ∷ d ∷ [])
four_written w n a b c d room =
    let w1 : List ℕ = set w n a in
    let w2 : List ℕ = set w1 (n + 1) b in
    let w3 : List ℕ = set w2 (n + 2) c in
    let n1 : length w1 ≡ length w = length-set w n a in
    let n2 : length w2 ≡ length w = length-set w1 (n + 1) b ∙ n1 in
    let n3 : length w3 ≡ length w = length-set w2 (n + 2) c ∙ n2 in
    let e4 : take (n + 4) (set w3 (n + 3) d) ≡ take (n + 3) w3 ++ (d ∷ []) = ap (λ m. take m (set w3 (n + 3) d)) (omega arith) ∙ take_more_set w3 (n + 3) d (omega arith) in
    let e3 : take (n + 3) w3 ≡ take (n + 2) w2 ++ (c ∷ []) = ap (λ m. take m w3) (omega arith) ∙ take_more_set w2 (n + 2) c (omega arith) in
    let e2 : take (n + 2) w2 ≡ take (n + 1) w1 ++ (b ∷ []) = ap (λ m. take m w2) (omega arith) ∙ take_more_set w1 (n + 1) b (omega arith) in
    let e1 : take (n + 1) w1 ≡ take n w ++ (a ∷ []) = take_more_set w n a (omega arith) in
    rw (e4, e3, e2, e1) (simp append_assoc)

pub four_of : (r : List ℕ) → length r ≡ 4 → slice_index r 0 ∷ slice_index r 1 ∷ slice_index r 2 ∷ slice_index r 3 ∷ [] ≡ r
four_of [] e = absurd (omega arith)
four_of (a ∷ []) e = absurd (omega arith)
four_of (a ∷ b ∷ []) e = absurd (omega arith)
four_of (a ∷ b ∷ c ∷ []) e = absurd (omega arith)
four_of (a ∷ b ∷ c ∷ d ∷ []) e = refl
four_of (a ∷ b ∷ c ∷ d ∷ x ∷ r) e = absurd (omega arith)

pub word_more : (nk : ℕ) (key w : List ℕ) (i : ℕ) → 1 ≤ nk → nk ≤ i → take (4 * i) w ≡ schedule nk key (i - nk) → take (4 * i) w ++ next_word nk w i ≡ schedule nk key (i + 1 - nk)
unfolding schedule
word_more nk key w i pos le h =
    let at_i : nk + (i - nk) ≡ i = omega arith in
    let next : suc (i - nk) ≡ i + 1 - nk = omega arith in
    let same : next_word nk w i ≡ next_word nk (schedule nk key (i - nk)) (nk + (i - nk)) =
    sym (next_word-take nk w i pos le) ∙ (λ k. next_word nk (h k) (sym at_i k)) in
    (λ k. h k ++ same k) ∙ ap (schedule nk key) next
