-- A key in front of its round keys, and the cipher by the front of an array.
use Rattle.std.proofs.Common.{◌≡◌, ℕ, zero, suc, ◌+◌, ◌-◌, ◌*◌, ◌/◌, ◌%◌, ◌<◌, ◌≤◌, ◌++◌, List, [], ◌∷◌, length, take, length-take-le, slice_index, bit_xor, refl, sym, ap, subst, ◌∙◌, arith, lit<, append_assoc}
use Rattle.std.proofs.lemmas.List.{get_or-take, append-nil, take-take}
use Rattle.std.proofs.Math.Seq.{take-append_seam}
use Rattle.lr_aes.specs.Cipher.{add_round_key, state_of, mix_columns, shift_rows, sub_bytes, round, last_round, rounds, cipher, schedule, next_word}
use Rattle.lr_aes.specs.Key.{expanded, encrypted, IsExpanded}
use Rattle.lr_aes.specs.Counter.{IsCounterMode, counter_mode, with_stream, stream_byte}

-- ---- the key stands in front

abbrev Begins : List ℕ → List ℕ → Type 0
Begins key w = (rest : List ℕ) × (w ≡ key ++ rest)

begins : (nk n : ℕ) (key : List ℕ) → Begins key (schedule nk key n)
unfolding schedule
begins nk zero key = ([], sym (append-nil key))
begins nk (suc n) key =
    let b = begins nk n key in
    let more : List ℕ = next_word nk (schedule nk key n) (nk + n) in
    (b.0 ++ more, ap (λ (w : List ℕ). w ++ more) b.1 ∙ append_assoc key b.0 more)

pub take-schedule : (nk n : ℕ) (key : List ℕ) → take (length key) (schedule nk key n) ≡ key
take-schedule nk n key =
    let b = begins nk n key in
    ap (take (length key)) b.1 ∙ take-append_seam key b.0

-- the key is the front of its expanded key
take-expanded : (key : List ℕ) → take (length key) (expanded key) ≡ key
unfolding expanded
take-expanded key = take-schedule (length key / 4) (3 * (length key / 4) + 28) key

pub front : (key w : List ℕ) (words : ℕ) → length key ≡ 4 * words → take (16 * (words + 7)) w ≡ expanded key → take (4 * words) w ≡ key
front key w words len e =
    sym (take-take (4 * words) (16 * (words + 7)) w (omega arith)) ∙ ap (take (4 * words)) e ∙ ap (λ (n : ℕ). take n (expanded key)) (sym len) ∙ take-expanded key

pub keeps : (key w : List ℕ) (words : ℕ) → 4 ≤ words → words ≤ 8 → length key ≡ 4 * words → length w ≡ 240 → take (16 * (words + 7)) w ≡ expanded key
    → IsExpanded words w
keeps key w words low high len long e = (low, high, long, e ∙ sym (ap expanded (front key w words len e)))

-- ---- only the round keys are read

sixteen : (f g : ℕ → ℕ) → ((k : ℕ) → k < 16 → f k ≡ g k) → state_of f ≡ state_of g
sixteen f g h = λ i. h 0 (lit< tt) i ∷ h 1 (lit< tt) i ∷ h 2 (lit< tt) i ∷ h 3 (lit< tt) i ∷ h 4 (lit< tt) i ∷ h 5 (lit< tt) i ∷ h 6 (lit< tt) i
    ∷ h 7 (lit< tt) i ∷ h 8 (lit< tt) i ∷ h 9 (lit< tt) i ∷ h 10 (lit< tt) i ∷ h 11 (lit< tt) i ∷ h 12 (lit< tt) i ∷ h 13 (lit< tt) i
    ∷ h 14 (lit< tt) i ∷ h 15 (lit< tt) i ∷ []

key-take : (m : ℕ) (w : List ℕ) (n : ℕ) (s : List ℕ) → 16 * n + 16 ≤ m → add_round_key (take m w) n s ≡ add_round_key w n s
key-take m w n s le =
    sixteen (λ k. bit_xor (slice_index s k) (slice_index (take m w) (16 * n + k))) (λ k. bit_xor (slice_index s k) (slice_index w (16 * n + k)))
    (λ k lk. ap (bit_xor (slice_index s k)) (get_or-take m w (16 * n + k) 0 (omega arith)))

rounds-take : (m : ℕ) (w s : List ℕ) (n : ℕ) → 16 * n + 16 ≤ m → rounds (take m w) s n ≡ rounds w s n
unfolding rounds round
rounds-take m w s zero le = key-take m w 0 s le
rounds-take m w s (suc n) le =
    key-take m w (suc n) (mix_columns (shift_rows (sub_bytes (rounds (take m w) s n)))) le
    ∙ ap (λ (t : List ℕ). add_round_key w (suc n) (mix_columns (shift_rows (sub_bytes t)))) (rounds-take m w s n (omega arith))

cipher-take : (m : ℕ) (w : List ℕ) (n : ℕ) (s : List ℕ) → 16 * n + 32 ≤ m → cipher n (take m w) s ≡ cipher n w s
unfolding last_round
cipher-take m w n s le =
    key-take m w (suc n) (shift_rows (sub_bytes (rounds (take m w) s n))) (omega arith)
    ∙ ap (λ (t : List ℕ). add_round_key w (suc n) (shift_rows (sub_bytes t))) (rounds-take m w s n (omega arith))

-- the cipher of the code is that of the key
pub cipher_is : (words : ℕ) (keys key s : List ℕ) → key ≡ take (4 * words) keys → IsExpanded words keys → cipher (words + 6 - 1) keys s ≡ encrypted key s
unfolding encrypted
cipher_is words keys key s e h =
    let len : length (take (4 * words) keys) ≡ 4 * words = length-take-le (4 * words) keys (omega (arith, h.1, h.2)) in
    let n : words + 6 - 1 ≡ length key / 4 + 5 = omega (arith, len, ap (λ (l : List ℕ). length l) e) in
    let small : 16 * (words + 6 - 1) + 32 ≤ 16 * (words + 7) = omega arith in
    sym (cipher-take (16 * (words + 7)) keys (words + 6 - 1) s small)
    ∙ (λ i. cipher (n i) ((h.3 ∙ ap expanded (sym e)) i) s)

-- ---- counter mode as a function

stream_same : (stream : ℕ → ℕ) (t : ℕ) (text out : List ℕ) → length out ≡ length text
    → ((k : ℕ) → k < length text → slice_index out k ≡ bit_xor (slice_index text k) (stream (t + k))) → out ≡ with_stream stream t text
unfolding with_stream
stream_same stream t [] [] len h = refl
stream_same stream t [] (y ∷ out) len h = absurd (omega arith)
stream_same stream t (x ∷ text) [] len h = absurd (omega arith)
stream_same stream t (x ∷ text) (y ∷ out) len h =
    let at : t + 0 ≡ t = omega arith in
    let first : y ≡ bit_xor x (stream t) = h 0 (omega arith) ∙ ap (λ (k : ℕ). bit_xor x (stream k)) at in
    let others : out ≡ with_stream stream (suc t) text = stream_same stream (suc t) text out (omega arith)
    (λ k lk. let next : t + suc k ≡ suc t + k = omega arith in h (suc k) (omega arith) ∙ ap (λ (j : ℕ). bit_xor (slice_index text k) (stream j)) next) in
    λ i. first i ∷ others i

at : (k : ℕ) → k ≡ 0 + k
at k = omega arith

pub counter_is : (e d : List ℕ → List ℕ) (first text out : List ℕ) → ((s : List ℕ) → e s ≡ d s) → IsCounterMode e first text out → out ≡ counter_mode d first text
counter_is e d first text out same h =
    subst (λ (f : List ℕ → List ℕ). out ≡ counter_mode f first text) (λ i s. same s i) (stream_same (stream_byte e first) 0 text out h.0 (λ k lk. h.1 k lk ∙ ap (λ (j : ℕ). bit_xor (slice_index text k) (stream_byte e first j)) (at k)))
