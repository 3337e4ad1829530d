-- A range of a chunk's text that begins at a block is counter mode of the same range, from the block's counter on.
use Rattle.std.proofs.Common.{◌≡◌, ℕ, zero, suc, ◌+◌, ◌*◌, ◌/◌, ◌%◌, ◌^◌, ◌<◌, List, [], ◌∷◌, take, drop, replicate, slice_index, bit_xor, refl, sym, ap, ◌∙◌, arith}
use Rattle.std.specs.Int.{w32, w128, from_be_bytes, to_be_bytes}
use Rattle.std.proofs.lemmas.Nat.{from_be_bytes-to_be_bytes_4}
use Rattle.lr_aes.specs.Key.{encrypted}
use Rattle.lr_aes.specs.Counter.{counter_at, stream_byte, with_stream, counter_mode}
use Rattle.lr_convergent.specs.Sealed.{chunk_text}

-- ---- parts of a sum

take-with_stream : (stream : ℕ → ℕ) (t n : ℕ) (text : List ℕ) → take n (with_stream stream t text) ≡ with_stream stream t (take n text)
unfolding with_stream
take-with_stream stream t zero text = refl
take-with_stream stream t (suc n) [] = refl
take-with_stream stream t (suc n) (x ∷ text) = ap (λ (l : List ℕ). bit_xor x (stream t) ∷ l) (take-with_stream stream (suc t) n text)

drop-with_stream : (stream : ℕ → ℕ) (t n : ℕ) (text : List ℕ) → drop n (with_stream stream t text) ≡ with_stream stream (t + n) (drop n text)
unfolding with_stream
drop-with_stream stream t zero text = let at : t ≡ t + 0 = omega arith in ap (λ (k : ℕ). with_stream stream k text) at
drop-with_stream stream t (suc n) [] = refl
drop-with_stream stream t (suc n) (x ∷ text) =
    let at : suc t + n ≡ t + suc n = omega arith in
    drop-with_stream stream (suc t) n text ∙ ap (λ (k : ℕ). with_stream stream k (drop n text)) at

-- two streams that agree from these bytes on
same_stream : (s r : ℕ → ℕ) (t u : ℕ) (text : List ℕ) → ((k : ℕ) → s (t + k) ≡ r (u + k)) → with_stream s t text ≡ with_stream r u text
unfolding with_stream
same_stream s r t u [] h = refl
same_stream s r t u (x ∷ text) h =
    let t_here : t ≡ t + 0 = omega arith in
    let u_here : u + 0 ≡ u = omega arith in
    let first : s t ≡ r u = ap s t_here ∙ h 0 ∙ ap r u_here in
    let others : with_stream s (suc t) text ≡ with_stream r (suc u) text =
    same_stream s r (suc t) (suc u) text (λ k.
    let t_next : suc t + k ≡ t + suc k = omega arith in
    let u_next : u + suc k ≡ suc u + k = omega arith in
    ap s t_next ∙ h (suc k) ∙ ap r u_next) in
    λ i. bit_xor x (first i) ∷ others i

-- ---- counters

-- the first 12 bytes of a counter below 2^32 are zeros
short_counter : (n : ℕ) → n < 2 ^ 32 → to_be_bytes w128 n ≡ 0 ∷ 0 ∷ 0 ∷ 0 ∷ 0 ∷ 0 ∷ 0 ∷ 0 ∷ 0 ∷ 0 ∷ 0 ∷ 0 ∷ to_be_bytes w32 n
short_counter n small =
    let b15 : n / 256 ^ 15 % 256 ≡ 0 = omega arith in
    let b14 : n / 256 ^ 14 % 256 ≡ 0 = omega arith in
    let b13 : n / 256 ^ 13 % 256 ≡ 0 = omega arith in
    let b12 : n / 256 ^ 12 % 256 ≡ 0 = omega arith in
    let b11 : n / 256 ^ 11 % 256 ≡ 0 = omega arith in
    let b10 : n / 256 ^ 10 % 256 ≡ 0 = omega arith in
    let b9 : n / 256 ^ 9 % 256 ≡ 0 = omega arith in
    let b8 : n / 256 ^ 8 % 256 ≡ 0 = omega arith in
    let b7 : n / 256 ^ 7 % 256 ≡ 0 = omega arith in
    let b6 : n / 256 ^ 6 % 256 ≡ 0 = omega arith in
    let b5 : n / 256 ^ 5 % 256 ≡ 0 = omega arith in
    let b4 : n / 256 ^ 4 % 256 ≡ 0 = omega arith in
    λ i. b15 i ∷ b14 i ∷ b13 i ∷ b12 i ∷ b11 i ∷ b10 i ∷ b9 i ∷ b8 i ∷ b7 i ∷ b6 i ∷ b5 i ∷ b4 i ∷ to_be_bytes w32 n

counter_back : (n : ℕ) → n < 2 ^ 32 → from_be_bytes w128 (to_be_bytes w128 n) ≡ n
counter_back n small = ap (from_be_bytes w128) (short_counter n small) ∙ omega (arith, from_be_bytes-to_be_bytes_4 n small)

-- counting on from a counter is counting on from the first one
counts_on : (n k : ℕ) → n < 2 ^ 32 → counter_at (replicate 16 0) (n + k) ≡ counter_at (to_be_bytes w128 n) k
counts_on n k small =
    let sum : from_be_bytes w128 (replicate 16 0) + (n + k) ≡ n + k = omega arith in
    ap (λ (m : ℕ). to_be_bytes w128 (m % 2 ^ 128)) (sum ∙ ap (λ (m : ℕ). m + k) (sym (counter_back n small)))

streams_agree : (e : List ℕ → List ℕ) (block k : ℕ) → block < 2 ^ 32 → stream_byte e (replicate 16 0) (16 * block + k) ≡ stream_byte e (to_be_bytes w128 block) (0 + k)
streams_agree e block k small =
    let q : (16 * block + k) / 16 ≡ block + k / 16 = omega arith in
    let r : (16 * block + k) % 16 ≡ k % 16 = omega arith in
    let from : k ≡ 0 + k = omega arith in
    (λ i. slice_index (e (counter_at (replicate 16 0) (q i))) (r i)) ∙ ap (λ (c : List ℕ). slice_index (e c) (k % 16)) (counts_on block (k / 16) small)
    ∙ ap (stream_byte e (to_be_bytes w128 block)) from

-- ---- the range

pub range_text : (key text : List ℕ) (block count : ℕ) → block < 2 ^ 32 → take count (drop (16 * block) (chunk_text key text)) ≡ counter_mode (encrypted key) (to_be_bytes w128 block) (take count (drop (16 * block) text))
unfolding chunk_text
range_text key text block count small =
    let e : List ℕ → List ℕ = encrypted key in
    let from : 0 + 16 * block ≡ 16 * block = omega arith in
    ap (take count) (drop-with_stream (stream_byte e (replicate 16 0)) 0 (16 * block) text ∙ ap (λ (t : ℕ). with_stream (stream_byte e (replicate 16 0)) t (drop (16 * block) text)) from)
    ∙ take-with_stream (stream_byte e (replicate 16 0)) (16 * block) count (drop (16 * block) text)
    ∙ same_stream (stream_byte e (replicate 16 0)) (stream_byte e (to_be_bytes w128 block)) (16 * block) 0 (take count (drop (16 * block) text)) (λ k. streams_agree e block k small)
