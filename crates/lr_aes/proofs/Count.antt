-- inc32 is the count of 128 bits while the last 32 bits don't wrap.
use Rattle.std.proofs.Common.{◌≡◌, ℕ, zero, suc, ◌+◌, ◌-◌, ◌*◌, ◌/◌, ◌%◌, ◌^◌, ◌<◌, ◌≤◌, List, [], ◌∷◌, ◌++◌, length, take, drop, get_or, slice_index, bit_xor, refl, sym, ap, subst, ◌∙◌, arith, lit<, inl, inr, pow-suc}
use Rattle.std.specs.Int.{w32, w64, w128, from_be_bytes, to_be_bytes}
use Rattle.std.specs.Prelude.{nat_lt, if◌then◌else◌}
use Rattle.std.proofs.lemmas.Bool.{cases_lt, lt-ltb, le-ltb}
use Rattle.std.proofs.lemmas.Nat.{be_bytes_8, from_be_bytes-to_be_bytes_4, pow-add}
use Rattle.std.proofs.Math.Nat.{add_comm, mul_assoc, div-div-eq-div-mul, add-mul-div_right, add-mul-mod_self_right}
use Rattle.std.proofs.Math.Seq.{take-append_seam, drop-append_seam}
use Rattle.lr_field.specs.Polynomial.{AreBytes}
use Rattle.lr_aes.specs.Counter.{counter_at, stream_byte, with_stream, counter_mode}
use Rattle.lr_aes.specs.Gcm.{inc32, inc32_by, first_counter, gctr, gcm_text}

bytes_at : (bs : List ℕ) → AreBytes bs → (i : ℕ) → get_or bs i 0 < 256
bytes_at [] h i = lit< tt
bytes_at (b ∷ bs) h zero = h.0
bytes_at (b ∷ bs) h (suc i) = bytes_at bs h.1 i

some : (k : ℕ) → 0 < 256 ^ k
some zero = lit< tt
some (suc k) = omega (arith, pow-suc 256 k, some k)

-- byte k of a number of 128 bits, by its halves: a byte of the lower half, or one of the upper half
byte_at : (x y k : ℕ) → y < 2 ^ 64 → (x * 2 ^ 64 + y) / 256 ^ k % 256 ≡ if nat_lt k 8 then y / 256 ^ k % 256 else x / 256 ^ (k - 8) % 256
byte_at x y k ly = elim (cases_lt k 8) [
  | inl low ↦
      let parts : x * 2 ^ 64 + y ≡ y + x * 256 ^ (7 - k) * 256 * 256 ^ k =
      let whole : 7 - k + (1 + k) ≡ 8 = omega arith in
      let split : 256 ^ (7 - k) * (256 * 256 ^ k) ≡ 2 ^ 64 = sym (ap (λ (p : ℕ). 256 ^ (7 - k) * p) (pow-add 256 1 k)) ∙ sym (pow-add 256 (7 - k) (1 + k)) ∙ ap (λ (n : ℕ). 256 ^ n) whole in
      ap (λ (p : ℕ). x * p + y) (sym split) ∙ add_comm (x * (256 ^ (7 - k) * (256 * 256 ^ k))) y
      ∙ ap (λ (p : ℕ). y + p) (sym (mul_assoc x (256 ^ (7 - k)) (256 * 256 ^ k)) ∙ sym (mul_assoc (x * 256 ^ (7 - k)) 256 (256 ^ k))) in
      rw (lt-ltb k 8 low)
      (ap (λ (n : ℕ). n / 256 ^ k % 256) parts ∙ ap (λ (n : ℕ). n % 256) (add-mul-div_right y (x * 256 ^ (7 - k) * 256) {z = 256 ^ k} (some k))
      ∙ add-mul-mod_self_right (y / 256 ^ k) (x * 256 ^ (7 - k)) 256)
  | inr high ↦
      let half : (x * 2 ^ 64 + y) / 2 ^ 64 ≡ x = omega arith in
      let whole : 8 + (k - 8) ≡ k = omega arith in
      rw (le-ltb k 8 high)
      (ap (λ (n : ℕ). (x * 2 ^ 64 + y) / 256 ^ n % 256) (sym whole) ∙ ap (λ (p : ℕ). (x * 2 ^ 64 + y) / p % 256) (pow-add 256 8 (k - 8))
      ∙ ap (λ (n : ℕ). n % 256) (sym (div-div-eq-div-mul (x * 2 ^ 64 + y) (2 ^ 64) (256 ^ (k - 8))) ∙ ap (λ (n : ℕ). n / 256 ^ (k - 8)) half))
]

halves : (x y : ℕ) → y < 2 ^ 64 → to_be_bytes w128 (x * 2 ^ 64 + y) ≡ to_be_bytes w64 x ++ to_be_bytes w64 y
halves x y ly =
    let b : (k : ℕ) → (x * 2 ^ 64 + y) / 256 ^ k % 256 ≡ if nat_lt k 8 then y / 256 ^ k % 256 else x / 256 ^ (k - 8) % 256 = λ k. byte_at x y k ly in
    let b8 : (x * 2 ^ 64 + y) / 256 ^ 8 % 256 ≡ x % 256 = omega arith in
    let b0 : (x * 2 ^ 64 + y) % 256 ≡ y % 256 = omega arith in
    λ i. b 15 i ∷ b 14 i ∷ b 13 i ∷ b 12 i ∷ b 11 i ∷ b 10 i ∷ b 9 i ∷ b8 i ∷ b 7 i ∷ b 6 i ∷ b 5 i ∷ b 4 i ∷ b 3 i ∷ b 2 i ∷ b 1 i ∷ b0 i ∷ []

-- the block whose last four bytes are c
abbrev pub counted : List ℕ → ℕ → List ℕ
counted nonce c = nonce ++ to_be_bytes w32 c

be32-AreBytes : (c : ℕ) → AreBytes (to_be_bytes w32 c)
be32-AreBytes c = (omega arith, (omega arith, (omega arith, (omega arith, tt))))

low_half : (a8 a9 a10 a11 c : ℕ) → c < 2 ^ 32
    → from_be_bytes w64 (a8 ∷ a9 ∷ a10 ∷ a11 ∷ to_be_bytes w32 c) ≡ (((a8 * 256 + a9) * 256 + a10) * 256 + a11) * 2 ^ 32 + c
low_half a8 a9 a10 a11 c lc = omega (arith, from_be_bytes-to_be_bytes_4 c lc)

whole : (a0 a1 a2 a3 a4 a5 a6 a7 a8 a9 a10 a11 c : ℕ) → c < 2 ^ 32
    → from_be_bytes w128 (counted (a0 ∷ a1 ∷ a2 ∷ a3 ∷ a4 ∷ a5 ∷ a6 ∷ a7 ∷ a8 ∷ a9 ∷ a10 ∷ a11 ∷ []) c) ≡ from_be_bytes w64 (a0 ∷ a1 ∷ a2 ∷ a3 ∷ a4 ∷ a5 ∷ a6 ∷ a7 ∷ []) * 2 ^ 64 + ((((a8 * 256 + a9) * 256 + a10) * 256 + a11) * 2 ^ 32 + c)
whole a0 a1 a2 a3 a4 a5 a6 a7 a8 a9 a10 a11 c lc = omega (arith, from_be_bytes-to_be_bytes_4 c lc)

written : (a0 a1 a2 a3 a4 a5 a6 a7 a8 a9 a10 a11 c : ℕ) → AreBytes (a0 ∷ a1 ∷ a2 ∷ a3 ∷ a4 ∷ a5 ∷ a6 ∷ a7 ∷ a8 ∷ a9 ∷ a10 ∷ a11 ∷ []) → c < 2 ^ 32
    → to_be_bytes w128 (from_be_bytes w64 (a0 ∷ a1 ∷ a2 ∷ a3 ∷ a4 ∷ a5 ∷ a6 ∷ a7 ∷ []) * 2 ^ 64 + ((((a8 * 256 + a9) * 256 + a10) * 256 + a11) * 2 ^ 32 + c)) ≡ counted (a0 ∷ a1 ∷ a2 ∷ a3 ∷ a4 ∷ a5 ∷ a6 ∷ a7 ∷ a8 ∷ a9 ∷ a10 ∷ a11 ∷ []) c
written a0 a1 a2 a3 a4 a5 a6 a7 a8 a9 a10 a11 c h lc =
    let x : ℕ = from_be_bytes w64 (a0 ∷ a1 ∷ a2 ∷ a3 ∷ a4 ∷ a5 ∷ a6 ∷ a7 ∷ []) in
    let y : ℕ = (((a8 * 256 + a9) * 256 + a10) * 256 + a11) * 2 ^ 32 + c in
    let ly : y < 2 ^ 64 = omega arith in
    let bytes : List ℕ = a8 ∷ a9 ∷ a10 ∷ a11 ∷ to_be_bytes w32 c in
    let top : to_be_bytes w64 x ≡ a0 ∷ a1 ∷ a2 ∷ a3 ∷ a4 ∷ a5 ∷ a6 ∷ a7 ∷ [] =
    be_bytes_8 (a0 ∷ a1 ∷ a2 ∷ a3 ∷ a4 ∷ a5 ∷ a6 ∷ a7 ∷ []) x (omega arith) (bytes_at (a0 ∷ a1 ∷ a2 ∷ a3 ∷ a4 ∷ a5 ∷ a6 ∷ a7 ∷ []) (h.0, (h.1.0, (h.1.1.0, (h.1.1.1.0, (h.1.1.1.1.0, (h.1.1.1.1.1.0, (h.1.1.1.1.1.1.0, (h.1.1.1.1.1.1.1.0, tt))))))))) refl in
    let bottom : to_be_bytes w64 y ≡ bytes =
    be_bytes_8 bytes y (omega arith) (bytes_at bytes (h.1.1.1.1.1.1.1.1.0, (h.1.1.1.1.1.1.1.1.1.0, (h.1.1.1.1.1.1.1.1.1.1.0, (h.1.1.1.1.1.1.1.1.1.1.1.0, be32-AreBytes c))))) (sym (low_half a8 a9 a10 a11 c lc)) in
    halves x y ly ∙ (λ i. top i ++ bottom i)

more : (first x m c j : ℕ) → first ≡ x * 2 ^ 64 + (m * 2 ^ 32 + c) → x < 2 ^ 64 → m < 2 ^ 32 → c + j < 2 ^ 32
    → (first + j) % 2 ^ 128 ≡ x * 2 ^ 64 + (m * 2 ^ 32 + (c + j))
more first x m c j is lx lm lt = omega arith

explicit : (a0 a1 a2 a3 a4 a5 a6 a7 a8 a9 a10 a11 c j : ℕ) → AreBytes (a0 ∷ a1 ∷ a2 ∷ a3 ∷ a4 ∷ a5 ∷ a6 ∷ a7 ∷ a8 ∷ a9 ∷ a10 ∷ a11 ∷ []) → c + j < 2 ^ 32 → counter_at (counted (a0 ∷ a1 ∷ a2 ∷ a3 ∷ a4 ∷ a5 ∷ a6 ∷ a7 ∷ a8 ∷ a9 ∷ a10 ∷ a11 ∷ []) c) j ≡ counted (a0 ∷ a1 ∷ a2 ∷ a3 ∷ a4 ∷ a5 ∷ a6 ∷ a7 ∷ a8 ∷ a9 ∷ a10 ∷ a11 ∷ []) (c + j)
explicit a0 a1 a2 a3 a4 a5 a6 a7 a8 a9 a10 a11 c j h lt =
    let x : ℕ = from_be_bytes w64 (a0 ∷ a1 ∷ a2 ∷ a3 ∷ a4 ∷ a5 ∷ a6 ∷ a7 ∷ []) in
    let y : ℕ = (((a8 * 256 + a9) * 256 + a10) * 256 + a11) * 2 ^ 32 + (c + j) in
    let lx : x < 2 ^ 64 = omega (arith, h.0, h.1.0, h.1.1.0, h.1.1.1.0, h.1.1.1.1.0, h.1.1.1.1.1.0, h.1.1.1.1.1.1.0, h.1.1.1.1.1.1.1.0) in
    let ly : y < 2 ^ 64 = omega (arith, h.1.1.1.1.1.1.1.1.0, h.1.1.1.1.1.1.1.1.1.0, h.1.1.1.1.1.1.1.1.1.1.0, h.1.1.1.1.1.1.1.1.1.1.1.0) in
    let first : ℕ = from_be_bytes w128 (counted (a0 ∷ a1 ∷ a2 ∷ a3 ∷ a4 ∷ a5 ∷ a6 ∷ a7 ∷ a8 ∷ a9 ∷ a10 ∷ a11 ∷ []) c) in
    let is : first ≡ x * 2 ^ 64 + ((((a8 * 256 + a9) * 256 + a10) * 256 + a11) * 2 ^ 32 + c) = whole a0 a1 a2 a3 a4 a5 a6 a7 a8 a9 a10 a11 c (omega arith) in
    let sum : (first + j) % 2 ^ 128 ≡ x * 2 ^ 64 + y = more first x (((a8 * 256 + a9) * 256 + a10) * 256 + a11) c j is lx (omega (arith, h.1.1.1.1.1.1.1.1.0, h.1.1.1.1.1.1.1.1.1.0, h.1.1.1.1.1.1.1.1.1.1.0, h.1.1.1.1.1.1.1.1.1.1.1.0)) lt in
    ap (to_be_bytes w128) sum ∙ written a0 a1 a2 a3 a4 a5 a6 a7 a8 a9 a10 a11 (c + j) h lt

AreBytes-of : (bs : List ℕ) → ((i : ℕ) → get_or bs i 0 < 256) → AreBytes bs
AreBytes-of [] h = tt
AreBytes-of (b ∷ bs) h = (h 0, AreBytes-of bs (λ i. h (suc i)))

pub counter_counts : (nonce : List ℕ) (c j : ℕ) → length nonce ≡ 12 → ((i : ℕ) → get_or nonce i 0 < 256) → c + j < 2 ^ 32 → counter_at (counted nonce c) j ≡ counted nonce (c + j)
counter_counts [] c j len h lt = absurd (omega arith)
counter_counts (a0 ∷ []) c j len h lt = absurd (omega arith)
counter_counts (a0 ∷ a1 ∷ []) c j len h lt = absurd (omega arith)
counter_counts (a0 ∷ a1 ∷ a2 ∷ []) c j len h lt = absurd (omega arith)
counter_counts (a0 ∷ a1 ∷ a2 ∷ a3 ∷ []) c j len h lt = absurd (omega arith)
counter_counts (a0 ∷ a1 ∷ a2 ∷ a3 ∷ a4 ∷ []) c j len h lt = absurd (omega arith)
counter_counts (a0 ∷ a1 ∷ a2 ∷ a3 ∷ a4 ∷ a5 ∷ []) c j len h lt = absurd (omega arith)
counter_counts (a0 ∷ a1 ∷ a2 ∷ a3 ∷ a4 ∷ a5 ∷ a6 ∷ []) c j len h lt = absurd (omega arith)
counter_counts (a0 ∷ a1 ∷ a2 ∷ a3 ∷ a4 ∷ a5 ∷ a6 ∷ a7 ∷ []) c j len h lt = absurd (omega arith)
counter_counts (a0 ∷ a1 ∷ a2 ∷ a3 ∷ a4 ∷ a5 ∷ a6 ∷ a7 ∷ a8 ∷ []) c j len h lt = absurd (omega arith)
counter_counts (a0 ∷ a1 ∷ a2 ∷ a3 ∷ a4 ∷ a5 ∷ a6 ∷ a7 ∷ a8 ∷ a9 ∷ []) c j len h lt = absurd (omega arith)
counter_counts (a0 ∷ a1 ∷ a2 ∷ a3 ∷ a4 ∷ a5 ∷ a6 ∷ a7 ∷ a8 ∷ a9 ∷ a10 ∷ []) c j len h lt = absurd (omega arith)
counter_counts (a0 ∷ a1 ∷ a2 ∷ a3 ∷ a4 ∷ a5 ∷ a6 ∷ a7 ∷ a8 ∷ a9 ∷ a10 ∷ a11 ∷ []) c j len h lt = explicit a0 a1 a2 a3 a4 a5 a6 a7 a8 a9 a10 a11 c j (AreBytes-of (a0 ∷ a1 ∷ a2 ∷ a3 ∷ a4 ∷ a5 ∷ a6 ∷ a7 ∷ a8 ∷ a9 ∷ a10 ∷ a11 ∷ []) h) lt
counter_counts (a0 ∷ a1 ∷ a2 ∷ a3 ∷ a4 ∷ a5 ∷ a6 ∷ a7 ∷ a8 ∷ a9 ∷ a10 ∷ a11 ∷ b ∷ bs) c j len h lt = absurd (omega arith)

pub inc_counts : (nonce : List ℕ) (c j : ℕ) → length nonce ≡ 12 → c + j < 2 ^ 32 → inc32_by j (counted nonce c) ≡ counted nonce (c + j)
unfolding inc32_by inc32
inc_counts nonce c zero len lt = let at : c ≡ c + 0 = omega arith in ap (counted nonce) at
inc_counts nonce c (suc j) len lt =
    let d : ℕ = c + j in
    let ld : d < 2 ^ 32 = omega arith in
    let next : (d + 1) % 2 ^ 32 ≡ c + suc j = omega arith in
    let front : take 12 (counted nonce d) ≡ nonce = ap (λ (n : ℕ). take n (counted nonce d)) (sym len) ∙ take-append_seam nonce (to_be_bytes w32 d) in
    let back : drop 12 (counted nonce d) ≡ to_be_bytes w32 d = ap (λ (n : ℕ). drop n (counted nonce d)) (sym len) ∙ drop-append_seam nonce (to_be_bytes w32 d) in
    ap inc32 (inc_counts nonce c j len (omega arith))
    ∙ (λ i. front i ++ to_be_bytes w32 ((from_be_bytes w32 (back i) + 1) % 2 ^ 32))
    ∙ ap (λ (n : ℕ). nonce ++ to_be_bytes w32 ((n + 1) % 2 ^ 32)) (from_be_bytes-to_be_bytes_4 d ld)
    ∙ ap (counted nonce) next

inc_one : (nonce : List ℕ) → length nonce ≡ 12 → inc32 (first_counter nonce) ≡ counted nonce 2
unfolding inc32_by
inc_one nonce len = inc_counts nonce 1 1 len (lit< tt)

-- the streams agree
stream_same : (s r : ℕ → ℕ) (t : ℕ) (text : List ℕ) → ((k : ℕ) → k < t + length text → s k ≡ r k) → with_stream s t text ≡ with_stream r t text
unfolding with_stream
stream_same s r t [] h = refl
stream_same s r t (x ∷ text) h =
    let first : s t ≡ r t = h t (omega arith) in
    let others : with_stream s (suc t) text ≡ with_stream r (suc t) text = stream_same s r (suc t) text (λ k lk. h k (omega arith)) in
    λ i. bit_xor x (first i) ∷ others i

pub gcm_is_count : (e : List ℕ → List ℕ) (nonce text : List ℕ) → length nonce ≡ 12 → ((i : ℕ) → get_or nonce i 0 < 256) → length text ≤ 2 ^ 32
    → counter_mode e (counted nonce 2) text ≡ gcm_text e nonce text
gcm_is_count e nonce text len bytes small =
    let second : inc32 (first_counter nonce) ≡ counted nonce 2 = inc_one nonce len in
    stream_same (stream_byte e (counted nonce 2)) (λ t. slice_index (e (inc32_by (t / 16) (inc32 (first_counter nonce)))) (t % 16)) 0 text
    (λ t lt.
    let low : 2 + t / 16 < 2 ^ 32 = omega arith in
    ap (λ (b : List ℕ). slice_index (e b) (t % 16))
    (counter_counts nonce 2 (t / 16) len bytes low ∙ sym (ap (inc32_by (t / 16)) second ∙ inc_counts nonce 2 (t / 16) len low)))
