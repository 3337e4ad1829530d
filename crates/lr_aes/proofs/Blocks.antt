-- GHASH: the sum of products with powers, and the running product.
use Rattle.std.proofs.Common.{◌≡◌, ◌≢◌, ◌==◌, Bool, true, inl, inr, zero-mul, one-mul, pow-suc, subst, lit<, ℕ, zero, suc, ◌+◌, ◌-◌, ◌*◌, ◌/◌, ◌^◌, ◌<◌, ◌≤◌, List, [], ◌∷◌, length, bit_xor, refl, sym, ap, ◌∙◌, arith}
use Rattle.std.proofs.lemmas.Nat.{xor_shr}
use Rattle.std.specs.Int.{bit_at}
use lib.Bits.{xor_assoc, xor_zero_r}
use Rattle.std.proofs.lemmas.Bool.{cases_lt, eqb-true}
use Rattle.std.proofs.lemmas.Nat.{xor_lt}
use Rattle.std.proofs.lemmas.Nat.Bits.{bit_at-lt, bit_at-pow_same, bit_at-pow_other}
use Rattle.lr_field.proofs.Linear.{Additive, additive-zero, additive-same, bit_gate, xor_swap}
use Rattle.lr_field.proofs.AllBelow.{all_below, all_below-at}
use Rattle.lr_aes.specs.Ghash.{times_x, shifted, partial_product, block_product, power, ghash}
use Rattle.lr_aes.specs.Products.{running}

pub times_x-xor : (a b : ℕ) → times_x (bit_xor a b) ≡ bit_xor (times_x a) (times_x b)
unfolding times_x
times_x-xor a b =
    let r : ℕ = 0xe1 * 2 ^ 120 in
    (λ i. bit_xor (xor_shr a b 1 i) (bit_gate a b 0 r i))
    ∙ xor_swap (a / 2) (b / 2) (bit_at a 0 * r) (bit_at b 0 * r)

pub product-xor_l : (a b y n : ℕ) → partial_product (bit_xor a b) y n ≡ bit_xor (partial_product a y n) (partial_product b y n)
unfolding partial_product
product-xor_l a b y zero = refl
product-xor_l a b y (suc n) =
    (λ i. bit_xor (product-xor_l a b y n i) (bit_gate a b (127 - n) (shifted y n) i))
    ∙ xor_swap (partial_product a y n) (partial_product b y n) (bit_at a (127 - n) * shifted y n) (bit_at b (127 - n) * shifted y n)

pub block_product-xor_l : (a b y : ℕ) → block_product (bit_xor a b) y ≡ bit_xor (block_product a y) (block_product b y)
unfolding block_product
block_product-xor_l a b y = product-xor_l a b y 128

pub shifted-xor : (a b n : ℕ) → shifted (bit_xor a b) n ≡ bit_xor (shifted a n) (shifted b n)
unfolding shifted
shifted-xor a b zero = refl
shifted-xor a b (suc n) = ap times_x (shifted-xor a b n) ∙ times_x-xor (shifted a n) (shifted b n)

pub scaled-xor : (x u v : ℕ) → x < 2 → x * bit_xor u v ≡ bit_xor (x * u) (x * v)
scaled-xor zero u v lt = simp zero-mul
scaled-xor (suc zero) u v lt = simp one-mul
scaled-xor (suc (suc x)) u v lt = absurd (omega arith)

pub product-xor_r : (x a b n : ℕ) → partial_product x (bit_xor a b) n ≡ bit_xor (partial_product x a n) (partial_product x b n)
unfolding partial_product
product-xor_r x a b zero = refl
product-xor_r x a b (suc n) =
    let bit : ℕ = bit_at x (127 - n) in
    let part : bit * shifted (bit_xor a b) n ≡ bit_xor (bit * shifted a n) (bit * shifted b n) =
    ap (λ (u : ℕ). bit * u) (shifted-xor a b n) ∙ scaled-xor bit (shifted a n) (shifted b n) (bit_at-lt x (127 - n)) in
    (λ i. bit_xor (product-xor_r x a b n i) (part i))
    ∙ xor_swap (partial_product x a n) (partial_product x b n) (bit * shifted a n) (bit * shifted b n)

pub times_x-lt : (v : ℕ) → v < 2 ^ 128 → times_x v < 2 ^ 128
unfolding times_x
times_x-lt v lt = xor_lt 128 (v / 2) (bit_at v 0 * (0xe1 * 2 ^ 120)) (omega arith) (omega (arith, bit_at-lt v 0))

pub shifted-lt : (v n : ℕ) → v < 2 ^ 128 → shifted v n < 2 ^ 128
unfolding shifted
shifted-lt v zero lt = lt
shifted-lt v (suc n) lt = times_x-lt (shifted v n) (shifted-lt v n lt)

pub gate-lt : (b v : ℕ) → b < 2 → v < 2 ^ 128 → b * v < 2 ^ 128
gate-lt zero v lb lv = rw (zero-mul v) (lit< tt)
gate-lt (suc zero) v lb lv = rw (one-mul v) lv
gate-lt (suc (suc b)) v lb lv = absurd (omega arith)

pub product-lt : (x y n : ℕ) → y < 2 ^ 128 → partial_product x y n < 2 ^ 128
unfolding partial_product
product-lt x y zero lt = lit< tt
product-lt x y (suc n) lt =
    xor_lt 128 (partial_product x y n) (bit_at x (127 - n) * shifted y n) (product-lt x y n lt)
    (gate-lt (bit_at x (127 - n)) (shifted y n) (bit_at-lt x (127 - n)) (shifted-lt y n lt))

pub block_product-lt : (x y : ℕ) → y < 2 ^ 128 → block_product x y < 2 ^ 128
unfolding block_product
block_product-lt x y lt = product-lt x y 128 lt

-- the products of a power of two
pub pow_before : (j z n : ℕ) → n + j < 128 → partial_product (2 ^ j) z n ≡ 0
unfolding partial_product
pow_before j z zero lt = refl
pow_before j z (suc n) lt =
    let ne : 127 - n ≢ j = omega arith in
    (λ i. bit_xor (pow_before j z n (omega arith) i) (bit_at-pow_other j (127 - n) ne i * shifted z n)) ∙ zero-mul (shifted z n)

pub pow_after : (j z n : ℕ) → j < 128 → 127 < n + j → n ≤ 128 → partial_product (2 ^ j) z n ≡ shifted z (127 - j)
unfolding partial_product
pow_after j z zero lj far le = absurd (omega arith)
pow_after j z (suc n) lj far le = elim (cases_lt 127 (n + j)) [
  | inl past ↦
      let ne : 127 - n ≢ j = omega arith in
      (λ i. bit_xor (pow_after j z n lj past (omega arith) i) (bit_at-pow_other j (127 - n) ne i * shifted z n))
      ∙ ap (bit_xor (shifted z (127 - j))) (zero-mul (shifted z n)) ∙ xor_zero_r (shifted z (127 - j))
  | inr here ↦
      let at : 127 - n ≡ j = omega arith in
      let place : n ≡ 127 - j = omega arith in
      let bit : bit_at (2 ^ j) (127 - n) ≡ 1 = ap (bit_at (2 ^ j)) at ∙ bit_at-pow_same j in
      (λ i. bit_xor (pow_before j z n (omega arith) i) (bit i * shifted z n)) ∙ one-mul (shifted z n) ∙ ap (shifted z) place
]

pub pow_product : (j z : ℕ) → j < 128 → block_product (2 ^ j) z ≡ shifted z (127 - j)
unfolding block_product
pow_product j z lj = pow_after j z 128 lj (omega arith) (omega arith)

-- x^128 is 1 + x + x^2 + x^7, on each power of two
reduction : all_below (λ k. block_product (0xe1 * 2 ^ 120) (2 ^ k) == shifted (2 ^ k) 128) 128 ≡ true
unfolding all_below block_product partial_product shifted times_x
reduction = refl

reduced : (z : ℕ) → z < 2 ^ 128 → block_product (0xe1 * 2 ^ 120) z ≡ shifted z 128
unfolding block_product
reduced z lz =
    additive-same (λ z. block_product (0xe1 * 2 ^ 120) z) (λ z. shifted z 128)
    (λ a b. product-xor_r (0xe1 * 2 ^ 120) a b 128) (λ a b. shifted-xor a b 128) 128
    (λ k lk. eqb-true _ _ (all_below-at (λ k. block_product (0xe1 * 2 ^ 120) (2 ^ k) == shifted (2 ^ k) 128) 128 k reduction lk)) z lz

half_pow : (k : ℕ) → times_x (2 ^ suc k) ≡ 2 ^ k
unfolding times_x
half_pow k =
    let ne : 0 ≢ suc k = omega arith in
    let half : 2 ^ suc k / 2 ≡ 2 ^ k = omega (arith, pow-suc 2 k) in
    (λ i. bit_xor (half i) (bit_at-pow_other (suc k) 0 ne i * (0xe1 * 2 ^ 120))) ∙ xor_zero_r (2 ^ k)

turn_pow : (j z : ℕ) → j < 128 → z < 2 ^ 128 → block_product (times_x (2 ^ j)) z ≡ times_x (block_product (2 ^ j) z)
unfolding times_x shifted
turn_pow zero z lj lz = reduced z lz ∙ ap times_x (sym (pow_product 0 z lj))
turn_pow (suc k) z lj lz =
    let place : 127 - k ≡ suc (127 - suc k) = omega arith in
    ap (λ (x : ℕ). block_product x z) (half_pow k) ∙ pow_product k z (omega arith) ∙ ap (shifted z) place ∙ ap times_x (sym (pow_product (suc k) z lj))

turn : (x z : ℕ) → x < 2 ^ 128 → z < 2 ^ 128 → block_product (times_x x) z ≡ times_x (block_product x z)
turn x z lx lz =
    additive-same (λ x. block_product (times_x x) z) (λ x. times_x (block_product x z))
    (λ a b. ap (λ (u : ℕ). block_product u z) (times_x-xor a b) ∙ block_product-xor_l (times_x a) (times_x b) z)
    (λ a b. ap times_x (block_product-xor_l a b z) ∙ times_x-xor (block_product a z) (block_product b z)) 128
    (λ j lj. turn_pow j z lj lz) x lx

pub turn_shifted : (y z n : ℕ) → y < 2 ^ 128 → z < 2 ^ 128 → block_product (shifted y n) z ≡ shifted (block_product y z) n
unfolding shifted
turn_shifted y z zero ly lz = refl
turn_shifted y z (suc n) ly lz = turn (shifted y n) z (shifted-lt y n ly) lz ∙ ap times_x (turn_shifted y z n ly lz)

gate_product : (b s z : ℕ) → b < 2 → block_product (b * s) z ≡ b * block_product s z
gate_product zero s z lb =
    ap (λ (u : ℕ). block_product u z) (zero-mul s) ∙ additive-zero (λ x. block_product x z) (λ a c. block_product-xor_l a c z) ∙ sym (zero-mul (block_product s z))
gate_product (suc zero) s z lb = ap (λ (u : ℕ). block_product u z) (one-mul s) ∙ sym (one-mul (block_product s z))
gate_product (suc (suc b)) s z lb = absurd (omega arith)

partial_assoc : (x y z n : ℕ) → y < 2 ^ 128 → z < 2 ^ 128 → block_product (partial_product x y n) z ≡ partial_product x (block_product y z) n
unfolding partial_product
partial_assoc x y z zero ly lz = additive-zero (λ x. block_product x z) (λ a c. block_product-xor_l a c z)
partial_assoc x y z (suc n) ly lz =
    let b : ℕ = bit_at x (127 - n) in
    block_product-xor_l (partial_product x y n) (b * shifted y n) z
    ∙ (λ i. bit_xor (partial_assoc x y z n ly lz i) ((gate_product b (shifted y n) z (bit_at-lt x (127 - n)) ∙ ap (λ (u : ℕ). b * u) (turn_shifted y z n ly lz)) i))

pub block_product_assoc : (x y z : ℕ) → y < 2 ^ 128 → z < 2 ^ 128 → block_product (block_product x y) z ≡ block_product x (block_product y z)
unfolding block_product
block_product_assoc x y z ly lz = partial_assoc x y z 128 ly lz

-- what is multiplied by h as often as there are blocks
unfoldable pub raised : ℕ → ℕ → ℕ → ℕ
raised h y zero = y
raised h y (suc n) = raised h (block_product y h) n

raised-xor : (h a b n : ℕ) → raised h (bit_xor a b) n ≡ bit_xor (raised h a n) (raised h b n)
unfolding raised
raised-xor h a b zero = refl
raised-xor h a b (suc n) = ap (λ (y : ℕ). raised h y n) (block_product-xor_l a b h) ∙ raised-xor h (block_product a h) (block_product b h) n

power-lt : (h n : ℕ) → h < 2 ^ 128 → power h n < 2 ^ 128
unfolding power
power-lt h zero lh = lh
power-lt h (suc n) lh = block_product-lt (power h n) h lh

power_swap : (h n : ℕ) → h < 2 ^ 128 → block_product h (power h n) ≡ block_product (power h n) h
unfolding power
power_swap h zero lh = refl
power_swap h (suc n) lh =
    sym (block_product_assoc h (power h n) h (power-lt h n lh) lh) ∙ ap (λ (u : ℕ). block_product u h) (power_swap h n lh)

-- one step after another multiplies by a power
raised_power : (h y n : ℕ) → h < 2 ^ 128 → raised h y (suc n) ≡ block_product y (power h n)
unfolding raised power
raised_power h y zero lh = refl
raised_power h y (suc n) lh =
    raised_power h (block_product y h) n lh ∙ block_product_assoc y h (power h n) lh (power-lt h n lh) ∙ ap (block_product y) (power_swap h n lh)

running_sum : (h y : ℕ) (xs : List ℕ) → h < 2 ^ 128 → running h y xs ≡ bit_xor (raised h y (length xs)) (ghash h xs)
unfolding running raised ghash
running_sum h y [] lh = sym (xor_zero_r y)
running_sum h y (x ∷ xs) lh =
    running_sum h (block_product (bit_xor y x) h) xs lh
    ∙ ap (λ (u : ℕ). bit_xor u (ghash h xs)) (raised-xor h y x (suc (length xs)))
    ∙ xor_assoc (raised h y (suc (length xs))) (raised h x (suc (length xs))) (ghash h xs)
    ∙ ap (λ (u : ℕ). bit_xor (raised h y (suc (length xs))) (bit_xor u (ghash h xs))) (raised_power h x (length xs) lh)

raised_zero : (h n : ℕ) → raised h 0 n ≡ 0
raised_zero h n = additive-zero (λ y. raised h y n) (λ a b. raised-xor h a b n)

-- GHASH by its running product
pub running_is_ghash : (h : ℕ) (xs : List ℕ) → h < 2 ^ 128 → running h 0 xs ≡ ghash h xs
running_is_ghash h xs lh = running_sum h 0 xs lh ∙ ap (λ (u : ℕ). bit_xor u (ghash h xs)) (raised_zero h (length xs))
