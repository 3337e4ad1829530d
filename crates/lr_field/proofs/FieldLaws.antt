-- The laws of the field.
use Rattle.std.proofs.Common.{◌≡◌, ℕ, zero, suc, ◌+◌, ◌*◌, ◌^◌, ◌<◌, bit_xor, slice_index, refl, sym, ap, subst, ◌∙◌, arith, mul_comm, add-zero, add-suc, zero-mul, one-mul, lit<}
use Rattle.std.proofs.lemmas.Nat.Bits.{bit_at-lt}
use Rattle.std.specs.Int.{bit_at}
use Rattle.lr_field.specs.Field.{product, polynomial_product, remainder, inverse}
use Rattle.lr_field.specs.declared.tables.TheConstants.{EXPONENTIALS, LOGARITHMS, INVERSES}
use Rattle.lr_field.proofs.Linear.{Additive, additive-zero, additive-same, additive-lt, xor_swap, xor_shl, bit_gate}
use Rattle.lr_field.proofs.Computed.{comm_at, assoc_at, lt_at, one_at, inverse_at, inverse_lt, inverse_is, exp_at, exp_lt, log_at}

polynomial_product-xor_l : (p q r n : ℕ) → polynomial_product (bit_xor p q) r n ≡ bit_xor (polynomial_product p r n) (polynomial_product q r n)
unfolding polynomial_product
polynomial_product-xor_l p q r zero = refl
polynomial_product-xor_l p q r (suc n) =
    ap (λ (x : ℕ). bit_xor x (bit_at (bit_xor p q) n * (2 ^ n * r))) (polynomial_product-xor_l p q r n)
    ∙ ap (bit_xor (bit_xor (polynomial_product p r n) (polynomial_product q r n))) (bit_gate p q n (2 ^ n * r))
    ∙ xor_swap (polynomial_product p r n) (polynomial_product q r n) (bit_at p n * (2 ^ n * r)) (bit_at q n * (2 ^ n * r))

shifted-xor : (q r n : ℕ) → 2 ^ n * bit_xor q r ≡ bit_xor (2 ^ n * q) (2 ^ n * r)
shifted-xor q r n =
    mul_comm (2 ^ n) (bit_xor q r) ∙ xor_shl q r n
    ∙ ap (λ (x : ℕ). bit_xor x (r * 2 ^ n)) (mul_comm q (2 ^ n)) ∙ ap (bit_xor (2 ^ n * q)) (mul_comm r (2 ^ n))

remainder-xor : (p q n : ℕ) → remainder (bit_xor p q) n ≡ bit_xor (remainder p n) (remainder q n)
unfolding remainder
remainder-xor p q zero = refl
remainder-xor p q (suc n) =
    let c : ℕ = 2 ^ n * 0x11b in
    ap (λ (x : ℕ). remainder (bit_xor (bit_xor p q) x) n) (bit_gate p q (n + 8) c)
    ∙ ap (λ (x : ℕ). remainder x n) (xor_swap p q (bit_at p (n + 8) * c) (bit_at q (n + 8) * c))
    ∙ remainder-xor (bit_xor p (bit_at p (n + 8) * c)) (bit_xor q (bit_at q (n + 8) * c)) n

pub product-xor_l : (a b c : ℕ) → product (bit_xor a b) c ≡ bit_xor (product a c) (product b c)
unfolding product
product-xor_l a b c = ap (λ (x : ℕ). remainder x 7) (polynomial_product-xor_l a b c 8) ∙ remainder-xor (polynomial_product a c 8) (polynomial_product b c 8) 7

scaled-xor : (x u v : ℕ) → x < 2 → x * bit_xor u v ≡ bit_xor (x * u) (x * v)
scaled-xor zero u v lt = simp zero-mul
scaled-xor (suc zero) u v lt = simp one-mul
scaled-xor (suc (suc x)) u v lt = absurd (omega arith)

polynomial_product-xor_r : (p q r n : ℕ) → polynomial_product p (bit_xor q r) n ≡ bit_xor (polynomial_product p q n) (polynomial_product p r n)
unfolding polynomial_product
polynomial_product-xor_r p q r zero = refl
polynomial_product-xor_r p q r (suc n) =
    ap (λ (x : ℕ). bit_xor x (bit_at p n * (2 ^ n * bit_xor q r))) (polynomial_product-xor_r p q r n)
    ∙ ap (bit_xor (bit_xor (polynomial_product p q n) (polynomial_product p r n)))
    (ap (λ (x : ℕ). bit_at p n * x) (shifted-xor q r n) ∙ scaled-xor (bit_at p n) (2 ^ n * q) (2 ^ n * r) (bit_at-lt p n))
    ∙ xor_swap (polynomial_product p q n) (polynomial_product p r n) (bit_at p n * (2 ^ n * q)) (bit_at p n * (2 ^ n * r))

pub product-xor_r : (a b c : ℕ) → product a (bit_xor b c) ≡ bit_xor (product a b) (product a c)
unfolding product
product-xor_r a b c = ap (λ (x : ℕ). remainder x 7) (polynomial_product-xor_r a b c 8) ∙ remainder-xor (polynomial_product a b 8) (polynomial_product a c 8) 7

by_left : (b : ℕ) → Additive (λ a. product a b)
by_left b = λ a c. product-xor_l a c b

by_right : (a : ℕ) → Additive (λ b. product a b)
by_right a = λ b c. product-xor_r a b c

pub product_comm : (a b : ℕ) → a < 2 ^ 8 → b < 2 ^ 8 → product a b ≡ product b a
product_comm a b la lb =
    additive-same (λ x. product x b) (λ x. product b x) (by_left b) (by_right b) 8
    (λ i li. additive-same (λ y. product (2 ^ i) y) (λ y. product y (2 ^ i)) (by_right (2 ^ i)) (by_left (2 ^ i)) 8 (λ j lj. comm_at i j li lj) b lb)
    a la

pub product-lt : (a b : ℕ) → a < 2 ^ 8 → b < 2 ^ 8 → product a b < 2 ^ 8
product-lt a b la lb =
    additive-lt (λ x. product x b) 8 (by_left b) 8
    (λ i li. additive-lt (λ y. product (2 ^ i) y) 8 (by_right (2 ^ i)) 8 (λ j lj. lt_at i j li lj) b lb)
    a la

pub product_assoc : (a b c : ℕ) → a < 2 ^ 8 → b < 2 ^ 8 → c < 2 ^ 8 → product (product a b) c ≡ product a (product b c)
product_assoc a b c la lb lc =
    additive-same (λ x. product (product x b) c) (λ x. product x (product b c))
    (λ x y. ap (λ (z : ℕ). product z c) (product-xor_l x y b) ∙ product-xor_l (product x b) (product y b) c) (by_left (product b c)) 8
    (λ i li. additive-same (λ y. product (product (2 ^ i) y) c) (λ y. product (2 ^ i) (product y c))
    (λ x y. ap (λ (z : ℕ). product z c) (product-xor_r (2 ^ i) x y) ∙ product-xor_l (product (2 ^ i) x) (product (2 ^ i) y) c)
    (λ x y. ap (product (2 ^ i)) (product-xor_l x y c) ∙ product-xor_r (2 ^ i) (product x c) (product y c)) 8
    (λ j lj. additive-same (λ z. product (product (2 ^ i) (2 ^ j)) z) (λ z. product (2 ^ i) (product (2 ^ j) z))
    (by_right (product (2 ^ i) (2 ^ j)))
    (λ x y. ap (product (2 ^ i)) (product-xor_r (2 ^ j) x y) ∙ product-xor_r (2 ^ i) (product (2 ^ j) x) (product (2 ^ j) y)) 8
    (λ k lk. assoc_at i j k li lj lk) c lc)
    b lb)
    a la

pub one-product : (a : ℕ) → a < 2 ^ 8 → product 1 a ≡ a
one-product a la = additive-same (λ x. product 1 x) (λ x. x) (by_right 1) (λ x y. refl) 8 one_at a la

pub zero-product : (b : ℕ) → product 0 b ≡ 0
zero-product b = additive-zero (λ a. product a b) (by_left b)

pub product-zero : (a : ℕ) → product a 0 ≡ 0
product-zero a = additive-zero (λ b. product a b) (by_right a)

-- the polynomial_product of powers of 3
pub exp-add : (i j : ℕ) → i + j < 510 → product (slice_index EXPONENTIALS i) (slice_index EXPONENTIALS j) ≡ slice_index EXPONENTIALS (i + j)
exp-add i zero lt =
    let li : i < 510 = omega arith in
    let low : slice_index EXPONENTIALS i < 2 ^ 8 = exp_lt i li in
    product_comm (slice_index EXPONENTIALS i) 1 low (lit< tt) ∙ one-product (slice_index EXPONENTIALS i) low ∙ ap (slice_index EXPONENTIALS) (sym (add-zero i))
exp-add i (suc j) lt =
    let li : slice_index EXPONENTIALS i < 2 ^ 8 = exp_lt i (omega arith) in
    let lj : slice_index EXPONENTIALS j < 2 ^ 8 = exp_lt j (omega arith) in
    ap (product (slice_index EXPONENTIALS i)) (exp_at j (omega arith))
    ∙ sym (product_assoc (slice_index EXPONENTIALS i) (slice_index EXPONENTIALS j) 3 li lj (lit< tt))
    ∙ ap (λ (x : ℕ). product x 3) (exp-add i j (omega arith))
    ∙ sym (exp_at (i + j) (omega arith))
    ∙ ap (slice_index EXPONENTIALS) (sym (add-suc i j))

-- the polynomial_product of two bytes other than 0, by their exponents
pub product_by_logarithms : (a b : ℕ) → 0 < a → 0 < b → a < 256 → b < 256
    → (slice_index LOGARITHMS a + slice_index LOGARITHMS b < 510) × (slice_index EXPONENTIALS (slice_index LOGARITHMS a + slice_index LOGARITHMS b) ≡ product a b)
product_by_logarithms zero b pa pb la lb = absurd (omega arith)
product_by_logarithms (suc a) zero pa pb la lb = absurd (omega arith)
product_by_logarithms (suc a) (suc b) pa pb la lb =
    let x = log_at a (omega arith) in
    let y = log_at b (omega arith) in
    let fits : slice_index LOGARITHMS (suc a) + slice_index LOGARITHMS (suc b) < 510 = omega (arith, x.1, y.1) in
    (fits, sym (exp-add (slice_index LOGARITHMS (suc a)) (slice_index LOGARITHMS (suc b)) fits) ∙ ap (λ (u : ℕ). product u (slice_index EXPONENTIALS (slice_index LOGARITHMS (suc b)))) x.0 ∙ ap (product (suc a)) y.0)

pub product_by_inverse : (a : ℕ) → 0 < a → a < 2 ^ 8 → product a (slice_index INVERSES a) ≡ 1
product_by_inverse zero pa la = absurd (omega arith)
product_by_inverse (suc a) pa la = inverse_at a (omega arith)

pub inverse_law : (a : ℕ) → 0 < a → a < 2 ^ 8 → (inverse a < 2 ^ 8) × (product a (inverse a) ≡ 1)
inverse_law a pa la =
    let at : inverse a ≡ slice_index INVERSES a = inverse_is a la in
    (subst (λ (x : ℕ). x < 2 ^ 8) (sym at) (inverse_lt a la), ap (product a) at ∙ product_by_inverse a pa la)

pub ruleset field_laws = (product_by_logarithms, zero-product, product-zero, product_by_inverse)
