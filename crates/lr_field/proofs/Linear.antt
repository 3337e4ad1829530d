-- Functions that go through xor.
use Rattle.std.proofs.Common.{◌≡◌, ℕ, zero, suc, ◌+◌, ◌-◌, ◌*◌, ◌%◌, ◌^◌, ◌<◌, ◌≤◌, bit_xor, sym, ap, subst, ◌∙◌, arith, inl, inr, zero-mul, one-mul, add-zero, pow_pos, pow-suc}
use Rattle.std.proofs.lemmas.Bool.{cases_lt}
use Rattle.std.proofs.lemmas.Nat.{xor_comm, xor_lt, xor_block}
use Rattle.std.proofs.lemmas.Nat.Bits.{bit_at_xor, bit_at-lt}
use Rattle.std.specs.Int.{bit_at}
use lib.Bits.{xor_assoc, xor_zero_r, xor_self, xor_shifted}

pub xor_swap : (a b c d : ℕ) → bit_xor (bit_xor a b) (bit_xor c d) ≡ bit_xor (bit_xor a c) (bit_xor b d)
xor_swap a b c d =
    xor_assoc a b (bit_xor c d)
    ∙ ap (bit_xor a) (sym (xor_assoc b c d) ∙ ap (λ (x : ℕ). bit_xor x d) (xor_comm b c) ∙ xor_assoc c b d)
    ∙ sym (xor_assoc a c (bit_xor b d))

pub xor_shl : (a b k : ℕ) → bit_xor a b * 2 ^ k ≡ bit_xor (a * 2 ^ k) (b * 2 ^ k)
xor_shl a b k =
    let block : bit_xor (a * 2 ^ k + 0) (b * 2 ^ k + 0) ≡ bit_xor a b * 2 ^ k + 0 = xor_block k a b 0 0 (pow_pos k) (pow_pos k) in
    sym (simp add-zero at block)

-- a bit product a number
pub gate_xor : (x y c : ℕ) → x < 2 → y < 2 → (x + y) % 2 * c ≡ bit_xor (x * c) (y * c)
gate_xor zero zero c lx ly = simp zero-mul
gate_xor zero (suc zero) c lx ly = simp (zero-mul, one-mul)
gate_xor (suc zero) zero c lx ly = simp (zero-mul, one-mul) (sym (xor_zero_r c))
gate_xor (suc zero) (suc zero) c lx ly = simp (zero-mul, one-mul) (sym (xor_self c))
gate_xor x (suc (suc y)) c lx ly = absurd (omega arith)
gate_xor (suc (suc x)) y c lx ly = absurd (omega arith)

pub bit_gate : (p q n c : ℕ) → bit_at (bit_xor p q) n * c ≡ bit_xor (bit_at p n * c) (bit_at q n * c)
bit_gate p q n c = ap (λ (b : ℕ). b * c) (bit_at_xor p q n) ∙ gate_xor (bit_at p n) (bit_at q n) c (bit_at-lt p n) (bit_at-lt q n)

-- f goes through xor
abbrev pub Additive : (ℕ → ℕ) → Type 0
Additive f = (a b : ℕ) → f (bit_xor a b) ≡ bit_xor (f a) (f b)

pub additive-zero : (f : ℕ → ℕ) → Additive f → f 0 ≡ 0
additive-zero f h = h 0 0 ∙ xor_self (f 0)

top_bit : (a n : ℕ) → a < 2 ^ suc n → 2 ^ n ≤ a → (a - 2 ^ n < 2 ^ n) × (a ≡ bit_xor (2 ^ n) (a - 2 ^ n))
top_bit a n lt le =
    let small : a - 2 ^ n < 2 ^ n = omega (arith, pow-suc 2 n) in
    let whole : bit_xor (1 * 2 ^ n) (a - 2 ^ n) ≡ 1 * 2 ^ n + (a - 2 ^ n) = xor_shifted 1 n (a - 2 ^ n) small in
    let plain : bit_xor (2 ^ n) (a - 2 ^ n) ≡ 2 ^ n + (a - 2 ^ n) = simp one-mul at whole in
    (small, omega (arith, plain))

-- two that agree on the powers of two agree
pub additive-same : (f g : ℕ → ℕ) → Additive f → Additive g → (n : ℕ) → ((i : ℕ) → i < n → f (2 ^ i) ≡ g (2 ^ i)) → (a : ℕ) → a < 2 ^ n → f a ≡ g a
additive-same f g hf hg zero same a lt =
    let nothing : a ≡ 0 = omega arith in
    subst (λ (x : ℕ). f x ≡ g x) (sym nothing) (additive-zero f hf ∙ sym (additive-zero g hg))
additive-same f g hf hg (suc n) same a lt =
    let below : (i : ℕ) → i < n → f (2 ^ i) ≡ g (2 ^ i) = λ i li. same i (omega arith) in
    elim (cases_lt a (2 ^ n)) [
      | inl low ↦ additive-same f g hf hg n below a low
      | inr high ↦
          let parts = top_bit a n lt high in
          let r : ℕ = a - 2 ^ n in
          let rest : f r ≡ g r = additive-same f g hf hg n below r parts.0 in
          let top : f (2 ^ n) ≡ g (2 ^ n) = same n (omega arith) in
          ap f parts.1 ∙ hf (2 ^ n) r ∙ ap (λ (x : ℕ). bit_xor x (f r)) top ∙ ap (bit_xor (g (2 ^ n))) rest ∙ sym (hg (2 ^ n) r) ∙ ap g (sym parts.1)
    ]

pub additive-lt : (f : ℕ → ℕ) (k : ℕ) → Additive f → (n : ℕ) → ((i : ℕ) → i < n → f (2 ^ i) < 2 ^ k) → (a : ℕ) → a < 2 ^ n → f a < 2 ^ k
additive-lt f k hf zero below a lt =
    let nothing : a ≡ 0 = omega arith in
    subst (λ (x : ℕ). f x < 2 ^ k) (sym nothing) (subst (λ (x : ℕ). x < 2 ^ k) (sym (additive-zero f hf)) (pow_pos k))
additive-lt f k hf (suc n) below a lt =
    let less : (i : ℕ) → i < n → f (2 ^ i) < 2 ^ k = λ i li. below i (omega arith) in
    elim (cases_lt a (2 ^ n)) [
      | inl low ↦ additive-lt f k hf n less a low
      | inr high ↦
          let parts = top_bit a n lt high in
          let rest : f (a - 2 ^ n) < 2 ^ k = additive-lt f k hf n less (a - 2 ^ n) parts.0 in
          let top : f (2 ^ n) < 2 ^ k = below n (omega arith) in
          subst (λ (x : ℕ). x < 2 ^ k) (sym (ap f parts.1 ∙ hf (2 ^ n) (a - 2 ^ n))) (xor_lt k (f (2 ^ n)) (f (a - 2 ^ n)) top rest)
    ]
