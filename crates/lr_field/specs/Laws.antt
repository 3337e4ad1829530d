-- The laws of the field and of its polynomials, as facts that a contract can name.
use Rattle.std.specs.Prelude.{◌≡◌, ℕ, ◌^◌, ◌<◌, List, length, map, bit_xor}
use Rattle.lr_field.specs.Field.{product, inverse}
use Rattle.lr_field.specs.Polynomial.{AreBytes, IsDistinct, IsOnPolynomial, value_at}

-- Bytes with their sum, which is exclusive or, and their product are a field.
pub record IsField : Type 0 where
  pub sum_closed : (a b : ℕ) → a < 2 ^ 8 → b < 2 ^ 8 → bit_xor a b < 2 ^ 8
  pub sum_zero : (a : ℕ) → bit_xor a 0 ≡ a
  pub sum_opposite : (a : ℕ) → bit_xor a a ≡ 0
  pub sum_commutative : (a b : ℕ) → bit_xor a b ≡ bit_xor b a
  pub sum_associative : (a b c : ℕ) → bit_xor (bit_xor a b) c ≡ bit_xor a (bit_xor b c)
  pub closed : (a b : ℕ) → a < 2 ^ 8 → b < 2 ^ 8 → product a b < 2 ^ 8
  pub one : (a : ℕ) → a < 2 ^ 8 → product 1 a ≡ a
  pub inverse : (a : ℕ) → 0 < a → a < 2 ^ 8 → (inverse a < 2 ^ 8) × (product a (inverse a) ≡ 1)
  pub commutative : (a b : ℕ) → a < 2 ^ 8 → b < 2 ^ 8 → product a b ≡ product b a
  pub associative : (a b c : ℕ) → a < 2 ^ 8 → b < 2 ^ 8 → c < 2 ^ 8
      → product (product a b) c ≡ product a (product b c)
  pub distributive : (a b c : ℕ) → product a (bit_xor b c) ≡ bit_xor (product a b) (product a c)

-- Any values at distinct points are those of a polynomial with as many coefficients as there are points.
abbrev pub AnyValuesAreOnPolynomial : Type 0
AnyValuesAreOnPolynomial = (ps vs : List ℕ) → AreBytes ps → AreBytes vs → IsDistinct ps → length vs ≡ length ps
    → IsOnPolynomial (length ps) ps vs

-- Two polynomials with as many coefficients as there are distinct points, and with equal values at these
-- points, have equal values everywhere.
abbrev pub ValuesFixPolynomial : Type 0
ValuesFixPolynomial = (ps cs ds : List ℕ) → AreBytes ps → IsDistinct ps → AreBytes cs → AreBytes ds
    → length cs ≡ length ps → length ds ≡ length ps → map (value_at cs) ps ≡ map (value_at ds) ps
    → (x : ℕ) → x < 2 ^ 8 → value_at cs x ≡ value_at ds x
