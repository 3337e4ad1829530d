-- Polynomials over the field of 256 elements, by their coefficients, the constant one first.
use Rattle.std.specs.Prelude.{◌≡◌, ◌≢◌, ℕ, ◌^◌, slice_index, ◌<◌, List, [], ◌∷◌, length, map, bit_xor}
use Rattle.lr_field.specs.Field.{product}

-- each number is a byte
abbrev pub AreBytes : List ℕ → Type 0
AreBytes [] = Unit {0}
AreBytes (x ∷ xs) = (x < 2 ^ 8) × AreBytes xs

-- the points differ from one another
abbrev pub IsDistinct : List ℕ → Type 0
IsDistinct ps = (i j : ℕ) → i < j → j < length ps → slice_index ps i ≢ slice_index ps j

-- the value at x of the polynomial with these coefficients
unfoldable pub value_at : List ℕ → ℕ → ℕ
value_at [] x = 0
value_at (c ∷ cs) x = bit_xor c (product x (value_at cs x))

-- the sum of the products of weights and values
unfoldable pub weighted : List ℕ → List ℕ → ℕ
weighted [] vs = 0
weighted (w ∷ ws) [] = 0
weighted (w ∷ ws) (v ∷ vs) = bit_xor (product w v) (weighted ws vs)

-- The weights give the value at x of each polynomial with as many coefficients as there are points, from
-- its values at the points.
abbrev pub GivesValue : List ℕ → List ℕ → ℕ → Type 0
GivesValue ws ps x = (cs : List ℕ) → AreBytes cs → length cs ≡ length ps
    → weighted ws (map (value_at cs) ps) ≡ value_at cs x

-- The values are those at the points of one polynomial with k coefficients.
abbrev pub IsOnPolynomial : ℕ → List ℕ → List ℕ → Type 0
IsOnPolynomial k ps vs = (cs : List ℕ) × (AreBytes cs × (length cs ≡ k) × (vs ≡ map (value_at cs) ps))
