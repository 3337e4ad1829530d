-- The weights of some points, taken over to one point more.
use Rattle.std.specs.Prelude.{ℕ, List, [], ◌∷◌, bit_xor}
use Rattle.lr_field.specs.Field.{product}

-- the sum of the weights
unfoldable pub xor_sum : List ℕ → ℕ
xor_sum [] = 0
xor_sum (w ∷ ws) = bit_xor w (xor_sum ws)

-- each weight w of a point q, for the value at x, becomes w * (x + p) / (q + p)
unfoldable pub scaled : (ℕ → ℕ) → ℕ → ℕ → List ℕ → List ℕ → List ℕ
scaled inverse x p [] ws = []
scaled inverse x p (q ∷ qs) [] = []
scaled inverse x p (q ∷ qs) (w ∷ ws) =
    product w (product (bit_xor x p) (inverse (bit_xor q p))) ∷ scaled inverse x p qs ws
