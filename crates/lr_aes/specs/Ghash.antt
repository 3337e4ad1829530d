-- GHASH of SP 800-38D. A block is the number whose bit 127 - i is x_i, so that x_0 is the leftmost bit.
use Rattle.std.specs.Prelude.{ℕ, zero, suc, ◌+◌, ◌-◌, ◌*◌, ◌/◌, ◌^◌, List, [], ◌∷◌, length, bit_xor}
use Rattle.std.specs.Int.{bit_at}

-- v shifted right by one bit, with R = 11100001 and zeros added where the bit shifted out was 1 (section 6.3)
unfoldable pub times_x : ℕ → ℕ
times_x v = bit_xor (v / 2) (bit_at v 0 * (0xe1 * 2 ^ 120))

-- V_n of section 6.3: y, shifted n times
unfoldable pub shifted : ℕ → ℕ → ℕ
shifted y zero = y
shifted y (suc n) = times_x (shifted y n)

-- Z_n of section 6.3: the sum of the V_i over the bits x_i, i below n
unfoldable pub partial_product : ℕ → ℕ → ℕ → ℕ
partial_product x y zero = 0
partial_product x y (suc n) = bit_xor (partial_product x y n) (bit_at x (127 - n) * shifted y n)

-- the product of two blocks (section 6.3)
unfoldable pub block_product : ℕ → ℕ → ℕ
block_product x y = partial_product x y 128

-- the power n + 1 of h
unfoldable pub power : ℕ → ℕ → ℕ
power h zero = h
power h (suc n) = block_product (power h n) h

-- the sum of the X_i • H^(n+1-i) over the n blocks X_1 to X_n (section 6.4)
unfoldable pub ghash : ℕ → List ℕ → ℕ
ghash h [] = 0
ghash h (x ∷ xs) = bit_xor (block_product x (power h (length xs))) (ghash h xs)
