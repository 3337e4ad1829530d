-- The field of 256 elements (FIPS 197, section 4). A byte stands for a polynomial over GF(2) of degree
-- below 8, bit i being the coefficient of x^i. The sum of two bytes is their exclusive or.
use Rattle.std.specs.Prelude.{ℕ, zero, suc, ◌+◌, ◌*◌, ◌^◌, ◌==◌, if◌then◌else◌, bit_xor}
use Rattle.std.specs.Int.{bit_at}

-- the product of the part of p below x^n with q: the sum of the x^i * q over the bits i of p
unfoldable pub polynomial_product : ℕ → ℕ → ℕ → ℕ
polynomial_product p q zero = 0
polynomial_product p q (suc n) = bit_xor (polynomial_product p q n) (bit_at p n * (2 ^ n * q))

-- the remainder of p, of degree below n + 8, by x^8 + x^4 + x^3 + x + 1, by long division
unfoldable pub remainder : ℕ → ℕ → ℕ
remainder p zero = p
remainder p (suc n) = remainder (bit_xor p (bit_at p (n + 8) * (2 ^ n * 0x11b))) n

-- the product of two bytes: the remainder of the product of their polynomials (section 4.2)
unfoldable pub product : ℕ → ℕ → ℕ
product a b = remainder (polynomial_product a b 8) 7

-- the greatest number below n whose product with a is 1, and 0 where there is none
unfoldable pub inverse_below : ℕ → ℕ → ℕ
inverse_below a zero = 0
inverse_below a (suc n) = if product a n == 1 then n else inverse_below a n

-- the byte whose product with a is 1, and 0 for 0
unfoldable pub inverse : ℕ → ℕ
inverse a = inverse_below a 256
