-- GHASH by tables: how the running product takes a block, byte by byte.
use Rattle.std.specs.Prelude.{◌≡◌, ℕ, zero, suc, ◌*◌, ◌/◌, ◌%◌, ◌^◌, ◌<◌, List, [], ◌∷◌, length, slice_index, bit_xor}
use Rattle.lr_aes.specs.Ghash.{shifted, block_product}

-- The table holds the product of h with each block whose first byte is b and whose other bytes are 0.
abbrev pub HasProducts : ℕ → List ℕ → Type 0
HasProducts h table = (length table ≡ 256)
    × ((b : ℕ) → b < 256 → slice_index table b ≡ block_product (b * 2 ^ 120) h)

-- x from its last n bytes, the last one first
unfoldable pub gathered : ℕ → ℕ → ℕ
gathered x zero = 0
gathered x (suc n) = bit_xor (shifted (gathered x n) 8) (x / 2 ^ (8 * n) % 2 ^ 8 * 2 ^ 120)

-- the running product of section 6.4 over the blocks, from y on
unfoldable pub running : ℕ → ℕ → List ℕ → ℕ
running h y [] = y
running h y (x ∷ xs) = running h (block_product (bit_xor y x) h) xs
