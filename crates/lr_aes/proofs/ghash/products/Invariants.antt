use Rattle.std.proofs.Common.{◌≡◌, ℕ, ◌<◌, ◌*◌, ◌^◌, length, slice_index}
use Rattle.lr_aes.specs.Ghash.{block_product}
use Rattle.lr_aes.proofs.ghash.products.Given as goal

abbrev pub invariant-loop-b : goal.invariant-loop-b
invariant-loop-b l = (length l.table ≡ 256) × ((k : ℕ) → k < l.b → slice_index l.table k ≡ block_product (k * 2 ^ 120) l.h)
