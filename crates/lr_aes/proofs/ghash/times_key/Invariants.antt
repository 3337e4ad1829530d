use Rattle.std.proofs.Common.{◌≡◌, ℕ, ◌<◌, ◌*◌, ◌/◌, ◌^◌}
use Rattle.lr_aes.specs.Ghash.{block_product}
use Rattle.lr_aes.specs.Products.{HasProducts, gathered}
use Rattle.lr_aes.proofs.ghash.times_key.Given as goal

abbrev pub invariant-loop-n : goal.invariant-loop-n
invariant-loop-n l = ((h : ℕ) → HasProducts h l.table → h < 2 ^ 128 → l.z ≡ block_product (gathered l.x l._n) h) × (l.rest ≡ l.x / 2 ^ (8 * l._n))
