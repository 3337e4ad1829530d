use Rattle.std.proofs.Common.{◌≡◌, ℕ, ◌<◌, ◌*◌, ◌/◌, ◌^◌, map}
use Rattle.std.specs.List.{range_with_len}
use Rattle.lr_aes.specs.Products.{running}
use Rattle.lr_aes.specs.Gcm.{block_at}
use Rattle.lr_aes.specs.Products.{HasProducts}
use Rattle.lr_aes.proofs.ghash.absorb.Given as goal

abbrev pub invariant-loop-i : goal.invariant-loop-i
invariant-loop-i l = (h : ℕ) → HasProducts h l.table → h < 2 ^ 128 → l.z ≡ running h l.y (map (block_at l.bytes) (range_with_len 0 l.i))
