use Rattle.std.proofs.Common.{◌≡◌, ℕ, ◌*◌, ◌^◌}
use Rattle.lr_aes.specs.Ghash.{shifted, partial_product}
use Rattle.lr_aes.proofs.ghash.byte_product.Given as goal

abbrev pub invariant-loop-n : goal.invariant-loop-n
invariant-loop-n l = (l.z ≡ partial_product l.x l.h l.n) × (l.v ≡ shifted l.h l.n)
