use Rattle.std.proofs.Common.{◌≡◌, ℕ, ◌-◌, List, ◌++◌, length, drop, ap, ◌∙◌}
use Rattle.std.proofs.lemmas.List.{drop-replicate}
use lib.ListN.{replicate}
use Rattle.lr_aes.proofs.ghash.filled.Goals as goal

tail : (n : ℕ) → drop {A = ℕ} n (replicate 16 0) ≡ replicate (16 - n) 0
tail n = drop-replicate {X = ℕ} n 16 0

pub returns : goal.returns
returns c = let t = tail (length c.args.rest.now) in let e = c.copy_from_slice.ensures.after in cc
