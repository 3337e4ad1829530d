use Rattle.std.proofs.Common.{◌≡◌, ℕ, ◌-◌, List, ◌++◌, length, drop, ap, ◌∙◌}
use Rattle.std.proofs.lemmas.List.{drop-replicate}
use lib.ListN.{replicate}
use Rattle.lr_aes.proofs.schedule.with_zeros.Goals as goal

tail : (n : ℕ) → drop {A = ℕ} n (replicate 240 0) ≡ replicate (240 - n) 0
tail n = drop-replicate {X = ℕ} n 240 0

pub returns : goal.returns
returns c = let t = tail (length c.args.key.now) in let e = c.copy_from_slice.ensures.after in cc
