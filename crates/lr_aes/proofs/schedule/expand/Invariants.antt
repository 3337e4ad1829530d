use Rattle.std.proofs.Common.{◌≡◌, ℕ, ◌-◌, ◌*◌, length, take}
use Rattle.lr_aes.specs.Cipher.{schedule}
use Rattle.lr_aes.proofs.schedule.expand.Given as goal

abbrev pub invariant-loop-i : goal.invariant-loop-i
invariant-loop-i l = (take (4 * l.i) l.w ≡ schedule l.words l.key (l.i - l.words)) × (length l.w ≡ 240)
