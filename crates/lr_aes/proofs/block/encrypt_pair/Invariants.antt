use Rattle.std.proofs.Common.{◌≡◌, ◌-◌, map}
use Rattle.lr_aes.specs.Cipher.{rounds}
use Rattle.lr_aes.specs.Lanes.{standard}
use Rattle.lr_aes.proofs.block.encrypt_pair.Given as goal

abbrev pub invariant-loop-n : goal.invariant-loop-n
invariant-loop-n l = record {
  left : map standard l.left ≡ rounds l.keys l.fn.first (l.n - 1);
  right : map standard l.right ≡ rounds l.keys l.fn.second (l.n - 1);
}
