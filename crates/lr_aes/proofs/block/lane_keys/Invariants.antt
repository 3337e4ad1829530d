use Rattle.std.proofs.Common.{◌≡◌, ℕ, ◌<◌, [], map, length, get_or}
use Rattle.lr_aes.specs.Lanes.{standard, key_of}
use Rattle.lr_aes.proofs.block.lane_keys.Given as goal

abbrev pub invariant-loop-n : goal.invariant-loop-n
invariant-loop-n l = record {
  done : (m : ℕ) → m < l.n → map standard (get_or l.lanes m []) ≡ key_of l.keys m;
  long : length l.lanes ≡ 15;
}
