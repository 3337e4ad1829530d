use Rattle.std.proofs.Common.{◌≡◌}
use Rattle.lr_depot.proofs.Numbers.{AreLeft}
use Rattle.lr_depot.proofs.collecting.is_leased.Given as goal

abbrev pub invariant-loop-lease : goal.invariant-loop-lease
invariant-loop-lease l = AreLeft l.leases (λ e. e.0 ≡ l.image) l.lease-iterator
