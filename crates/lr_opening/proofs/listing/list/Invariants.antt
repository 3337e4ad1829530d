use Rattle.std.proofs.Common.{◌≡◌, ◌≤◌, vec_len}
use Rattle.lr_spec.specs.Told.{Told}
use Rattle.lr_opening.specs.Listing.{Lists, bytes_of}
use Rattle.lr_opening.proofs.listing.list.Given as goal

abbrev pub invariant-loop-turn : goal.invariant-loop-turn
invariant-loop-turn g l = record {
  listed : Told (g.O.Origin.objects l.fn.origin) (λ m. Lists m (bytes_of l.keys.items));
  many : vec_len l.keys ≡ l._turn;
  same : g.O.Origin.objects l.origin ≡ g.O.Origin.objects l.fn.origin;
  never_falls : g.O.Origin.faults l.fn.origin ≤ g.O.Origin.faults l.origin;
}
