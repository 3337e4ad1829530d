use Rattle.std.proofs.Common.{◌/◌, ◌%◌, arith}
use Rattle.lr_stripe.proofs.Halves.{places_are, times_is}
use Rattle.lr_stripe.proofs.lanes.times.Goals as goal

pub entries-requires : goal.entries-requires
entries-requires c = places_are (λ b. b % 16) (λ b lt. omega arith) c.args.x _ c.fits-x.1 c.low_halves.ensures

pub entries-requires-2 : goal.entries-requires-2
entries-requires-2 c = places_are (λ b. b / 16) (λ b lt. omega arith) c.args.x _ c.fits-x.1 c.high_halves.ensures

pub returns : goal.returns
returns c = λ weight have.
    times_is weight c.args.products.now.low c.args.products.now.high c.args.x _ _ _ _ have c.fits-x.1 c.low_halves.ensures c.high_halves.ensures c.entries.ensures c.entries-2.ensures
