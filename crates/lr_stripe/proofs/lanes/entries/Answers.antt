use Rattle.std.proofs.Common.{arith}
use Rattle.lr_stripe.proofs.Halves.{may_read, read_by}
use Rattle.lr_stripe.proofs.lanes.entries.Goals as goal

pub swizzle : goal.swizzle
swizzle c = may_read c.args.places c.fits-places.0 c.requires

pub returns : goal.returns
returns c = read_by c.args.table 0 c.args.places (omega (arith, c.fits-places.0)) c.requires
