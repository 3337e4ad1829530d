use Rattle.std.proofs.Common.{map}
use Rattle.std.specs.Arc.{arc_value}
use Rattle.lr_loader.specs.Seen.{seen_end}
use Rattle.lr_loader.proofs.test_of_replies.fits.Goals as goal

pub returns-in-Asks : goal.returns-in-Asks
returns-in-Asks c = rw c.in-Asks.is (c.fits_get.ensures (map arc_value c.in-Asks.held.items))

pub returns-in-Puts : goal.returns-in-Puts
returns-in-Puts c = rw c.in-Puts.is (c.fits_put.ensures (arc_value c.in-Puts.chunk) c.in-Puts.stripe.value (map arc_value c.in-Puts.more.items))

pub returns-in-Fills : goal.returns-in-Fills
returns-in-Fills c = rw c.in-Fills.is (c.fits_fill.ensures (arc_value c.in-Fills.chunk))

pub returns-in-Gives : goal.returns-in-Gives
returns-in-Gives c = rw c.in-Gives.is (c.fits_give_up.ensures (seen_end c.in-Gives.end))
