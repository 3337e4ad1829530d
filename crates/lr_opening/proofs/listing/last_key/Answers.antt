use Rattle.std.proofs.Common.{refl}
use Rattle.lr_opening.proofs.Listed.{last_is}
use Rattle.lr_opening.proofs.listing.last_key.Goals as goal

pub returns-in-Some : goal.returns-in-Some
returns-in-Some c = last_is c.args.keys.now c.args.keys.now c.in-Some.key.now c.as_slice.result.now refl c.in-Some.ensures.value c.as_slice.ensures.value
