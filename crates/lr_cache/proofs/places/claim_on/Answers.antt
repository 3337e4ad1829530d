use Rattle.lr_cache.specs.Claims.{is_on}
use Rattle.lr_object.proofs.Found.{finds}
use Rattle.lr_cache.proofs.places.claim_on.Goals as goal

pub returns : goal.returns
returns c = rw c.position_of_claim.ensures (finds (is_on c.args.name.now) c.args.claims.now)
