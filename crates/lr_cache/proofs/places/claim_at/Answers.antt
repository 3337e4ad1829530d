use Rattle.lr_cache.specs.Claims.{is_of}
use Rattle.lr_object.proofs.Found.{finds}
use Rattle.lr_cache.proofs.places.claim_at.Goals as goal

pub returns : goal.returns
returns c = rw c.position_of_caller.ensures (finds (is_of c.args.caller) c.args.claims.now)
