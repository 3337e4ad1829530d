use Rattle.lr_cache.proofs.Ordered.{caches_are_orderly}
use Rattle.lr_cache.proofs.laws.caches_are_orderly.Goals as goal

pub returns : goal.returns
returns c = caches_are_orderly
