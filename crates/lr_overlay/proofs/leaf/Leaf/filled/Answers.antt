use Rattle.lr_overlay.proofs.Seen.{none_seen}
use Rattle.lr_overlay.proofs.leaf.Leaf.filled.Goals as goal

pub returns-clause-empty : goal.returns-clause-empty
returns-clause-empty c = none_seen c.in_ok-new.field-0.value.all (rw c.in_ok-new.ensures.ok c.empty_places.ensures.empty)
