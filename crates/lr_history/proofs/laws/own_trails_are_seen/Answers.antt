use Rattle.lr_history.proofs.Seen.{own_trail_seen}
use Rattle.lr_history.proofs.laws.own_trails_are_seen.Goals as goal

pub returns : goal.returns
returns c = own_trail_seen
