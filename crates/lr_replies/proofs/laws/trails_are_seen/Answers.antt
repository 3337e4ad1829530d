use Rattle.lr_replies.proofs.Seen.{trails_seen}
use Rattle.lr_replies.proofs.laws.trails_are_seen.Goals as goal

pub returns : goal.returns
returns c = trails_seen
