use Rattle.lr_replies.proofs.Holding.{ended_none}
use Rattle.lr_replies.proofs.laws.ended_hold_none.Goals as goal

pub returns : goal.returns
returns c = ended_none c.trails_are_seen.ensures c.ended_actors_hold_nothing.ensures.ended
