use Rattle.lr_headline.proofs.Wholes.{is_whole}
use Rattle.lr_headline.proofs.laws.runs_are_whole.Goals as goal

pub returns : goal.returns
returns c = is_whole c.trails_are_seen.ensures
