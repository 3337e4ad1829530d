use Rattle.lr_replies.proofs.Seen.{jobs_seen}
use Rattle.lr_replies.proofs.laws.jobs_are_seen.Goals as goal

pub returns : goal.returns
returns c = jobs_seen
