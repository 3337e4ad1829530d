use Rattle.lr_replies.proofs.Made.{logs_made}
use Rattle.lr_replies.proofs.laws.logs_stay_made.Goals as goal

pub returns : goal.returns
returns c = logs_made
