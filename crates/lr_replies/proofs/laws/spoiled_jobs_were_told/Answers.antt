use Rattle.lr_replies.proofs.Unspoiled.{jobs_told}
use Rattle.lr_replies.proofs.laws.spoiled_jobs_were_told.Goals as goal

pub returns : goal.returns
returns c = jobs_told
