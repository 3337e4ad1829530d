use Rattle.lr_play.proofs.Givens.{given}
use Rattle.lr_play.proofs.laws.jobs_may_be_given.Goals as goal

pub returns : goal.returns
returns c = given
