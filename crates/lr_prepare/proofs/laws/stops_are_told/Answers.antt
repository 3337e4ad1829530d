use Rattle.lr_prepare.proofs.Telling.{are_told, told_come, done_plain}
use Rattle.lr_prepare.proofs.laws.stops_are_told.Goals as goal

pub returns : goal.returns
returns c = record { told = are_told c.answers_are_told.ensures.created; only = told_come; done = done_plain }
