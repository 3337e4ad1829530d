use Rattle.lr_history.proofs.Counts.{counted}
use Rattle.lr_history.proofs.Whole.{answered_once, jobs_told, lists_follow}
use Rattle.lr_history.proofs.laws.calls_are_answered_once.Goals as goal

pub returns : goal.returns
returns c = record { once = answered_once; jobs = jobs_told; order = lists_follow; counted = counted }
