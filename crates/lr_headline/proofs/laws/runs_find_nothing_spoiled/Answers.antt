use Rattle.lr_headline.proofs.Unspoiled.{none_spoiled}
use Rattle.lr_headline.proofs.laws.runs_find_nothing_spoiled.Goals as goal

pub returns : goal.returns
returns c k opening closing is led chunks =
    none_spoiled c.spoiled_jobs_were_told.ensures k opening closing is (c.calls_are_answered_once.ensures.jobs _ (c.runs_are_runs.ensures.trails k opening closing is)) led chunks
