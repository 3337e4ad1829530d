-- Jobs of actors as the history of a run sees them.
use Rattle.std.specs.Prelude.{ℕ, List, map}
use Rattle.std.specs.List.{AllByRecursion}
use Rattle.lr_walk.specs.declared.trail.Answer.{Answer}
use Rattle.lr_walk.specs.declared.trail.JobResult.{JobResult}
use Rattle.lr_walk.specs.Steps.{Step}
use Rattle.lr_walk.specs.Jobs.{Context}
use Rattle.lr_walk.specs.Trails.{Lists}
use Rattle.lr_history.specs.Jobs.{JobSeen, another, WalksSeen, HasTrailSeen}
use Rattle.lr_history.specs.Jobs as history
use Rattle.lr_actors.specs.Jobs.{Job, calls, WalksJob}
use Rattle.lr_actors.specs.Actor.{MayBeGiven}
use Rattle.lr_actors.specs.Records.{HasTrail}

-- what is seen of a job
abbrev pub seen_job : Job → JobSeen
seen_job (calls device call) = history.calls device call
seen_job job = another

-- Each walk of a job is one of what is seen of it, if the job's device is one of the context's.
abbrev pub JobsAreSeen : Type 0
JobsAreSeen =
    (context : Context) (hosts : ℕ) (job : Job) (steps : List Step) (answer : Answer)
    → MayBeGiven context hosts job → WalksJob context job steps answer → WalksSeen context (seen_job job) steps answer

-- So a trail of an actor is one over what is seen of its jobs.
abbrev pub TrailsAreSeen : Type 0
TrailsAreSeen =
    (context : Context) (hosts : ℕ) (lists : Lists) (jobs : List Job) (results : List JobResult)
    → AllByRecursion (MayBeGiven context hosts) jobs → HasTrail context lists jobs results → HasTrailSeen context lists (map seen_job jobs) results
