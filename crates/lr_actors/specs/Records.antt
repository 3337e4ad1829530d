-- What an actor did, over lists of steps, one for each object.
use Rattle.std.specs.Prelude.{List, length, drop}
use Rattle.std.specs.List.{AllZip}
use Rattle.lr_object.specs.declared.id.ObjectId.{ObjectId}
use Rattle.lr_walk.specs.declared.trail.Answer.{Answer}
use Rattle.lr_walk.specs.declared.trail.Did.{Did}
use Rattle.lr_walk.specs.declared.trail.JobResult.{JobResult}
use Rattle.lr_walk.specs.Steps.{Step}
use Rattle.lr_walk.specs.Jobs.{Context}
use Rattle.lr_walk.specs.Trails.{Lists, Reads, places, AreCounted, AreReaps}
use Rattle.lr_actors.specs.Jobs.{Job, IsWalk}

-- The path reads as a walk of the job with this answer.
abbrev pub HasWalk : Context → Lists → Job → List Did → Answer → Type 0
HasWalk context lists job path answer = (steps : List Step) × Reads lists path steps × IsWalk context job steps answer

-- A trail over lists of steps: each job has a result with its walk; the entries that the paths name are those of each
-- list, each once and in order; what a list has beyond is the end of what was out at a crash.
pub record HasTrail (context : Context) (lists : Lists) (jobs : List Job) (results : List JobResult) : Type 0 where
  pub walks : AllZip (λ (job : Job) (r : JobResult). HasWalk context lists job r.path.items r.answer) jobs results
  pub counted : (o : ObjectId) → AreCounted (places o results)
  pub beyond : (o : ObjectId) → AreReaps (drop (length (places o results)) (lists o))
