-- What an actor did so far, over lists of steps, one for each object.
use Rattle.std.specs.Prelude.{◌≡◌, ℕ, List, [], ◌∷◌, ◌++◌, length, Bool, true, false, cond, Some, slice_get, ⊤}
use Rattle.lr_object.specs.declared.id.ObjectId.{ObjectId}
use Rattle.lr_walk.specs.declared.trail.Answer.{Answer}
use Rattle.lr_walk.specs.declared.trail.Answer.TheVariants.{Cut, Unbegun}
use Rattle.lr_walk.specs.declared.trail.Did.{Did}
use Rattle.lr_walk.specs.declared.trail.JobResult.{JobResult}
use Rattle.lr_walk.specs.Steps.{Step, object_of, is_memory}
use Rattle.lr_walk.specs.Jobs.{Context}
use Rattle.lr_walk.specs.Trails.{Lists, is_same, Reads, places_in, places, AreCounted}
use Rattle.lr_actors.specs.declared.running.Running.{Running}
use Rattle.lr_actors.specs.Running.{StandsFor, Knows}
use Rattle.lr_actors.specs.Jobs.{Job}
use Rattle.lr_actors.specs.Records.{HasWalk}

-- The list of the called object has one more step, the others stay. Where the object found no memory, all stay.
abbrev pub Grows : Bool → Lists → Lists → Step → Type 0
Grows true old new s = (o : ObjectId) → new o ≡ old o
Grows false old new s = (o : ObjectId) → new o ≡ cond (is_same (object_of s.call) o) (old o ++ s ∷ []) (old o)

-- the jobs that have ended, and the path of the one under way
pub record Account : Type 0 where
  pub results : List JobResult
  pub path : List Did

-- the places of the entries that all paths name
abbrev pub places_of : ObjectId → Account → List ℕ
places_of o a = places o a.results ++ places_in o a.path

-- what a path gains by a step
abbrev pub did_of : Account → Step → Did
did_of a s = record { object = object_of s.call; place = cond (is_memory s.reply) 0 (length (places_of (object_of s.call) a)); memory = is_memory s.reply }

abbrev pub with_step : Account → Step → Account
with_step a s = record { results = a.results; path = a.path ++ did_of a s ∷ [] }

abbrev pub with_result : Account → JobResult → Account
with_result a r = record { results = a.results ++ r ∷ []; path = [] }

-- The account stands for the lists: each job that ended has its walk, and the entries that the paths name are those of each list.
pub record Stands (context : Context) (lists : Lists) (jobs : List Job) (a : Account) : Type 0 where
  pub done : (i : ℕ) (job : Job) (r : JobResult) → slice_get jobs i ≡ Some job → slice_get a.results i ≡ Some r → HasWalk context lists job r.path.items r.answer
  pub counted : (o : ObjectId) → AreCounted (places_of o a)
  pub whole : (o : ObjectId) → length (lists o) ≡ length (places_of o a)

-- the job under way stands for the steps that its path names
abbrev pub StandsAt : Lists → List Did → Running → Type 0
StandsAt lists path r = (steps : List Step) × Reads lists path steps × StandsFor r steps × Knows r steps

-- an answer of a job that ended
abbrev pub IsEnd : Answer → Type 0
IsEnd Cut = ⊥
IsEnd Unbegun = ⊥
IsEnd answer = ⊤
