-- What the code of an actor keeps, and how it goes on.
use Rattle.std.specs.Prelude.{◌≡◌, ◌⊎◌, ◌≤◌, ◌<◌, ◌+◌, ℕ, List, [], ◌∷◌, ◌++◌, length, take, Bool, true, false, nat_lt, is_none, IfSome, if◌then◌else◌, Some, slice_get, vec_len, vec_capacity, ⊤}
use Rattle.std.specs.Arc.{arc_value}
use Rattle.std.specs.List.{AllByRecursion}
use Rattle.lr_spec.specs.Rose.{next_count}
use Rattle.lr_object.specs.declared.id.ObjectId.{ObjectId}
use Rattle.lr_walk.specs.declared.trail.Answer.{Answer}
use Rattle.lr_walk.specs.declared.trail.Answer.TheVariants.{Memory, Cut, Unbegun}
use Rattle.lr_walk.specs.declared.trail.JobResult.{JobResult}
use Rattle.lr_walk.specs.Steps.{Reply, by_cache, by_depot, Step, object_of, is_memory}
use Rattle.lr_walk.specs.Depot as depots
use Rattle.lr_walk.specs.Cache as caches
use Rattle.lr_walk.specs.Jobs.{Context}
use Rattle.lr_walk.specs.Trails.{Lists, Reads}
use Rattle.lr_walk.specs.declared.trail.Did.{Did}
use Rattle.lr_collector.specs.declared.collect.CollectJob.TheVariants as collect
use Rattle.lr_depot.specs.declared.call.DepotCall.TheVariants as depot
use Rattle.lr_actors.specs.declared.action.ActorCall.TheVariants as call
use Rattle.lr_object.specs.declared.id.ObjectId.TheVariants.{Device, Node, Depot}
use Rattle.lr_actors.specs.declared.action.ActorCall.{ActorCall}
use Rattle.lr_actors.specs.declared.trail.ActorState.TheVariants.{Crashed, Unfinished}
use Rattle.lr_actors.specs.declared.running.Running.{Running}
use Rattle.lr_actors.specs.declared.book.Book.{Book}
use Rattle.lr_actors.specs.declared.body.Setting.{Setting}
use Rattle.lr_actors.specs.declared.body.Working.{Working}
use Rattle.lr_actors.specs.declared.body.Stage.{Stage}
use Rattle.lr_actors.specs.declared.body.Stage.TheVariants as stage
use Rattle.lr_actors.specs.declared.body.Body.{Body}
use Rattle.lr_actors.specs.declared.body.Handed.{Handed}
use Rattle.lr_actors.specs.Asked.{Asked, a_call, a_commit, HandsCall, MayCall, Adds}
use Rattle.lr_actors.specs.Running.{Task, collects, task_of, asked, IsAtHome, StandsFor, steps_left, Went}
use Rattle.lr_actors.specs.Jobs.{Job, seen_context, WalksJob, bound_of}
use Rattle.lr_actors.specs.Begun.{IsContext, IsTask, IsTaskOf}
use Rattle.lr_actors.specs.Records.{HasWalk}
use Rattle.lr_actors.specs.Accounts.{Stands, StandsAt}
use Rattle.lr_actors.specs.Tally.{IsSized, KeepsSize}
use Rattle.lr_actors.specs.Book.{account_of, did_at, IsBook, HasRoom}
use Rattle.lr_actors.specs.Actor.{Now, works, idles, reaps, over, Seen, AreHosted, MayBeGiven, StandsNow, AreEnded, AreCutOnce, FitsState, FitsCrash, IsUnderWay, FitsNow, left, jobs_ahead, IsWithin, reap_count, object_called, ClosesFor, is_out, Hands, GrowsBy, HasMade, Nears}
use Rattle.lr_actors.specs.Trailed.{jobs_seen}

-- ---- what contracts see

abbrev pub context_of : Setting → Context
context_of s = seen_context (arc_value s.context)

abbrev pub hosts_of : Setting → ℕ
hosts_of s = (arc_value s.context).hosts

abbrev pub jobs_of : Setting → List Job
jobs_of s = jobs_seen s.jobs.items

abbrev pub now_of : Stage → Now
now_of (stage.Works w) = works w.job
now_of stage.Idles = idles
now_of (stage.Reaps made out) = reaps made
now_of stage.Over = over

abbrev pub out_of : Stage → Bool
out_of (stage.Works w) = is_none w.call
out_of (stage.Reaps made out) = out
out_of st = false

abbrev pub seen_with : Setting → Book → Stage → Seen
seen_with s b st =
    record { number = s.number; context = context_of s; hosts = hosts_of s; jobs = jobs_of s; crash = s.crash; state = b.trail.state; steps = b.trail.steps; account = account_of b; now = now_of st; out = out_of st }

abbrev pub seen : Body → Seen
seen b = seen_with b.setting b.book b.stage

-- ---- replies and calls

abbrev pub is_busy : Reply → Bool
is_busy (by_cache (caches.busy holder)) = true
is_busy reply = false

abbrev pub is_removal : Reply → Bool
is_removal (by_depot (depots.removed key)) = true
is_removal reply = false

-- the object of what is asked
abbrev pub object_asked : Asked → ObjectId
object_asked (a_call call) = object_of call
object_asked (a_commit device planned pages pieces) = Device device
object_asked asks = Depot

-- ---- what is kept

-- what an actor was made with
pub record IsSetting (s : Setting) : Type 0 where
  pub context : IsContext (context_of s)
  pub hosted : AreHosted (context_of s) (hosts_of s)
  pub jobs : AllByRecursion (MayBeGiven (context_of s) (hosts_of s)) (jobs_of s)
  pub devices : length (context_of s).devices ≤ 4294967295

-- The book counts the objects of the setting, and has memory for a result of each job.
pub record BookFits (s : Setting) (b : Book) : Type 0 where
  pub is : IsBook b
  pub sized : IsSized b.tally (length (context_of s).devices) (hosts_of s) (context_of s).nodes
  pub room : vec_len s.jobs ≤ vec_capacity b.trail.results

-- so many jobs have ended, each with an answer of its own
pub record HasEnded (s : Setting) (b : Book) : Type 0 where
  pub fits : BookFits s b
  pub state : b.trail.state ≡ Unfinished
  pub ended : AreEnded b.trail.results.items
  pub few : length b.trail.results.items ≤ vec_len s.jobs

-- no job is under way
pub record IsBetween (s : Setting) (b : Book) : Type 0 where
  pub has : HasEnded s b
  pub path : b.path.items ≡ []

-- the job that the next result is of
abbrev pub Next : Setting → Book → (Job → Type 0) → Type 0
Next s b passes = (job : Job) × (slice_get (jobs_of s) (length b.trail.results.items) ≡ Some job) × passes job

-- a job stands for some steps
abbrev pub StandsForSome : Running → Type 0
StandsForSome r = (steps : List Step) × StandsFor r steps

-- The job is under way, and its call or its end is prepared.
pub record IsGoing (context : Context) (job : Job) (r : Running) : Type 0 where
  pub is : IsTaskOf context job (task_of r)
  pub task : IsTask context job (task_of r)
  pub home : IsAtHome context r
  pub bound : steps_left r ≤ bound_of job

-- the call is the one that the job asks, and may be made
pub record IsHeld (context : Context) (hosts : ℕ) (job : Job) (r : Running) (c : ActorCall) : Type 0 where
  pub asked : HandsCall c (asked r)
  pub may : MayCall c
  pub within : IsWithin context hosts (object_called c)
  pub closes : (lease : ℕ) → c ≡ call.Depot (depot.Close lease) → ClosesFor context job lease

-- A job under way with its call, until it is handed out, and with memory for its steps.
pub record IsWorking (s : Setting) (b : Book) (w : Working) : Type 0 where
  pub some : StandsForSome w.job
  pub object : w.object ≡ object_asked (asked w.job)
  pub prepared : IfSome w.call (λ c. Next s b (λ job. IsHeld (context_of s) (hosts_of s) job w.job c))
  pub room : HasRoom (steps_left w.job) b

abbrev pub IsStage : Setting → Book → Stage → Type 0
IsStage s b (stage.Works w) = IsWorking s b w
IsStage s b st = ⊤

pub record IsWhole (s : Setting) (b : Book) (st : Stage) : Type 0 where
  pub setting : IsSetting s
  pub fits : BookFits s b
  pub state : FitsState b.trail.state (seen_with s b st)
  pub crash : FitsCrash s.crash b.trail.state b.made
  pub now : FitsNow (now_of st) (seen_with s b st)
  pub stage : IsStage s b st

abbrev pub IsWholeBody : Body → Type 0
IsWholeBody b = IsWhole b.setting b.book b.stage

-- ---- how it goes on

abbrev pub StandsBook : Setting → Lists → Book → Type 0
StandsBook s lists b = Stands (context_of s) lists (jobs_of s) (account_of b)

abbrev pub StandsStage : Setting → Lists → Book → Stage → Type 0
StandsStage s lists b st = StandsNow (now_of st) (seen_with s b st) lists

-- how many steps may come after so many jobs
abbrev pub ahead : Setting → Book → Stage → ℕ → ℕ
ahead s b st from = jobs_ahead (seen_with s b st) from

-- The next job ended with no step.
pub record Skips (s : Setting) (old new : Book) : Type 0 where
  pub is : IsBetween s new
  pub results : length new.trail.results.items ≡ length old.trail.results.items + 1
  pub made : new.made ≡ old.made
  pub steps : new.trail.steps ≡ old.trail.steps
  pub stands : (lists : Lists) → StandsBook s lists old → StandsBook s lists new

-- some jobs did
pub record SkipsSome (s : Setting) (old new : Book) : Type 0 where
  pub is : IsBetween s new
  pub results : length old.trail.results.items ≤ length new.trail.results.items
  pub made : new.made ≡ old.made
  pub steps : new.trail.steps ≡ old.trail.steps
  pub stands : (lists : Lists) → StandsBook s lists old → StandsBook s lists new

-- a crash begins with the first reap
abbrev pub CrashesFirst : Book → Stage → Type 0
CrashesFirst b st = b.trail.state ≡ Crashed → now_of st ≡ reaps 0

-- What comes next is prepared. No step was made.
pub record Prepares (s : Setting) (old new : Book) (st : Stage) : Type 0 where
  pub whole : IsWhole s new st
  pub out : out_of st ≡ false
  pub reaps : CrashesFirst new st
  pub made : new.made ≡ old.made
  pub steps : new.trail.steps ≡ old.trail.steps
  pub left : left (seen_with s new st) ≤ ahead s new st (length old.trail.results.items)
  pub stands : (lists : Lists) → StandsBook s lists old → StandsStage s lists new st

-- the path of the job under way is empty, or a proper part of a walk
abbrev pub IsCutAt : Setting → Lists → Book → Type 0
IsCutAt s lists b = (b.path.items ≡ []) ⊎ Next s b (λ job. HasWalk (context_of s) lists job b.path.items Cut)

-- Each job has a result. The job under way was cut, and no later one was begun.
pub record Fills (s : Setting) (old new : Book) : Type 0 where
  pub fits : BookFits s new
  pub each : length new.trail.results.items ≡ vec_len s.jobs
  pub cut : AreCutOnce new.trail.results.items
  pub begins : take (length old.trail.results.items) new.trail.results.items ≡ old.trail.results.items
  pub path : new.path.items ≡ []
  pub state : new.trail.state ≡ old.trail.state
  pub steps : new.trail.steps ≡ old.trail.steps
  pub made : new.made ≡ old.made
  pub stands : (lists : Lists) → StandsBook s lists old → IsCutAt s lists old → StandsBook s lists new

-- results of jobs that were not begun were added
pub record AddsUnbegun (s : Setting) (old new : Book) : Type 0 where
  pub fits : BookFits s new
  pub later : List JobResult
  pub unbegun : AllByRecursion (λ (r : JobResult). r.answer ≡ Unbegun) later
  pub results : new.trail.results.items ≡ old.trail.results.items ++ later
  pub path : new.path.items ≡ []
  pub state : new.trail.state ≡ old.trail.state
  pub steps : new.trail.steps ≡ old.trail.steps
  pub made : new.made ≡ old.made
  pub stands : (lists : Lists) → StandsBook s lists old → StandsBook s lists new

-- The job of this task goes on, with these steps, or it has ended with a walk of just these, or the actor has crashed.
abbrev pub Comes : Setting → Book → Task → List Step → Book → Stage → Type 0
Comes s old task steps new st =
    (new.trail.state ≡ Crashed) ⊎ (HasMade task steps (now_of st) ⊎ Next s old (λ job. (answer : Answer) × WalksJob (context_of s) job steps answer))

-- It crashed.
pub record Crashes (s : Setting) (old new : Book) (st : Stage) : Type 0 where
  pub whole : IsWhole s new st
  pub state : new.trail.state ≡ Crashed
  pub out : out_of st ≡ false
  pub reaps : CrashesFirst new st
  pub made : new.made ≡ old.made
  pub steps : new.trail.steps ≡ old.trail.steps
  pub left : left (seen_with s new st) ≤ ahead s new st (length old.trail.results.items + 1)
  pub stands : (lists : Lists) → StandsBook s lists old → IsCutAt s lists old → StandsStage s lists new st

-- The job under way ended.
pub record EndsJob (s : Setting) (old : Book) (answer : Answer) (new : Book) (st : Stage) : Type 0 where
  pub whole : IsWhole s new st
  pub out : out_of st ≡ false
  pub reaps : CrashesFirst new st
  pub made : new.made ≡ old.made
  pub steps : new.trail.steps ≡ old.trail.steps
  pub left : left (seen_with s new st) ≤ ahead s new st (length old.trail.results.items + 1)
  pub stands : (lists : Lists) (steps : List Step) → StandsBook s lists old → Reads lists old.path.items steps → Next s old (λ job. WalksJob (context_of s) job steps answer) → StandsStage s lists new st

-- it sweeps a root
abbrev pub IsSweep : Task → Type 0
IsSweep (collects (collect.Sweep root)) = ⊤
IsSweep task = ⊥

-- The job under way has this call next. After a removal it may end for want of memory.
pub record IsNextCall (context : Context) (hosts : ℕ) (job : Job) (r : Running) (c : ActorCall) (removed : Bool) : Type 0 where
  pub under : IsUnderWay context job r
  pub held : IsHeld context hosts job r c
  pub stops : removed ≡ true → (steps : List Step) → StandsFor r steps → WalksJob context job steps Memory
  pub last : removed ≡ true → steps_left r ≤ 1

-- after a removal there may be no memory for a further step
abbrev pub HasRoomUnless : Bool → Running → Book → Type 0
HasRoomUnless removed r b = removed ≡ false → HasRoom (steps_left r) b

-- A job under way goes on, or what comes after it is prepared.
pub record GoesOn (s : Setting) (old : Book) (r : Running) (new : Book) (st : Stage) : Type 0 where
  pub whole : IsWhole s new st
  pub out : out_of st ≡ false
  pub reaps : CrashesFirst new st
  pub made : new.made ≡ old.made
  pub steps : new.trail.steps ≡ old.trail.steps
  pub left : left (seen_with s new st) ≤ steps_left r + ahead s new st (length old.trail.results.items + 1)
  pub stands : (lists : Lists) → StandsBook s lists old → StandsAt lists old.path.items r → StandsStage s lists new st
  pub goes : (steps : List Step) → StandsFor r steps → Comes s old (task_of r) steps new st

-- how many steps a reply adds
abbrev pub steps_of : Reply → ℕ
steps_of reply = if is_busy reply then 0 else 1

-- the path after a reply from an object
abbrev pub path_after : Book → ObjectId → Reply → List Did
path_after b object reply = if is_busy reply then b.path.items else b.path.items ++ did_at (account_of b) object (is_memory reply) ∷ []

-- The step of a reply was written down, unless it was Busy.
pub record Writes (old : Book) (object : ObjectId) (reply : Reply) (new : Book) : Type 0 where
  pub is : IsBook new
  pub results : new.trail.results ≡ old.trail.results
  pub state : new.trail.state ≡ old.trail.state
  pub steps : new.trail.steps ≡ next_count old.trail.steps
  pub made : new.made ≡ old.made + steps_of reply
  pub sized : KeepsSize old.tally new.tally
  pub path : new.path.items ≡ path_after old object reply
  pub len : vec_len new.path ≡ vec_len old.path + steps_of reply
  pub capacity : vec_capacity new.path ≡ vec_capacity old.path

-- The job under way took a reply.
pub record Steps (s : Setting) (old : Book) (r : Running) (reply : Reply) (new : Book) (after : Running) : Type 0 where
  pub went : Went r reply after
  pub has : HasEnded s new
  pub results : new.trail.results.items ≡ old.trail.results.items
  pub made : new.made ≡ old.made + steps_of reply
  pub steps : new.trail.steps ≡ next_count old.trail.steps
  pub room : is_removal reply ≡ false → HasRoom (steps_left after) new
  pub some : StandsForSome after
  pub stands : (lists later : Lists) (more : List Step) → Adds (asked r) reply more → GrowsBy more lists later → StandsBook s lists old → StandsAt lists old.path.items r → StandsBook s later new × StandsAt later new.path.items after

-- It took a reply, and what comes next is prepared.
pub record Takes (s : Setting) (old : Book) (r : Running) (reply : Reply) (new : Book) (st : Stage) : Type 0 where
  pub whole : IsWhole s new st
  pub out : out_of st ≡ false
  pub reaps : CrashesFirst new st
  pub made : new.made ≡ old.made + steps_of reply
  pub steps : new.trail.steps ≡ next_count old.trail.steps
  pub nears : Nears reply (steps_left r + ahead s new st (length old.trail.results.items + 1)) (left (seen_with s new st))
  pub stands : (lists later : Lists) (more : List Step) → Adds (asked r) reply more → GrowsBy more lists later → StandsBook s lists old → StandsAt lists old.path.items r → StandsStage s later new st
  pub goes : (steps more : List Step) → StandsFor r steps → Adds (asked r) reply more → Comes s old (task_of r) (steps ++ more) new st

-- the result of the job under way was added: it was cut, or not begun where its path is empty
pub record CutsOne (s : Setting) (old new : Book) : Type 0 where
  pub fits : BookFits s new
  pub result : JobResult
  pub results : new.trail.results.items ≡ old.trail.results.items ++ result ∷ []
  pub path : new.path.items ≡ []
  pub state : new.trail.state ≡ old.trail.state
  pub steps : new.trail.steps ≡ old.trail.steps
  pub made : new.made ≡ old.made
  pub cut : (result.answer ≡ Cut) ⊎ (result.answer ≡ Unbegun)
  pub stands : (lists : Lists) → StandsBook s lists old → IsCutAt s lists old → StandsBook s lists new

-- ---- reaps

-- an object that a crashed actor reaps
abbrev pub IsReaped : ObjectId → Type 0
IsReaped (Node n) = ⊥
IsReaped o = ⊤

-- what comes after a reap
abbrev pub after_reap : Context → ℕ → ℕ → Stage
after_reap context hosts made = if nat_lt made (length context.devices + hosts) then stage.Reaps (made + 1) false else stage.Over

-- reaps are left
abbrev pub ReapsWithin : Setting → Stage → Type 0
ReapsWithin s (stage.Reaps made out) = made < reap_count (context_of s) (hosts_of s)
ReapsWithin s st = ⊤

-- ---- what is handed out

-- The stage stays, but its call is out, and it is the one prepared.
pub record IsHanded (s : Setting) (st : Stage) (h : Handed) : Type 0 where
  pub now : now_of h.stage ≡ now_of st
  pub out : out_of h.stage ≡ is_out (now_of st)
  pub whole : (b : Book) → IsWhole s b st → IsWhole s b h.stage
  pub hands : (b : Book) → IsWhole s b st → Hands (seen_with s b st) h.action
