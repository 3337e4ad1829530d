-- An actor, as contracts see it: what it does now, for which lists it stands, and how many steps it may still make.
use Rattle.std.specs.Prelude.{◌≡◌, ◌≢◌, ◌⊎◌, ◌≤◌, ◌<◌, ◌+◌, ◌-◌, ℕ, List, [], ◌∷◌, ◌++◌, length, drop, Bool, true, false, nat_lt, if◌then◌else◌, Option, Some, None, slice_get, ⊤}
use Rattle.std.specs.List.{AllByRecursion}
use Rattle.lr_spec.specs.Rose.{next_count}
use Rattle.lr_object.specs.declared.id.ObjectId.{ObjectId}
use Rattle.lr_object.specs.declared.id.ObjectId.TheVariants.{Device, Cache, Node, Depot}
use Rattle.lr_walk.specs.declared.trail.Answer.{Answer}
use Rattle.lr_walk.specs.declared.trail.Answer.TheVariants.{NoChunk, Unbegun}
use Rattle.lr_walk.specs.declared.trail.JobResult.{JobResult}
use Rattle.lr_walk.specs.Stands.{IsFront}
use Rattle.lr_walk.specs.Steps.{Call, on_device, on_cache, on_depot, Reply, by_device, by_cache, by_depot, Step, step, is_memory, Answers}
use Rattle.lr_walk.specs.Calls.{DevicePlace}
use Rattle.lr_walk.specs.Jobs.{Context}
use Rattle.lr_walk.specs.Trails.{Lists, Reads, places}
use Rattle.lr_walk.specs.Depot as depots
use Rattle.lr_walk.specs.Cache as caches
use Rattle.lr_walk.specs.Device as devices
use Rattle.lr_depot.specs.declared.call.DepotCall.{DepotCall}
use Rattle.lr_depot.specs.declared.call.DepotCall.TheVariants as depot
use Rattle.lr_actors.specs.declared.action.ActorCall.{ActorCall}
use Rattle.lr_actors.specs.declared.action.ActorCall.TheVariants as call
use Rattle.lr_actors.specs.declared.trail.ActorState.{ActorState}
use Rattle.lr_actors.specs.declared.trail.ActorState.TheVariants.{Ended, Crashed, Unfinished}
use Rattle.lr_actors.specs.declared.actor.ActorAction.{ActorAction}
use Rattle.lr_actors.specs.declared.actor.ActorAction.TheVariants as action
use Rattle.lr_actors.specs.declared.running.Running.{Running}
use Rattle.lr_actors.specs.Asked.{Asked, a_call, a_commit, no_call, HandsCall, MayCall, Adds}
use Rattle.lr_actors.specs.Running as running
use Rattle.lr_actors.specs.Running.{Task, task_of, asked, is_ready, IsAtHome, steps_left}
use Rattle.lr_actors.specs.Jobs.{Job, evicts, loses, closes, WalksJob, bound_of}
use Rattle.lr_actors.specs.Begun.{IsContext, IsJob, IsTask, IsTaskOf, AtDevice}
use Rattle.lr_actors.specs.Records.{HasTrail}
use Rattle.lr_actors.specs.Accounts.{Grows, Account, Stands, StandsAt, IsEnd}

-- what an actor does now
pub data Now : Type 0 where
  works : (r : Running) → Now  -- a job is under way
  idles : Now  -- it begins a job that makes no step
  reaps : (made : ℕ) → Now  -- it crashed, and made so many of its reaps
  over : Now  -- it has ended

pub record Seen : Type 0 where
  pub number : ℕ
  pub context : Context
  pub hosts : ℕ
  pub jobs : List Job
  pub crash : Option ℕ
  pub state : ActorState
  pub steps : ℕ
  pub account : Account
  pub now : Now
  pub out : Bool  -- its call was handed out

-- ---- the numbers of a context

-- each device is on one of these hosts
abbrev pub AreHosted : Context → ℕ → Type 0
AreHosted context hosts = AllByRecursion (λ (p : DevicePlace). p.host < hosts) context.devices

-- the object is one of these
abbrev pub IsWithin : Context → ℕ → ObjectId → Type 0
IsWithin context hosts (Device d) = d < length context.devices
IsWithin context hosts (Cache h) = h < hosts
IsWithin context hosts (Node n) = n < context.nodes
IsWithin context hosts Depot = ⊤

-- The job is within the limits of a script, and each device, host and node that it names is one of these.
abbrev pub MayBeGiven : Context → ℕ → Job → Type 0
MayBeGiven context hosts (evicts host) = host < hosts
MayBeGiven context hosts (loses node) = node < context.nodes
MayBeGiven context hosts job = IsJob context job

-- ---- the reaps of a crash: of each device, each cache and the depot, in this order

abbrev pub reap_count : Context → ℕ → ℕ
reap_count context hosts = length context.devices + hosts + 1

abbrev pub reap_at : Context → ℕ → ℕ → ObjectId
reap_at context hosts i =
    if nat_lt i (length context.devices) then Device i else (if nat_lt i (length context.devices + hosts) then Cache (i - length context.devices) else Depot)

abbrev pub reap_place : Context → ℕ → ObjectId → ℕ
reap_place context hosts (Device d) = d
reap_place context hosts (Cache h) = length context.devices + h
reap_place context hosts o = length context.devices + hosts

-- The object isn't among the first so many that are reaped. A node never is.
abbrev pub IsUnreaped : Context → ℕ → ℕ → ObjectId → Type 0
IsUnreaped context hosts made (Node n) = ⊤
IsUnreaped context hosts made o = made ≤ reap_place context hosts o

abbrev pub reap_of : ObjectId → Call
reap_of (Device d) = on_device d devices.reaps
reap_of (Cache h) = on_cache h caches.reaps
reap_of o = on_depot depots.reaps

-- ---- for which lists it stands

-- A crashed actor that made so many reaps: over the lists its results are a trail, and an object that it hasn't reaped has no
-- entry beyond.
pub record StandsReaped (a : Seen) (lists : Lists) (made : ℕ) : Type 0 where
  pub trail : HasTrail a.context lists a.jobs a.account.results
  pub rest : (o : ObjectId) → IsUnreaped a.context a.hosts made o → length (lists o) ≡ length (places o a.account.results)

-- all reaps of a crashed actor that has ended, and none of another
abbrev pub reaps_of : ActorState → Seen → ℕ
reaps_of Crashed a = reap_count a.context a.hosts
reaps_of state a = 0

abbrev pub StandsNow : Now → Seen → Lists → Type 0
StandsNow (works r) a lists = Stands a.context lists a.jobs a.account × StandsAt lists a.account.path r
StandsNow idles a lists = Stands a.context lists a.jobs a.account
StandsNow (reaps made) a lists = StandsReaped a lists made
StandsNow over a lists = StandsReaped a lists (reaps_of a.state a)

-- Each ended job has its walk over the lists, the entries that the paths name are those of the lists, and the job under way
-- stands for the steps of its path.
abbrev pub StandsFor : Seen → Lists → Type 0
StandsFor a lists = StandsNow a.now a lists

-- ---- what an actor is

-- the steps of all paths
abbrev pub steps_in : List JobResult → ℕ
steps_in [] = 0
steps_in (r ∷ results) = length r.path.items + steps_in results

abbrev pub steps_made : Seen → ℕ
steps_made a = steps_in a.account.results + length a.account.path

-- each job has ended, uncut
abbrev pub AreEnded : List JobResult → Type 0
AreEnded results = AllByRecursion (λ (r : JobResult). IsEnd r.answer) results

-- After a job that was cut or not begun no job was begun.
abbrev pub AreCutOnce : List JobResult → Type 0
AreCutOnce [] = ⊤
AreCutOnce (r ∷ results) = (IsEnd r.answer × AreCutOnce results) ⊎ AllByRecursion (λ (later : JobResult). later.answer ≡ Unbegun) results

-- an ended or crashed actor has a result of each job, another one of each but those to come
abbrev pub FitsState : ActorState → Seen → Type 0
FitsState Unfinished a = AreEnded a.account.results × (length a.account.results < length a.jobs)
FitsState Ended a = AreEnded a.account.results × (length a.account.results ≡ length a.jobs)
FitsState Crashed a = AreCutOnce a.account.results × (length a.account.results ≡ length a.jobs)

-- An actor crashes after exactly as many steps as it was told, unless it ends with them or before.
abbrev pub FitsCrash : Option ℕ → ActorState → ℕ → Type 0
FitsCrash None Crashed made = ⊥
FitsCrash None state made = ⊤
FitsCrash (Some c) Unfinished made = made < c
FitsCrash (Some c) Ended made = made ≤ c
FitsCrash (Some c) Crashed made = made ≡ c

-- a call is asked
abbrev pub IsCall : Asked → Type 0
IsCall (a_call call) = ⊤
IsCall (a_commit device planned pages pieces) = ⊤
IsCall asks = ⊥

-- The job is under way, and its call is prepared or out.
pub record IsUnderWay (context : Context) (job : Job) (r : Running) : Type 0 where
  pub is : IsTaskOf context job (task_of r)
  pub task : IsTask context job (task_of r)
  pub home : IsAtHome context r
  pub handed : is_ready r ≡ false
  pub calls : IsCall (asked r)
  pub front : (steps more : List Step) (reply : Reply) → running.Admits r reply → Adds (asked r) reply more → running.StandsFor r steps → IsFront (running.Walk (task_of r)) (steps ++ more)
  pub bound : steps_left r ≤ bound_of job

-- the next job to begin or under way
abbrev pub NextJob : Seen → (Job → Type 0) → Type 0
NextJob a passes = (job : Job) × (slice_get a.jobs (length a.account.results) ≡ Some job) × passes job

abbrev pub FitsNow : Now → Seen → Type 0
FitsNow (works r) a = (a.state ≡ Unfinished) × NextJob a (λ job. IsUnderWay a.context job r)
FitsNow idles a = (a.state ≡ Unfinished) × (a.account.path ≡ []) × (a.out ≡ false) × NextJob a (λ job. WalksJob a.context job [] NoChunk)
FitsNow (reaps made) a = (a.state ≡ Crashed) × (a.account.path ≡ []) × (made < reap_count a.context a.hosts)
FitsNow over a = (a.state ≢ Unfinished) × (a.account.path ≡ []) × (a.out ≡ false)

-- What holds of each actor.
pub record IsActor (a : Seen) : Type 0 where
  pub context : IsContext a.context
  pub hosted : AreHosted a.context a.hosts
  pub jobs : AllByRecursion (MayBeGiven a.context a.hosts) a.jobs
  pub state : FitsState a.state a
  pub crash : FitsCrash a.crash a.state (steps_made a)
  pub now : FitsNow a.now a

-- ---- how many steps it may still make, Busy and the removals of sweeps not counted

abbrev pub bounds_of : List Job → ℕ
bounds_of [] = 0
bounds_of (job ∷ jobs) = bound_of job + bounds_of jobs

-- the reaps of a crash to come
abbrev pub reaps_ahead : Option ℕ → Seen → ℕ
reaps_ahead None a = 0
reaps_ahead (Some c) a = reap_count a.context a.hosts

-- of the jobs from this place on
abbrev pub jobs_ahead : Seen → ℕ → ℕ
jobs_ahead a from = bounds_of (drop from a.jobs) + reaps_ahead a.crash a

abbrev pub now_left : Now → Seen → ℕ
now_left (works r) a = steps_left r + jobs_ahead a (length a.account.results + 1)
now_left idles a = jobs_ahead a (length a.account.results)
now_left (reaps made) a = reap_count a.context a.hosts - made
now_left over a = 0

abbrev pub left : Seen → ℕ
left a = now_left a.now a

-- ---- what contracts say of its calls

-- what no call changes
pub record IsSame (old new : Seen) : Type 0 where
  pub number : new.number ≡ old.number
  pub context : new.context ≡ old.context
  pub hosts : new.hosts ≡ old.hosts
  pub jobs : new.jobs ≡ old.jobs
  pub crash : new.crash ≡ old.crash

-- A new actor: no step made, and it stands for empty lists.
pub record IsNew (n : ℕ) (given : Context) (h : ℕ) (js : List Job) (at : Option ℕ) (a : Seen) : Type 0 where
  pub number : a.number ≡ n
  pub context : a.context ≡ given
  pub hosts : a.hosts ≡ h
  pub jobs : a.jobs ≡ js
  pub crash : a.crash ≡ at
  pub is : IsActor a
  pub steps : a.steps ≡ 0
  pub made : steps_made a ≡ 0
  pub out : a.out ≡ false
  pub stands : StandsFor a (λ (o : ObjectId). [])
  pub left : left a ≤ bounds_of js + reaps_ahead at a

-- what it asks now
abbrev pub asks_now : Now → Seen → Asked
asks_now (works r) a = asked r
asks_now (reaps made) a = a_call (reap_of (reap_at a.context a.hosts made))
asks_now now a = no_call

abbrev pub asks : Seen → Asked
asks a = asks_now a.now a

-- its call was handed out, or the idle step or its end told
abbrev pub is_out : Now → Bool
is_out (works r) = true
is_out (reaps made) = true
is_out now = false

abbrev pub handed : Seen → Seen
handed a =
    record { number = a.number; context = a.context; hosts = a.hosts; jobs = a.jobs; crash = a.crash; state = a.state; steps = a.steps; account = a.account; now = a.now; out = is_out a.now }

-- A close ends the lease of the device of a close job.
abbrev pub ClosesFor : Context → Job → ℕ → Type 0
ClosesFor context (closes device) lease = AtDevice context device (λ place. lease ≡ place.lease)
ClosesFor context job lease = ⊥

abbrev pub ClosesOf : Seen → DepotCall → Type 0
ClosesOf a (depot.Close lease) = NextJob a (λ job. ClosesFor a.context job lease)
ClosesOf a call = ⊤

abbrev pub MayClose : Seen → ActorCall → Type 0
MayClose a (call.Depot c) = ClosesOf a c
MayClose a c = ⊤

-- the object that is called
abbrev pub object_called : ActorCall → ObjectId
object_called (call.Device n c) = Device n
object_called (call.Cache n c) = Cache n
object_called (call.Node n c) = Node n
object_called (call.Depot c) = Depot

-- The call is the one asked. Its object is within the numbers of the context, and it passes that object's test of calls. It is a
-- close only for a close job.
pub record Calls (a : Seen) (c : ActorCall) : Type 0 where
  pub asked : HandsCall c (asks a)
  pub may : MayCall c
  pub within : IsWithin a.context a.hosts (object_called c)
  pub closes : MayClose a c

abbrev pub HandsNow : Now → Seen → ActorAction → Type 0
HandsNow (works r) a (action.Call c) = Calls a c
HandsNow (reaps made) a (action.Call c) = Calls a c
HandsNow idles a action.Idle = ⊤
HandsNow over a action.Ended = ⊤
HandsNow now a action = ⊥

-- a call, an idle step, or the end
abbrev pub Hands : Seen → ActorAction → Type 0
Hands a action = HandsNow a.now a action

-- The replies that it takes: for its job those that the job takes, after a crash those of the reaped object's table.
abbrev pub AdmitsNow : Now → Seen → Reply → Type 0
AdmitsNow (works r) a reply = running.Admits r reply
AdmitsNow (reaps made) a reply = Answers (reap_of (reap_at a.context a.hosts made)) reply
AdmitsNow now a reply = ⊥

abbrev pub Admits : Seen → Reply → Type 0
Admits a reply = AdmitsNow a.now a reply

-- a reap adds its step where something was out
abbrev pub Reaps : Call → Reply → List Step → Type 0
Reaps call (by_device devices.nothing) more = more ≡ []
Reaps call (by_cache caches.nothing) more = more ≡ []
Reaps call (by_depot depots.nothing) more = more ≡ []
Reaps call reply more = more ≡ step call reply ∷ []

abbrev pub AddsNow : Now → Seen → Reply → List Step → Type 0
AddsNow (works r) a reply more = Adds (asked r) reply more
AddsNow (reaps made) a reply more = Reaps (reap_of (reap_at a.context a.hosts made)) reply more
AddsNow now a reply more = ⊥

-- With no step each list stays. With one the list of its object has it behind, or the object found no memory.
abbrev pub GrowsBy : List Step → Lists → Lists → Type 0
GrowsBy [] lists after = (o : ObjectId) → after o ≡ lists o
GrowsBy (s ∷ more) lists after = Grows (is_memory s.reply) lists after s

-- The lists after the actor's call got this reply: any entry that the object may log is behind the list of the object.
abbrev pub Gains : Seen → Reply → Lists → Lists → Type 0
Gains a reply lists after = (more : List Step) × AddsNow a.now a reply more × GrowsBy more lists after

-- what was handed out is, with any reply to it, a walk of the job or the front of one
abbrev pub FrontsNow : Now → Seen → Lists → List Step → Type 0
FrontsNow (works r) a lists more =
    (steps : List Step) × Reads lists a.account.path steps × NextJob a (λ job. IsFront (WalksJob a.context job) (steps ++ more))
FrontsNow now a lists more = ⊤

abbrev pub Fronts : Seen → Type 0
Fronts a = (lists : Lists) (reply : Reply) (more : List Step) → StandsFor a lists → Admits a reply → AddsNow a.now a reply more → FrontsNow a.now a lists more

-- steps of an actor that has neither ended nor crashed are counted
abbrev pub counted : ActorState → ℕ → ℕ
counted Unfinished n = next_count n
counted state n = n

-- The reply adds a step to a path: not Busy, and not after a crash.
abbrev pub adds_one : Now → Reply → ℕ
adds_one (works r) (by_cache (caches.busy holder)) = 0
adds_one (works r) reply = 1
adds_one now reply = 0

-- Each reply brings it nearer to its end, but Busy and the removal of a key.
abbrev pub Nears : Reply → ℕ → ℕ → Type 0
Nears (by_cache (caches.busy holder)) old new = new ≤ old
Nears (by_depot (depots.removed key)) old new = new ≤ old
Nears reply old new = new + 1 ≤ old

-- a job of this task is under way, and stands for these steps
abbrev pub HasMade : Task → List Step → Now → Type 0
HasMade task steps (works r) = (task_of r ≡ task) × running.StandsFor r steps
HasMade task steps now = ⊥

-- The job under way goes on, with the step of its call and the reply behind it, or it has ended with a walk of just these steps, or the
-- actor has crashed.
abbrev pub GoesOn : Now → Seen → Reply → Seen → Type 0
GoesOn (works r) old reply new =
    (steps more : List Step) → running.StandsFor r steps → Adds (asked r) reply more
    → (new.state ≡ Crashed) ⊎ (HasMade (task_of r) (steps ++ more) new.now ⊎ NextJob old (λ job. (answer : Answer) × WalksJob old.context job (steps ++ more) answer))
GoesOn now old reply new = ⊤

-- Its reaps are made one after another, until it has ended.
abbrev pub reaps_from : Seen → ℕ → Now
reaps_from a made = if nat_lt made (reap_count a.context a.hosts) then reaps made else over

-- A crash begins with the first reap, and after each reap comes the next.
abbrev pub ReapsOn : Now → Seen → Type 0
ReapsOn (reaps made) new = (new.state ≡ Crashed) × (new.now ≡ reaps_from new (made + 1))
ReapsOn now new = new.state ≡ Crashed → new.now ≡ reaps 0

-- It took a reply, and prepared what comes next.
pub record Took (old : Seen) (reply : Reply) (new : Seen) : Type 0 where
  pub same : IsSame old new
  pub is : IsActor new
  pub out : new.out ≡ false
  pub steps : new.steps ≡ counted old.state old.steps
  pub made : steps_made new ≡ steps_made old + adds_one old.now reply
  pub stands : (lists after : Lists) → Gains old reply lists after → StandsFor old lists → StandsFor new after
  pub goes : GoesOn old.now old reply new
  pub nears : Nears reply (left old) (left new)
  pub reaps : ReapsOn old.now new

-- It made its idle step, and prepared what comes next.
pub record Passed (old new : Seen) : Type 0 where
  pub same : IsSame old new
  pub is : IsActor new
  pub out : new.out ≡ false
  pub steps : new.steps ≡ next_count old.steps
  pub made : steps_made new ≡ steps_made old
  pub stands : (lists : Lists) → StandsFor old lists → StandsFor new lists
  pub nears : left new + 1 ≤ left old
  pub reaps : ReapsOn old.now new
