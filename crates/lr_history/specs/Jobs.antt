-- Jobs as the history of a run sees them: a call of a device, or another job. And trails over any table of jobs.
use Rattle.std.specs.Prelude.{◌≡◌, ℕ, List, [], ◌∷◌, ◌++◌, length, drop, map, ⊤}
use Rattle.std.specs.List.{AllByRecursion, AllZip}
use Rattle.lr_object.specs.declared.id.ObjectId.{ObjectId}
use Rattle.lr_device.specs.declared.call.DeviceCall.{DeviceCall}
use Rattle.lr_walk.specs.declared.trail.Answer.{Answer}
use Rattle.lr_walk.specs.declared.trail.Answer.TheVariants.{Done, Range, Cut, Unbegun}
use Rattle.lr_walk.specs.declared.trail.JobResult.{JobResult}
use Rattle.lr_walk.specs.Walk.{Walks}
use Rattle.lr_walk.specs.Steps.{Call, on_device, on_cache, on_node, on_depot, Step}
use Rattle.lr_walk.specs.Calls.{CallsDevice}
use Rattle.lr_walk.specs.Jobs.{Context, OnDevice, Job, IsWalk}
use Rattle.lr_walk.specs.Jobs as table
use Rattle.lr_walk.specs.Trails.{Lists, Reads, places, AreCounted, AreReaps, HasTrail}
use Rattle.lr_walk.specs.Cache as caches
use Rattle.lr_walk.specs.Depot as depots

pub data JobSeen : Type 0 where
  calls : (device : ℕ) (call : DeviceCall) → JobSeen
  another : JobSeen

-- The call is on no device, none of a load, and no end of what was out at a crash.
abbrev pub IsApart : Call → Type 0
IsApart (on_device device call) = ⊥
IsApart (on_cache host caches.evicts) = ⊤
IsApart (on_cache host call) = ⊥
IsApart (on_node node call) = ⊤
IsApart (on_depot (depots.fetches lease index)) = ⊥
IsApart (on_depot depots.reaps) = ⊥
IsApart (on_depot call) = ⊤

-- an answer of a job that calls no device
abbrev pub IsAnother : Answer → Type 0
IsAnother Done = ⊥
IsAnother Range = ⊥
IsAnother Cut = ⊥
IsAnother Unbegun = ⊥
IsAnother answer = ⊤

-- a job that calls no device
abbrev pub StaysApart : Walks Step Answer
StaysApart steps answer = AllByRecursion (λ (s : Step). IsApart s.call) steps × IsAnother answer

-- a finished job
abbrev pub WalksSeen : Context → JobSeen → Walks Step Answer
WalksSeen context (calls device call) = OnDevice context device (λ place. CallsDevice context.nodes device place call)
WalksSeen context another = StaysApart

-- Of jobs with these finished walks: a job, finished, cut or not begun. A cut one made a proper part of a walk, and not nothing.
abbrev pub OrCut : {J : Type 0} → (J → Walks Step Answer) → J → Walks Step Answer
OrCut walks job steps Cut =
    (first : Step) × (more : List Step) × (next : Step) × (later : List Step) × (answer : Answer)
    × (steps ≡ first ∷ more) × walks job (steps ++ next ∷ later) answer
OrCut walks job steps Unbegun = steps ≡ []
OrCut walks job steps answer = walks job steps answer

-- A trail over lists of steps, by any table of jobs: each job has a result, whose path reads as one of its walks; the entries that the
-- paths name are those of each list, each once and in order; what a list has beyond is the end of what was out at a crash.
pub record HasTrailOf {J : Type 0} (walk : J → Walks Step Answer) (lists : Lists) (jobs : List J) (results : List JobResult) : Type 0 where
  pub walks : AllZip (λ (job : J) (r : JobResult). (steps : List Step) × Reads lists r.path.items steps × walk job steps r.answer) jobs results
  pub counted : (o : ObjectId) → AreCounted (places o results)
  pub beyond : (o : ObjectId) → AreReaps (drop (length (places o results)) (lists o))

-- .. of jobs as a history sees them
abbrev pub HasTrailSeen : Context → Lists → List JobSeen → List JobResult → Type 0
HasTrailSeen context lists jobs results = HasTrailOf (OrCut (WalksSeen context)) lists jobs results

-- ---- tables of jobs

-- Each walk of a job is one of what is seen of it. Then a trail over the table is one over what is seen of its jobs (`trail_seen` in proofs/Public).
abbrev pub IsSeenAs : {J : Type 0} → (J → Walks Step Answer) → Context → (J → JobSeen) → Type 0
IsSeenAs {J} walks context seen = (job : J) (steps : List Step) (answer : Answer) → walks job steps answer → WalksSeen context (seen job) steps answer

-- what is seen of a job of the table that calls devices, damages, rotates and closes
abbrev pub job_seen : Job → JobSeen
job_seen (table.calls device call) = calls device call
job_seen job = another

-- A trail over that table is one over what is seen of its jobs.
abbrev pub OwnTrailIsSeen : Type 0
OwnTrailIsSeen =
    (context : Context) (lists : Lists) (jobs : List Job) (results : List JobResult)
    → HasTrail context lists jobs results → HasTrailSeen context lists (map job_seen jobs) results
