-- What follows for a run: each device serves its image.
use Rattle.std.specs.Prelude.{◌≡◌, ◌≢◌, ◌==◌, ℕ, ◌+◌, List, [], ◌∷◌, ◌++◌, length, map, filter, Some, slice_get, ⊤}
use Rattle.std.specs.List.{AllByRecursion, AllZip, Contains, flat_map}
use Rattle.std.specs.Arc.{arc_value}
use Rattle.lr_convergent.specs.declared.piece.KeptPiece.{KeptPiece}
use Rattle.lr_seal.specs.Made.{HaveDistinctDigests}
use Rattle.lr_object.specs.declared.id.ObjectId.{ObjectId}
use Rattle.lr_object.specs.declared.id.ObjectId.TheVariants.{Device, Depot}
use Rattle.lr_device.specs.declared.call.DeviceCall.{DeviceCall}
use Rattle.lr_device.specs.PlainDevice.{Answered, IsLegal}
use Rattle.lr_device.specs.declared.step.DeviceNoted.{DeviceNoted}
use Rattle.lr_device.specs.declared.step.DeviceNoted.TheVariants.{Commit}
use Rattle.lr_device.specs.declared.step.DeviceAnswer.{DeviceAnswer}
use Rattle.lr_device.specs.declared.step.DeviceAnswer.TheVariants.{Committed}
use Rattle.lr_device.specs.Base.{Agrees}
use Rattle.lr_device.specs.Machine.{LogEntry, history}
use Rattle.lr_walk.specs.declared.trail.Did.{Did}
use Rattle.lr_walk.specs.declared.trail.Answer.{Answer}
use Rattle.lr_walk.specs.declared.trail.JobResult.{JobResult}
use Rattle.lr_walk.specs.Device.{seen_piece}
use Rattle.lr_walk.specs.Steps.{Step}
use Rattle.lr_walk.specs.Trails.{Lists, AreReaps}
use Rattle.lr_history.specs.Jobs.{JobSeen, calls}
use Rattle.lr_history.specs.Run.{DeviceSeen, ActorSeen, Run}
use Rattle.lr_history.specs.Strings.{used_pieces}
use Rattle.lr_history.specs.Opened.{base_of}
use Rattle.lr_history.specs.Loaded.{IsLoaded, IsOpenedBy}
use Rattle.lr_history.specs.Lists.{own, place_of, entries_in}
use Rattle.lr_history.specs.Premises.{size_of}
use Rattle.lr_history.specs.Answered.{outcome_of, answered_job, answered_jobs, committed_in, failed_in, IsCallAnswer}

-- Each device's history is legal wherever a base of the device's length agrees with the pieces used.
abbrev pub AreLegalWhereAgreed : Run → Type 0
AreLegalWhereAgreed run =
    (i : ℕ) (d : DeviceSeen) → slice_get run.devices i ≡ Some d → (base : List ℕ) → length base ≡ size_of d → Agrees base (used_pieces d.log) → IsLegal base (history d.log)

-- Each piece that a committed call used is a chunk of the name and the key of its number.
abbrev pub PiecesWereLoaded : Run → Type 0
PiecesWereLoaded run =
    (i : ℕ) (d : DeviceSeen) → slice_get run.devices i ≡ Some d → AllByRecursion (IsLoaded (place_of d)) (map seen_piece (used_pieces d.log))

-- Each device's history is legal on every base of its length that its manifest's names and its keys open, by strings that
-- digests tell apart and among which are the chunks used.
abbrev pub ServesEachBase : Run → Type 0
ServesEachBase run =
    (i : ℕ) (d : DeviceSeen) → slice_get run.devices i ≡ Some d → (strings : List (List ℕ)) (base : List ℕ)
    → HaveDistinctDigests strings → AllByRecursion (λ (p : KeptPiece). Contains strings (arc_value p.chunk)) (used_pieces d.log)
    → length base ≡ size_of d → IsOpenedBy strings d.line.manifest.names d.line.keys base
    → IsLegal base (history d.log)

-- An entry that was answered as a committed one has its planned call.
abbrev pub HasPlan : DeviceNoted → DeviceAnswer → Type 0
HasPlan (Commit (Some call) used) (Committed reply) = ⊤
HasPlan call (Committed reply) = ⊥
HasPlan call answer = ⊤

-- So the history has each committed entry.
abbrev pub CommitsArePlanned : Run → Type 0
CommitsArePlanned run =
    (i : ℕ) (d : DeviceSeen) → slice_get run.devices i ≡ Some d → AllByRecursion (λ (e : LogEntry). HasPlan e.call e.reply) d.log

-- Each device has a base, and its answered calls are a legal history of a plain device that holds it.
abbrev pub HistoriesAreLegal : Run → Type 0
HistoriesAreLegal run =
    (i : ℕ) (d : DeviceSeen) → slice_get run.devices i ≡ Some d
    → (base : List ℕ) × (base_of run.opening run.images d.line ≡ Some base) × IsLegal base (history d.log)

-- a caller's own answered calls, in order
abbrev pub own_answered : ℕ → List Answered → List Answered
own_answered number past = filter (λ (e : Answered). e.caller == number) past

-- A caller's answered calls of a device are those of its jobs that have an answer, each once and in the jobs' order.
abbrev pub CallsAreAnsweredOnce : Run → Type 0
CallsAreAnsweredOnce run =
    (i : ℕ) (d : DeviceSeen) → slice_get run.devices i ≡ Some d
    → AllByRecursion (λ (a : ActorSeen). map outcome_of (own_answered a.number (history d.log)) ≡ answered_jobs i a.jobs a.results) run.actors

-- A path has one committed entry of a device exactly where its job is an answered call of this device, and that entry's
-- planned call is the job's. A device call tells just the failures of its own fetches.
pub record IsAnswered (lists : Lists) (job : JobSeen) (path : List Did) (answer : Answer) : Type 0 where
  pub once : (device : ℕ) → committed_in device (entries_in lists (Device device) path) ≡ answered_job device job answer
  pub cause : (device : ℕ) → (call : DeviceCall) → job ≡ calls device call → IsCallAnswer answer (failed_in (entries_in lists Depot path))

-- .. of each job of each actor
abbrev pub JobsAreAnswered : Run → Type 0
JobsAreAnswered run =
    AllByRecursion (λ (a : ActorSeen). AllZip (λ (job : JobSeen) (r : JobResult). IsAnswered (own run a.number) job r.path.items r.answer) a.jobs a.results) run.actors

-- An actor's own list of an object is what the paths of its jobs name, job by job, and then at most the end of what was out
-- at a crash.
abbrev pub OwnListsFollowJobs : Run → Type 0
OwnListsFollowJobs run =
    AllByRecursion (λ (a : ActorSeen). (o : ObjectId)
    → (rest : List Step) × (own run a.number o ≡ flat_map (λ (r : JobResult). entries_in (own run a.number) o r.path.items) a.results ++ rest) × AreReaps rest) run.actors

-- no two actors have one number
abbrev pub HaveOwnNumbers : List ActorSeen → Type 0
HaveOwnNumbers [] = ⊤
HaveOwnNumbers (a ∷ actors) = AllByRecursion (λ (b : ActorSeen). b.number ≢ a.number) actors × HaveOwnNumbers actors

-- the sum over actors
abbrev pub total : (ActorSeen → ℕ) → List ActorSeen → ℕ
total f [] = 0
total f (a ∷ actors) = f a + total f actors

-- There are as many answered calls of a device as jobs that such a call answered.
abbrev pub CallsAreCounted : Run → Type 0
CallsAreCounted run =
    (i : ℕ) (d : DeviceSeen) → slice_get run.devices i ≡ Some d
    → length (history d.log) ≡ total (λ (a : ActorSeen). length (answered_jobs i a.jobs a.results)) run.actors
