-- What a caller has out, step by step, and which calls fit it.
use Rattle.std.specs.Prelude.{◌≡◌, ◌≢◌, ℕ, List, [], ◌∷◌, ◌++◌, cond, fold, map, nat_eq, true, Option, Some, None, IsSome, ⊤}
use Rattle.std.specs.Arc.{arc_value}
use Rattle.std.specs.List.{AllByRecursion}
use Rattle.std.specs.declared.sync.Arc.{Arc}
use Rattle.std.specs.declared.alloc.Global.{Global}
use Rattle.sha2.specs.Sha256.{sha256}
use Rattle.lr_manifest.specs.declared.name.Name.{Name}
use Rattle.lr_object.specs.Own.{own_entries}
use Rattle.lr_object.specs.declared.id.ObjectId.TheVariants.{Device, Cache}
use Rattle.lr_device.specs.declared.call.DeviceCall.{DeviceCall}
use Rattle.lr_device.specs.Machine.{LogEntry as DeviceEntry}
use Rattle.lr_device.specs.Plans.{planned}
use Rattle.lr_device.specs.declared.step.DeviceStep.TheVariants as asks
use Rattle.lr_device.specs.declared.step.DeviceAnswer.{DeviceAnswer}
use Rattle.lr_device.specs.declared.step.DeviceAnswer.TheVariants as answers
use Rattle.lr_device.specs.Answers.{Answers}
use Rattle.lr_device.specs.Enters.{Enters}
use Rattle.lr_object.specs.Grown.{Grown}
use Rattle.lr_cache.specs.declared.call.CacheCall.TheVariants.{Look, Fill, GiveUp, Reap}
use Rattle.lr_cache.specs.declared.call.CacheReply.{CacheReply}
use Rattle.lr_cache.specs.declared.call.CacheReply.TheVariants as cached
use Rattle.lr_cache.specs.Machine.{LogEntry, CacheStep, empty, run}
use Rattle.lr_claims.specs.Logs.{IsLegal}
use Rattle.lr_claims.specs.Own.{claimed}
use Rattle.lr_walk.specs.declared.trail.Answer.{Answer}
use Rattle.lr_walk.specs.declared.trail.Answer.TheVariants.{Cut}
use Rattle.lr_walk.specs.declared.trail.Did.{Did}
use Rattle.lr_walk.specs.declared.trail.JobResult.{JobResult}
use Rattle.lr_walk.specs.Steps.{Call, on_device, on_cache, Reply, by_device, by_cache, Step}
use Rattle.lr_walk.specs.Device as devices
use Rattle.lr_walk.specs.Cache as caches
use Rattle.lr_walk.specs.Jobs.{Context}
use Rattle.lr_walk.specs.Trails.{Lists, Reads}
use Rattle.lr_history.specs.Jobs.{JobSeen, WalksSeen, HasTrailSeen}
use Rattle.lr_history.specs.Lists.{device_entry, cache_entry, entries_in}

-- the claim that a caller has out in a host's cache, after a step
abbrev pub claim_by : ℕ → Option Name → Call → Reply → Option Name
claim_by host claim (on_cache h (caches.looks name)) (by_cache caches.lead) = cond (nat_eq h host) (Some name) claim
claim_by host claim (on_cache h (caches.fills chunk)) (by_cache caches.filled) = cond (nat_eq h host) None claim
claim_by host claim (on_cache h caches.gives_up) (by_cache caches.given) = cond (nat_eq h host) None claim
claim_by host claim (on_cache h caches.reaps) (by_cache caches.reaped) = cond (nat_eq h host) None claim
claim_by host claim call reply = claim

-- A Look, on whichever host, fits no claim; a Fill the claim on the chunk's name, a GiveUp any claim.
abbrev pub FitsClaim : ℕ → Option Name → Call → Type 0
FitsClaim host claim (on_cache h (caches.looks name)) = claim ≡ None
FitsClaim host claim (on_cache h (caches.fills chunk)) = nat_eq h host ≡ true → (name : Name) × (claim ≡ Some name) × (sha256 chunk ≡ name.bytes)
FitsClaim host claim (on_cache h caches.gives_up) = nat_eq h host ≡ true → (name : Name) × (claim ≡ Some name)
FitsClaim host claim call = ⊤

-- the plan that a caller has out at a device, after a step
abbrev pub plan_by : ℕ → Option DeviceCall → Call → Reply → Option DeviceCall
plan_by device plan (on_device d (devices.plans call)) (by_device (devices.planned needs pages)) = cond (nat_eq d device) (Some call) plan
plan_by device plan (on_device d (devices.commits (Some call) used)) (by_device (devices.committed reply)) = cond (nat_eq d device) None plan
plan_by device plan (on_device d devices.drops) (by_device devices.dropped) = cond (nat_eq d device) None plan
plan_by device plan (on_device d devices.reaps) (by_device devices.reaped) = cond (nat_eq d device) None plan
plan_by device plan call reply = plan

-- A Plan fits no plan, a Commit the plan of its call, a Drop any plan.
abbrev pub FitsPlan : ℕ → Option DeviceCall → Call → Type 0
FitsPlan device plan (on_device d (devices.plans call)) = nat_eq d device ≡ true → plan ≡ None
FitsPlan device plan (on_device d (devices.commits kept used)) = nat_eq d device ≡ true → (call : DeviceCall) × (plan ≡ Some call) × (kept ≡ Some call)
FitsPlan device plan (on_device d devices.drops) = nat_eq d device ≡ true → (call : DeviceCall) × (plan ≡ Some call)
FitsPlan device plan call = ⊤

-- what is out after steps
abbrev pub out_after : {S : Type 0} → (S → Call → Reply → S) → S → List Step → S
out_after after s steps = fold (λ o step. after o step.call step.reply) s steps

-- Each call fits what is out before it, and this is out at the end.
abbrev pub Fit : {S : Type 0} → (S → Call → Reply → S) → (S → Call → Type 0) → S → List Step → S → Type 0
Fit after fits a [] b = a ≡ b
Fit after fits a (s ∷ steps) b = fits a s.call × Fit after fits (after a s.call s.reply) steps b

-- A finished walk that begins with nothing out ends with nothing out, and each of its calls fits.
pub record WalksFit : Type 0 where
  pub claims : (context : Context) (job : JobSeen) (steps : List Step) (answer : Answer) → WalksSeen context job steps answer → (host : ℕ) → Fit (claim_by host) (FitsClaim host) None steps None
  pub plans : (context : Context) (job : JobSeen) (steps : List Step) (answer : Answer) → WalksSeen context job steps answer → (device : ℕ) → Fit (plan_by device) (FitsPlan device) None steps None

-- So the next call of a walk fits what is out after its steps so far.
pub record NextFits : Type 0 where
  pub claim : (context : Context) (job : JobSeen) (steps : List Step) (next : Step) (later : List Step) (answer : Answer) → WalksSeen context job (steps ++ next ∷ later) answer
      → (host : ℕ) → FitsClaim host (out_after (claim_by host) None steps) next.call
  pub plan : (context : Context) (job : JobSeen) (steps : List Step) (next : Step) (later : List Step) (answer : Answer) → WalksSeen context job (steps ++ next ∷ later) answer
      → (device : ℕ) → FitsPlan device (out_after (plan_by device) None steps) next.call

-- What is out after the entries that a path names is what is out after the steps that it reads as.
pub record PathsTell : Type 0 where
  pub claim : (lists : Lists) (path : List Did) (steps : List Step) → Reads lists path steps → (host : ℕ) (claim : Option Name)
      → out_after (claim_by host) claim (entries_in lists (Cache host) path) ≡ out_after (claim_by host) claim steps
  pub plan : (lists : Lists) (path : List Did) (steps : List Step) → Reads lists path steps → (device : ℕ) (plan : Option DeviceCall)
      → out_after (plan_by device) plan (entries_in lists (Device device) path) ≡ out_after (plan_by device) plan steps

-- What a caller's own entries tell that it has planned is what they tell as steps.
abbrev pub PlansAreTold : Type 0
PlansAreTold =
    (device caller : ℕ) (log : List DeviceEntry) → planned caller log ≡ out_after (plan_by device) None (map (device_entry device) (own_entries caller log))

-- ---- the device's machine

-- a caller's own list of a device
abbrev pub own_of : ℕ → ℕ → List DeviceEntry → List Step
own_of device caller log = map (device_entry device) (own_entries caller log)

-- To a call that fits what the caller's own list tells, whatever the others did, the device never answers that a plan is out or that
-- none is, and Drop finds its memory.
pub record FitIsPlanned : Type 0 where
  pub plan : (device size caller : ℕ) (log : List DeviceEntry) (call : Arc DeviceCall Global) → Grown Answers Enters size [] log
      → FitsPlan device (out_after (plan_by device) None (own_of device caller log)) (on_device device (devices.plans (arc_value call))) → Answers size log caller (asks.Plan call) answers.HasPlan → ⊥
  pub commit : (device size caller : ℕ) (log : List DeviceEntry) (call : DeviceCall) (used : List devices.Piece) (pieces : _) (room : _) → Grown Answers Enters size [] log
      → FitsPlan device (out_after (plan_by device) None (own_of device caller log)) (on_device device (devices.commits (Some call) used)) → Answers size log caller (asks.Commit pieces room) answers.NoPlan → ⊥
  pub drop : (device size caller : ℕ) (log : List DeviceEntry) → Grown Answers Enters size [] log
      → FitsPlan device (out_after (plan_by device) None (own_of device caller log)) (on_device device devices.drops) → (answer : DeviceAnswer) → Answers size log caller asks.Drop answer → answer ≡ answers.Dropped
  -- a Reap that isn't logged leaves nothing out
  pub reap : (device size caller : ℕ) (log : List DeviceEntry) → Grown Answers Enters size [] log → Answers size log caller asks.Reap answers.Nothing
      → out_after (plan_by device) None (own_of device caller log) ≡ None

-- ---- the cache's machine

-- a caller's own list in a host's cache
abbrev pub own_in : ℕ → ℕ → List LogEntry → List Step
own_in host caller log = map (cache_entry host) (own_entries caller log)

-- What a caller's own entries tell that it has claimed is what they tell as steps.
abbrev pub ClaimsAreTold : Type 0
ClaimsAreTold = (host caller : ℕ) (log : List LogEntry) → claimed caller (own_entries caller log) ≡ out_after (claim_by host) None (own_in host caller log)

-- To a call that fits what the caller's own list tells, whatever the others did, the cache never answers that a claim is out or that
-- none is, and GiveUp finds its memory.
pub record FitIsGranted : Type 0 where
  pub look : (host capacity caller : ℕ) (log : List LogEntry) (name : Name) → IsLegal capacity empty log
      → FitsClaim host (out_after (claim_by host) None (own_in host caller log)) (on_cache host (caches.looks name)) → CacheStep (run capacity log) caller (Look name) cached.Held → ⊥
  pub fill : (host capacity caller : ℕ) (log : List LogEntry) (chunk : Arc (List ℕ) Global) → IsLegal capacity empty log
      → FitsClaim host (out_after (claim_by host) None (own_in host caller log)) (on_cache host (caches.fills (arc_value chunk))) → CacheStep (run capacity log) caller (Fill chunk) cached.NoClaim → ⊥
  pub give : (host capacity caller : ℕ) (log : List LogEntry) → IsLegal capacity empty log
      → FitsClaim host (out_after (claim_by host) None (own_in host caller log)) (on_cache host caches.gives_up) → (reply : CacheReply) → CacheStep (run capacity log) caller GiveUp reply → reply ≡ cached.Given

-- Busy names another one, whose own list tells of its claim. So while all others' own lists tell of none, no Look is answered so.
pub record BusyWaitsForAnother : Type 0 where
  pub holder : (host capacity caller holder : ℕ) (log : List LogEntry) (name : Name) → IsLegal capacity empty log → CacheStep (run capacity log) caller (Look name) (cached.Busy holder)
      → IsSome (out_after (claim_by host) None (own_in host holder log)) × (holder ≢ caller)
  pub alone : (host capacity caller holder : ℕ) (log : List LogEntry) (name : Name) → IsLegal capacity empty log
      → ((other : ℕ) → other ≢ caller → out_after (claim_by host) None (own_in host other log) ≡ None)
      → CacheStep (run capacity log) caller (Look name) (cached.Busy holder) → ⊥
  -- a Reap that isn't logged leaves nothing out
  pub reap : (host capacity caller : ℕ) (log : List LogEntry) → IsLegal capacity empty log → CacheStep (run capacity log) caller Reap cached.Nothing
      → out_after (claim_by host) None (own_in host caller log) ≡ None

-- a job that wasn't cut
abbrev pub IsWhole : Answer → Type 0
IsWhole Cut = ⊥
IsWhole answer = ⊤

-- An actor of whose jobs none was cut has no claim and no plan out, by its own lists.
pub record EndedHasNone : Type 0 where
  pub claim : (context : Context) (lists : Lists) (jobs : List JobSeen) (results : List JobResult) → HasTrailSeen context lists jobs results → AllByRecursion (λ (r : JobResult). IsWhole r.answer) results
      → (host : ℕ) → out_after (claim_by host) None (lists (Cache host)) ≡ None
  pub plan : (context : Context) (lists : Lists) (jobs : List JobSeen) (results : List JobResult) → HasTrailSeen context lists jobs results → AllByRecursion (λ (r : JobResult). IsWhole r.answer) results
      → (device : ℕ) → out_after (plan_by device) None (lists (Device device)) ≡ None
