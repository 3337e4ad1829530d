-- Loads are made on demand.
use Rattle.std.specs.Prelude.{◌≡◌, ◌⊎◌, ℕ, List, [], ◌∷◌, ◌++◌, map, Bool, true, ◌&&◌, cond, nat_eq, Some, slice_get}
use Rattle.std.specs.List.{AllByRecursion, AllZip, Contains, flat_map}
use Rattle.lr_manifest.specs.declared.name.Name.{Name}
use Rattle.lr_object.specs.declared.id.ObjectId.TheVariants.{Device, Cache, Depot}
use Rattle.lr_device.specs.declared.call.DeviceCall.{DeviceCall}
use Rattle.lr_device.specs.Demand.{demand}
use Rattle.lr_device.specs.Machine.{LogEntry, run as made_by}
use Rattle.lr_walk.specs.declared.trail.Did.{Did}
use Rattle.lr_walk.specs.declared.trail.JobResult.{JobResult}
use Rattle.lr_walk.specs.Calls.{DevicePlace}
use Rattle.lr_walk.specs.Steps.{on_device, by_device}
use Rattle.lr_walk.specs.Device.{seen_noted, seen_reply}
use Rattle.lr_walk.specs.Jobs.{Context}
use Rattle.lr_walk.specs.Trails.{Lists}
use Rattle.lr_history.specs.Jobs.{JobSeen, calls, another}
use Rattle.lr_history.specs.Run.{DeviceSeen, ActorSeen, Run}
use Rattle.lr_history.specs.Lists.{own, context_of, entries_in}
use Rattle.lr_history.specs.Premises.{IsRun, AreDeviceLogs, size_of}
use Rattle.lr_history.specs.Told.{Fetched, fetched_in, led_in, Need, need, needed_by, needed_in}

-- A load that was made: of which chunk, and whether it got the claim on its name, and fetched.
pub record LoadMade : Type 0 where
  pub index : ℕ
  pub name : Name
  pub led : Bool
  pub fetched : Bool

-- The name is that of the manifest, and a load that fetched has its own claim.
pub record IsLoadOf (place : DevicePlace) (l : LoadMade) : Type 0 where
  pub named : slice_get place.names l.index ≡ Some l.name
  pub claimed : l.fetched ≡ true → l.led ≡ true

abbrev pub fetch_of : DevicePlace → LoadMade → List Fetched
fetch_of place l = cond l.fetched (record { lease = place.lease; index = l.index } ∷ []) []

abbrev pub lead_of : ℕ → DevicePlace → LoadMade → List Name
lead_of host place l = cond (l.led && nat_eq place.host host) (l.name ∷ []) []

-- The loads of a call of a device, in the order of what its plan needs: its fetches and its claims are those of these
-- loads, each once and in order.
pub record HasLoads (lists : Lists) (device : ℕ) (place : DevicePlace) (call : DeviceCall) (path : List Did) : Type 0 where
  pub loads : List LoadMade
  pub unmade : List ℕ
  pub each : AllByRecursion (IsLoadOf place) loads
  pub needs : needed_in device (entries_in lists (Device device) path) ≡ map (need call) (map (λ (l : LoadMade). l.index) loads ++ unmade)
  pub fetches : fetched_in (entries_in lists Depot path) ≡ flat_map (fetch_of place) loads
  pub leads : (host : ℕ) → led_in host (entries_in lists (Cache host) path) ≡ flat_map (lead_of host place) loads

-- A job that calls no device, or that wasn't begun, fetches nothing and claims nothing.
pub record HasNone (lists : Lists) (path : List Did) : Type 0 where
  pub fetches : fetched_in (entries_in lists Depot path) ≡ []
  pub leads : (host : ℕ) → led_in host (entries_in lists (Cache host) path) ≡ []

abbrev pub IsOnDemand : Context → Lists → JobSeen → List Did → Type 0
IsOnDemand context lists (calls device call) path =
    HasNone lists path ⊎ ((place : DevicePlace) × (slice_get context.devices device ≡ Some place) × HasLoads lists device place call path)
IsOnDemand context lists another path = HasNone lists path

-- .. of each job of each actor
abbrev pub LoadsAreOnDemand : Type 0
LoadsAreOnDemand =
    (run : Run) → IsRun run
    → AllByRecursion (λ (a : ActorSeen). AllZip (λ (job : JobSeen) (r : JobResult). IsOnDemand (context_of run) (own run a.number) job r.path.items) a.jobs a.results) run.actors

-- an entry of the caller's in the log of a device: a plan of the call, whose answer told the chunk. It is in the demand of that moment.
pub record WasDemanded (run : Run) (n : Need) (device caller : ℕ) : Type 0 where
  pub seen : DeviceSeen
  pub at : slice_get run.devices device ≡ Some seen
  pub before : List LogEntry
  pub plan : LogEntry
  pub rest : List LogEntry
  pub moment : seen.log ≡ before ++ plan ∷ rest
  pub caller_is : plan.caller ≡ caller
  pub told : Contains (needed_by device (on_device device (seen_noted plan.call)) (by_device (seen_reply plan.reply))) n
  pub demanded : Contains (demand (size_of seen) (made_by (size_of seen) before).written n.call) n.index

-- The fetch is of a chunk that a plan of one of the actor's calls demanded, under the lease of the call's device.
abbrev pub IsDemandedFetch : Run → ActorSeen → Fetched → Type 0
IsDemandedFetch run a f =
    (device : ℕ) × (call : DeviceCall) × (place : DevicePlace) × Contains a.jobs (calls device call) × (slice_get (context_of run).devices device ≡ Some place)
    × (f.lease ≡ place.lease) × WasDemanded run (need call f.index) device a.number

abbrev pub FetchesAreDemanded : Type 0
FetchesAreDemanded =
    (run : Run) → IsRun run → AreDeviceLogs run
    → AllByRecursion (λ (a : ActorSeen). AllByRecursion (IsDemandedFetch run a) (fetched_in (own run a.number Depot))) run.actors
