-- What replies mean to an actor: it takes each one that an object gives it, whatever the others do.
use Rattle.std.specs.Prelude.{◌≡◌, ◌≢◌, ◌≤◌, ◌*◌, ℕ, List, [], length, Some, None, slice_get, ⊤}
use Rattle.std.specs.FinMap as map
use Rattle.lr_object.specs.declared.id.ObjectId.{ObjectId}
use Rattle.lr_object.specs.declared.id.ObjectId.TheVariants.{Device, Cache}
use Rattle.lr_object.specs.Grown.{Grown}
use Rattle.lr_manifest.specs.Manifest.{ManifestFields}
use Rattle.lr_device.specs.Answers.{Answers}
use Rattle.lr_device.specs.Enters.{Enters}
use Rattle.lr_cache.specs.Orderly.{IsCacheLog}
use Rattle.lr_nodes.specs.Orderly.{IsNodeLog}
use Rattle.lr_depot.specs.Depot.{IsStart, first_state, state}
use Rattle.lr_depot.specs.Store.{IsRun}
use Rattle.lr_walk.specs.Calls.{DevicePlace}
use Rattle.lr_walk.specs.Jobs.{Context}
use Rattle.lr_walk.specs.Trails.{Lists}
use Rattle.lr_manifest.specs.declared.name.Name.{Name}
use Rattle.lr_cache.specs.declared.call.CacheCall.TheVariants.{Look}
use Rattle.lr_history.specs.Ready.{claim_by, plan_by, out_after}
use Rattle.lr_actors.specs.declared.trail.ActorState.TheVariants.{Ended}
use Rattle.lr_actors.specs.declared.action.ActorCall.{ActorCall}
use Rattle.lr_actors.specs.declared.action.ActorCall.TheVariants as call
use Rattle.lr_actors.specs.declared.action.ActorReply.{ActorReply}
use Rattle.lr_depot.specs.declared.call.DepotCall.TheVariants as depot
use Rattle.lr_actors.specs.Asked.{seen_reply}
use Rattle.lr_actors.specs.Jobs.{Job, calls, closes}
use Rattle.lr_actors.specs.Actor.{Seen, over, IsActor, NextJob, StandsFor, Admits, Gains}
use Rattle.lr_actors.specs.Actor as actor
use Rattle.lr_replies.specs.Objects.{Objects, own_lists, Replies, Calls}

-- the lease is out, on an image with the manifest of these names
abbrev pub IsOut : Objects → DevicePlace → Type 0
IsOut w place = (image : List ℕ) × (m : ManifestFields) × (map.get (state w.start w.depot).desk.leases place.lease ≡ Some (image, m)) × (m.names ≡ place.names)

-- Each object's log is one that calls made of a new one; a device has no more bytes than its image's chunks.
pub record AreMade (w : Objects) (context : Context) (hosts : ℕ) : Type 0 where
  pub devices : (n : ℕ) (d : _) → slice_get w.devices n ≡ Some d → Grown Answers Enters d.capacity [] d.log
  pub sizes : (n : ℕ) (d : _) (place : DevicePlace) → slice_get w.devices n ≡ Some d → slice_get context.devices n ≡ Some place → d.capacity ≤ 524288 * length place.names
  pub caches : (n : ℕ) (c : _) → slice_get w.caches n ≡ Some c → IsCacheLog c.capacity c.log
  pub nodes : (n : ℕ) (s : _) → slice_get w.nodes n ≡ Some s → IsNodeLog s.capacity s.log
  pub start : IsStart w.start
  pub depot : IsRun (first_state w.start) w.depot
  pub many : (length w.devices ≡ length context.devices) × (length w.caches ≡ hosts) × (length w.nodes ≡ context.nodes)

-- the lease of the device of the job is out
abbrev pub HasLease : Objects → Context → Job → Type 0
HasLease w context (calls device call) = (place : DevicePlace) → slice_get context.devices device ≡ Some place → IsOut w place
HasLease w context (closes device) = (place : DevicePlace) → slice_get context.devices device ≡ Some place → IsOut w place
HasLease w context job = ⊤

-- The actor stands for its own lists, and the lease of its job is out.
pub record IsReady (w : Objects) (a : Seen) : Type 0 where
  pub made : AreMade w a.context a.hosts
  pub is : IsActor a
  pub stands : StandsFor a (own_lists w a.number)
  pub lease : (job : Job) → slice_get a.jobs (length a.account.results) ≡ Some job → HasLease w a.context job

-- An actor takes each reply of the called object.
abbrev pub RepliesAreAdmitted : Type 0
RepliesAreAdmitted = (w : Objects) (a : Seen) (asked : ActorCall) (reply : ActorReply) → IsReady w a → actor.Calls a asked → Replies w a.number asked reply → Admits a (seen_reply reply)

-- What the call adds to its own lists is what it gains, and the own lists of the others stay.
pub record ListsGain : Type 0 where
  pub own : (old new : Objects) (a : Seen) (asked : ActorCall) (reply : ActorReply) → IsReady old a → actor.Calls a asked → Calls a.number asked reply old new → Gains a (seen_reply reply) (own_lists old a.number) (own_lists new a.number)
  pub others : (old new : Objects) (number other : ℕ) (asked : ActorCall) (reply : ActorReply) → Calls number asked reply old new → other ≢ number → (o : ObjectId) → own_lists new other o ≡ own_lists old other o

-- The logs stay ones that calls made.
abbrev pub LogsStayMade : Type 0
LogsStayMade = (old new : Objects) (context : Context) (hosts number : ℕ) (asked : ActorCall) (reply : ActorReply) → AreMade old context hosts → Calls number asked reply old new → AreMade new context hosts

-- the call doesn't close this lease
abbrev pub IsNoClose : ℕ → ActorCall → Type 0
IsNoClose lease (call.Depot (depot.Close closed)) = closed ≢ lease
IsNoClose lease asked = ⊤

-- A lease that is out stays out, but for its own Close.
abbrev pub LeasesStayOut : Type 0
LeasesStayOut = (old new : Objects) (number : ℕ) (place : DevicePlace) (asked : ActorCall) (reply : ActorReply) → Calls number asked reply old new → IsNoClose place.lease asked → IsOut old place → IsOut new place

-- An actor that hands out a Look has no claim out, in whichever cache.
abbrev pub LooksHoldNone : Type 0
LooksHoldNone = (w : Objects) (a : Seen) (at : ℕ) (name : Name) → IsReady w a → actor.Calls a (call.Cache at (Look name)) → (host : ℕ) → out_after (claim_by host) None (own_lists w a.number (Cache host)) ≡ None

-- An actor of whose jobs all have ended has neither a claim nor a plan out.
pub record EndedHoldNone : Type 0 where
  pub claim : (a : Seen) (lists : Lists) → IsActor a → a.state ≡ Ended → a.now ≡ over → StandsFor a lists → (host : ℕ) → out_after (claim_by host) None (lists (Cache host)) ≡ None
  pub plan : (a : Seen) (lists : Lists) → IsActor a → a.state ≡ Ended → a.now ≡ over → StandsFor a lists → (device : ℕ) → out_after (plan_by device) None (lists (Device device)) ≡ None
