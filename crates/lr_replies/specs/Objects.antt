-- The objects of a run, and what a call of an actor does to them.
use Rattle.std.specs.Prelude.{◌≡◌, ◌≢◌, ℕ, List, [], ◌∷◌, ◌++◌, map, length, Bool, MatchBool, Option, Some, None, slice_get}
use Rattle.lr_object.specs.declared.entry.Entry.{Entry}
use Rattle.lr_object.specs.declared.id.ObjectId.TheVariants.{Device, Cache, Node, Depot}
use Rattle.lr_object.specs.Kept.{Sized}
use Rattle.lr_object.specs.Own.{own_entries}
use Rattle.lr_device.specs.declared.step.DeviceNoted.{DeviceNoted}
use Rattle.lr_device.specs.declared.step.DeviceAnswer.{DeviceAnswer}
use Rattle.lr_device.specs.Answers.{Answers}
use Rattle.lr_device.specs.Enters as device
use Rattle.lr_cache.specs.declared.call.CacheCall.{CacheCall}
use Rattle.lr_cache.specs.declared.call.CacheReply.{CacheReply}
use Rattle.lr_cache.specs.Machine as cache
use Rattle.lr_nodes.specs.declared.call.NodeCall.{NodeCall}
use Rattle.lr_nodes.specs.declared.call.NodeReply.{NodeReply}
use Rattle.lr_nodes.specs.Machine as node
use Rattle.lr_depot.specs.Begun.{Start}
use Rattle.lr_depot.specs.Depot.{state}
use Rattle.lr_depot.specs.Machine as depot
use Rattle.lr_walk.specs.Trails.{Lists}
use Rattle.lr_history.specs.Lists.{device_entry, cache_entry, node_entry, depot_entry}
use Rattle.lr_actors.specs.declared.action.ActorCall.{ActorCall}
use Rattle.lr_actors.specs.declared.action.ActorCall.TheVariants as call
use Rattle.lr_actors.specs.declared.action.ActorReply.{ActorReply}
use Rattle.lr_actors.specs.declared.action.ActorReply.TheVariants as by

-- The devices, the caches of the hosts and the nodes with their logs, what the depot was started with, and its log.
pub record Objects : Type 0 where
  pub devices : List (Sized DeviceNoted DeviceAnswer)
  pub caches : List (Sized CacheCall CacheReply)
  pub nodes : List (Sized NodeCall NodeReply)
  pub start : Start
  pub depot : List depot.LogEntry

-- the log of an object, empty where there is no such one
abbrev pub log_of : {N T : Type 0} → Option (Sized N T) → List (Entry N T)
log_of {N} {T} None = []
log_of {N} {T} (Some s) = s.log

-- an actor's own list of each object
abbrev pub own_lists : Objects → ℕ → Lists
own_lists w number (Device n) = map (device_entry n) (own_entries number (log_of (slice_get w.devices n)))
own_lists w number (Cache n) = map (cache_entry n) (own_entries number (log_of (slice_get w.caches n)))
own_lists w number (Node n) = map (node_entry n) (own_entries number (log_of (slice_get w.nodes n)))
own_lists w number Depot = map depot_entry (own_entries number w.depot)

-- ---- a call

-- The called object gives this reply.
abbrev pub Replies : Objects → ℕ → ActorCall → ActorReply → Type 0
Replies w caller (call.Device n asked) (by.Device reply) = (d : _) × (slice_get w.devices n ≡ Some d) × Answers d.capacity d.log caller asked reply
Replies w caller (call.Cache n asked) (by.Cache reply) = (c : _) × (slice_get w.caches n ≡ Some c) × cache.CacheStep (cache.run c.capacity c.log) caller asked reply
Replies w caller (call.Node n asked) (by.Node reply) = (s : _) × (slice_get w.nodes n ≡ Some s) × node.NodeStep (node.run s.capacity s.log) asked reply
Replies w caller (call.Depot asked) (by.Depot reply) = depot.DepotStep (state w.start w.depot) caller asked reply
Replies w caller asked reply = ⊥

-- The log has one entry more, of this caller, which may be kept, where the reply is logged; else it is as it was.
abbrev pub Logs : {N T : Type 0} → Bool → (Entry N T → Type 0) → ℕ → List (Entry N T) → List (Entry N T) → Type 0
Logs {N} {T} is_logged enters caller old new = MatchBool is_logged ((e : Entry N T) × (new ≡ old ++ e ∷ []) × (e.caller ≡ caller) × enters e) (new ≡ old)

-- At this place there is another element, and the others are as they were.
pub record IsReplaced {X : Type 0} (old : List X) (n : ℕ) (x : X) (new : List X) : Type 0 where
  pub here : slice_get new n ≡ Some x
  pub others : (i : ℕ) → i ≢ n → slice_get new i ≡ slice_get old i
  pub many : length new ≡ length old

-- the object of this number logs the call, and keeps its capacity
abbrev pub LogsAt : {N T : Type 0} → List (Sized N T) → ℕ → Bool → (Sized N T → Entry N T → Type 0) → ℕ → List (Sized N T) → Type 0
LogsAt {N} {T} old n is_logged enters caller new =
    (was : Sized N T) × (log : List (Entry N T)) × (slice_get old n ≡ Some was) × Logs is_logged (enters was) caller was.log log
    × IsReplaced old n (record { capacity = was.capacity; log = log }) new

-- Beside the called object all is as it was.
abbrev pub LeavesOthers : ActorCall → Objects → Objects → Type 0
LeavesOthers (call.Device n asked) old new = (new.caches ≡ old.caches) × (new.nodes ≡ old.nodes) × (new.depot ≡ old.depot)
LeavesOthers (call.Cache n asked) old new = (new.devices ≡ old.devices) × (new.nodes ≡ old.nodes) × (new.depot ≡ old.depot)
LeavesOthers (call.Node n asked) old new = (new.devices ≡ old.devices) × (new.caches ≡ old.caches) × (new.depot ≡ old.depot)
LeavesOthers (call.Depot asked) old new = (new.devices ≡ old.devices) × (new.caches ≡ old.caches) × (new.nodes ≡ old.nodes)

abbrev pub LogsCall : ActorCall → ActorReply → ℕ → Objects → Objects → Type 0
LogsCall (call.Device n asked) (by.Device reply) caller old new = LogsAt old.devices n (device.is_logged reply) (λ d e. device.Enters d.capacity d.log caller asked reply e) caller new.devices
LogsCall (call.Cache n asked) (by.Cache reply) caller old new = LogsAt old.caches n (cache.is_logged reply) (λ c e. cache.Enters asked reply e) caller new.caches
LogsCall (call.Node n asked) (by.Node reply) caller old new = LogsAt old.nodes n (node.is_logged reply) (λ s e. node.Enters asked reply e) caller new.nodes
LogsCall (call.Depot asked) (by.Depot reply) caller old new = Logs (depot.is_logged reply) (λ e. depot.Enters asked reply e) caller old.depot new.depot
LogsCall asked reply caller old new = ⊥

-- A call of this caller got this reply: the called object gives it, and logs it where it is logged; nothing else changes.
pub record Calls (caller : ℕ) (asked : ActorCall) (reply : ActorReply) (old new : Objects) : Type 0 where
  pub replies : Replies old caller asked reply
  pub start : new.start ≡ old.start
  pub logs : LogsCall asked reply caller old new
  pub others : LeavesOthers asked old new
