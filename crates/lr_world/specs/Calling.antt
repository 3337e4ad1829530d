-- One call on an object of the parts.
use Rattle.std.specs.Prelude.{◌≡◌, ◌<◌, ℕ, List, length, Option, Some, None, slice_get, ⊤}
use Rattle.lr_object.specs.Kept.{Sized}
use Rattle.lr_device.specs.declared.step.DeviceStep.{DeviceStep}
use Rattle.lr_device.specs.declared.step.DeviceStep.TheVariants as device_call
use Rattle.lr_device.specs.declared.step.DeviceNoted.{DeviceNoted}
use Rattle.lr_device.specs.declared.step.DeviceAnswer.{DeviceAnswer}
use Rattle.lr_device.specs.declared.step.DeviceAnswer.TheVariants as by_device
use Rattle.lr_device.specs.Answers.{Answers}
use Rattle.lr_cache.specs.declared.call.CacheCall.{CacheCall}
use Rattle.lr_cache.specs.declared.call.CacheCall.TheVariants as cache_call
use Rattle.lr_cache.specs.declared.call.CacheReply.{CacheReply}
use Rattle.lr_cache.specs.declared.call.CacheReply.TheVariants as by_cache
use Rattle.lr_cache.specs.Machine as cache
use Rattle.lr_nodes.specs.declared.call.NodeCall.{NodeCall}
use Rattle.lr_nodes.specs.declared.call.NodeReply.{NodeReply}
use Rattle.lr_nodes.specs.declared.call.NodeReply.TheVariants as by_node
use Rattle.lr_nodes.specs.Machine as node
use Rattle.lr_depot.specs.declared.call.DepotCall.TheVariants as depot_call
use Rattle.lr_depot.specs.declared.call.DepotReply.TheVariants as by_depot
use Rattle.lr_actors.specs.declared.place.Parts.{Parts}
use Rattle.lr_actors.specs.declared.action.ActorCall.{ActorCall}
use Rattle.lr_actors.specs.declared.action.ActorCall.TheVariants as call
use Rattle.lr_actors.specs.declared.action.ActorReply.{ActorReply}
use Rattle.lr_actors.specs.declared.action.ActorReply.TheVariants as by
use Rattle.lr_replies.specs.Objects.{Objects}

-- the objects of the parts
abbrev pub objects_in : {O : Type 0} → Parts O → Objects
objects_in parts = record { devices = parts.devices.items; caches = parts.caches.items; nodes = parts.nodes.items; start = parts.depot.start; depot = parts.depot.log }

-- the named object is one of these
abbrev pub IsThere : {O : Type 0} → Parts O → ActorCall → Type 0
IsThere parts (call.Device n asked) = n < length parts.devices.items
IsThere parts (call.Cache n asked) = n < length parts.caches.items
IsThere parts (call.Node n asked) = n < length parts.nodes.items
IsThere parts (call.Depot asked) = ⊤

-- the device at this place gives this answer
abbrev pub AtDevice : List (Sized DeviceNoted DeviceAnswer) → ℕ → ℕ → DeviceStep → DeviceAnswer → Type 0
AtDevice devices n caller asked reply = (d : _) × (slice_get devices n ≡ Some d) × Answers d.capacity d.log caller asked reply

abbrev pub AtCache : List (Sized CacheCall CacheReply) → ℕ → ℕ → CacheCall → CacheReply → Type 0
AtCache caches n caller asked reply = (c : _) × (slice_get caches n ≡ Some c) × cache.CacheStep (cache.run c.capacity c.log) caller asked reply

abbrev pub AtNode : List (Sized NodeCall NodeReply) → ℕ → NodeCall → NodeReply → Type 0
AtNode nodes n asked reply = (s : _) × (slice_get nodes n ≡ Some s) × node.NodeStep (node.run s.capacity s.log) asked reply

-- What an object that finds no memory replies to a call that may want some. The end of a plan, a claim, a lease or a session takes none.
abbrev pub memory_of : ActorCall → Option ActorReply
memory_of (call.Device n (device_call.Plan asked)) = Some (by.Device by_device.OutOfMemory)
memory_of (call.Device n asked) = None
memory_of (call.Cache n cache_call.GiveUp) = None
memory_of (call.Cache n cache_call.Reap) = None
memory_of (call.Cache n asked) = Some (by.Cache by_cache.OutOfMemory)
memory_of (call.Node n asked) = Some (by.Node by_node.OutOfMemory)
memory_of (call.Depot (depot_call.Close lease)) = None
memory_of (call.Depot (depot_call.Abandon session)) = None
memory_of (call.Depot depot_call.Reap) = None
memory_of (call.Depot asked) = Some (by.Depot by_depot.OutOfMemory)
