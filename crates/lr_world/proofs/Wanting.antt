-- A call that finds no memory leaves all as it was.
use Rattle.std.proofs.Common.{◌≡◌, ◌<◌, ℕ, zero, suc, List, [], ◌∷◌, length, Option, Some, slice_get, arith, refl, sym, subst}
use Rattle.lr_object.specs.Kept.{Sized}
use Rattle.lr_device.specs.declared.step.DeviceStep.TheVariants as device_call
use Rattle.lr_device.specs.declared.step.DeviceAnswer.TheVariants as by_device
use Rattle.lr_cache.specs.declared.call.CacheCall.{CacheCall}
use Rattle.lr_cache.specs.declared.call.CacheCall.TheVariants as cache_call
use Rattle.lr_cache.specs.declared.call.CacheReply.TheVariants as by_cache
use Rattle.lr_cache.specs.Machine as cache
use Rattle.lr_nodes.specs.declared.call.NodeCall.{NodeCall}
use Rattle.lr_nodes.specs.declared.call.NodeCall.TheVariants as node_call
use Rattle.lr_nodes.specs.declared.call.NodeReply.{NodeReply}
use Rattle.lr_nodes.specs.declared.call.NodeReply.TheVariants as by_node
use Rattle.lr_nodes.specs.Machine as node
use Rattle.lr_rules.specs.State.{State}
use Rattle.lr_origin.specs.Objects.{Objects as Stored}
use Rattle.lr_depot.specs.declared.call.DepotCall.{DepotCall}
use Rattle.lr_depot.specs.declared.call.DepotCall.TheVariants as depot_call
use Rattle.lr_depot.specs.declared.call.DepotReply.TheVariants as by_depot
use Rattle.lr_depot.specs.Machine.{DepotStep}
use Rattle.lr_depot.specs.Store.{StoreStep}
use Rattle.lr_depot.specs.Depot.{state}
use Rattle.lr_actors.specs.declared.place.Parts.{Parts}
use Rattle.lr_actors.specs.declared.action.ActorCall.{ActorCall}
use Rattle.lr_actors.specs.declared.action.ActorCall.TheVariants as call
use Rattle.lr_actors.specs.declared.action.ActorReply.{ActorReply}
use Rattle.lr_actors.specs.declared.action.ActorReply.TheVariants as by
use Rattle.lr_replies.specs.Objects.{IsReplaced, Calls}
use Rattle.lr_world.specs.Calling.{objects_in, IsThere, memory_of}
use Rattle.lr_world.specs.World.{Keeps}

-- there is an object at a place among them
found : {X : Type 0} (xs : List X) (n : ℕ) → n < length xs → (x : X) × (slice_get xs n ≡ Some x)
found [] n h = absurd (omega (arith, h))
found (x ∷ xs) zero h = (x, refl)
found (x ∷ xs) (suc n) h = found xs n (omega (arith, h))

-- the element at a place stands there
stays : {X : Type 0} (xs : List X) (n : ℕ) (x : X) → slice_get xs n ≡ Some x → IsReplaced xs n x xs
stays xs n x got = record { here = got; others = λ i other. refl; many = refl }

-- a depot's call that finds no memory
depot_wants : (asked : DepotCall) (reply : ActorReply) → memory_of (call.Depot asked) ≡ Some reply
    → (by.Depot by_depot.OutOfMemory ≡ reply) × ((s : State) (caller : ℕ) → DepotStep s caller asked by_depot.OutOfMemory)
    × ((s : State) (caller : ℕ) (m : Stored) → StoreStep s caller asked by_depot.OutOfMemory m (Some m))
depot_wants (depot_call.Close lease) reply e = absurd (cc e)
depot_wants (depot_call.Abandon session) reply e = absurd (cc e)
depot_wants depot_call.Reap reply e = absurd (cc e)
depot_wants asked reply e = (cc e, λ s caller. tt, λ s caller m. refl)

-- a cache's call that finds no memory
cache_wants : (n : ℕ) (asked : CacheCall) (reply : ActorReply) → memory_of (call.Cache n asked) ≡ Some reply
    → (by.Cache by_cache.OutOfMemory ≡ reply) × ((s : cache.State) (caller : ℕ) → cache.CacheStep s caller asked by_cache.OutOfMemory)
cache_wants n cache_call.GiveUp reply e = absurd (cc e)
cache_wants n cache_call.Reap reply e = absurd (cc e)
cache_wants n asked reply e = (cc e, λ s caller. tt)

-- any call of a node may find no memory
node_wants : (s : Sized NodeCall NodeReply) (asked : NodeCall) → node.NodeStep (node.run s.capacity s.log) asked by_node.OutOfMemory
node_wants s node_call.Lose = tt
node_wants s asked = tt

module _ {O : Type 0} (parts : Parts O) (caller : ℕ) where
  pub wants_call : (asked : ActorCall) (reply : ActorReply) → IsThere parts asked → memory_of asked ≡ Some reply → Calls caller asked reply (objects_in parts) (objects_in parts)
  wants_call (call.Device n (device_call.Plan c)) reply there e =
      let d = found parts.devices.items n there in
      let same : by.Device by_device.OutOfMemory ≡ reply = cc e in
      subst (λ (r : ActorReply). Calls caller (call.Device n (device_call.Plan c)) r (objects_in parts) (objects_in parts)) same
      (record { replies = (d.0, d.1, tt); start = refl; logs = (d.0, d.0.log, d.1, refl, stays parts.devices.items n d.0 d.1); others = (refl, refl, refl) })
  wants_call (call.Device n c) reply there e = absurd (cc e)
  wants_call (call.Cache n c) reply there e =
      let d = found parts.caches.items n there in
      let w = cache_wants n c reply e in
      subst (λ (r : ActorReply). Calls caller (call.Cache n c) r (objects_in parts) (objects_in parts)) w.0
      (record { replies = (d.0, d.1, w.1 (cache.run d.0.capacity d.0.log) caller); start = refl; logs = (d.0, d.0.log, d.1, refl, stays parts.caches.items n d.0 d.1); others = (refl, refl, refl) })
  wants_call (call.Node n c) reply there e =
      let d = found parts.nodes.items n there in
      let same : by.Node by_node.OutOfMemory ≡ reply = cc e in
      subst (λ (r : ActorReply). Calls caller (call.Node n c) r (objects_in parts) (objects_in parts)) same
      (record { replies = (d.0, d.1, node_wants d.0 c); start = refl; logs = (d.0, d.0.log, d.1, refl, stays parts.nodes.items n d.0 d.1); others = (refl, refl, refl) })
  wants_call (call.Depot c) reply there e =
      let w = depot_wants c reply e in
      subst (λ (r : ActorReply). Calls caller (call.Depot c) r (objects_in parts) (objects_in parts)) w.0
      (record { replies = w.1 (state parts.depot.start parts.depot.log) caller; start = refl; logs = refl; others = (refl, refl, refl) })

  pub wants_depot : (objects : O → Option Stored) (faults : O → ℕ) (asked : ActorCall) (reply : ActorReply) → memory_of asked ≡ Some reply → Keeps objects faults asked reply caller parts.depot parts.depot
  wants_depot objects faults (call.Device n c) reply e = refl
  wants_depot objects faults (call.Cache n c) reply e = refl
  wants_depot objects faults (call.Node n c) reply e = refl
  wants_depot objects faults (call.Depot c) reply e =
      let w = depot_wants c reply e in
      subst (λ (r : ActorReply). Keeps objects faults (call.Depot c) r caller parts.depot parts.depot) w.0
      (record {
        fixed = refl;
        answers = w.1 (state parts.depot.start parts.depot.log) caller;
        logged = refl;
        unlogged = (refl, refl, λ m told. told);
        store = λ m told. subst (λ (n : Option Stored). StoreStep (state parts.depot.start parts.depot.log) caller c by_depot.OutOfMemory m n) (sym told) (w.2 (state parts.depot.start parts.depot.log) caller m);
        never_falls = omega arith;
        cause = λ fault. absurd fault;
        unasked = λ unasked. refl;
      })
