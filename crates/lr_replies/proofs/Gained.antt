-- What a call adds to its caller's own lists.
use Rattle.std.specs.Prelude.{⊤}
use Rattle.std.proofs.Common.{◌≡◌, ◌≢◌, ℕ, List, [], ◌∷◌, map, true, false, refl, sym, ap, ◌∙◌, subst}
use Rattle.std.specs.Arc.{arc_value}
use Rattle.lr_object.specs.declared.entry.Entry.{Entry}
use Rattle.lr_object.specs.declared.id.ObjectId.{ObjectId}
use Rattle.lr_object.specs.declared.id.ObjectId.TheVariants.{Device, Cache, Node, Depot}
use Rattle.lr_object.specs.Kept.{Sized}
use Rattle.lr_object.specs.Own.{own_entries}
use Rattle.lr_object.proofs.OwnEntries.{own_entries-own}
use Rattle.std.proofs.lemmas.List.{map-append}
use Rattle.lr_device.specs.declared.step.DeviceStep.{DeviceStep}
use Rattle.lr_device.specs.declared.step.DeviceStep.TheVariants as asks
use Rattle.lr_device.specs.declared.step.DeviceNoted.{DeviceNoted}
use Rattle.lr_device.specs.declared.step.DeviceAnswer.{DeviceAnswer}
use Rattle.lr_device.specs.declared.step.DeviceAnswer.TheVariants as told
use Rattle.lr_device.specs.Enters as device
use Rattle.lr_cache.specs.declared.call.CacheCall.{CacheCall}
use Rattle.lr_cache.specs.declared.call.CacheCall.TheVariants as cached
use Rattle.lr_cache.specs.declared.call.CacheReply.{CacheReply}
use Rattle.lr_cache.specs.declared.call.CacheReply.TheVariants as hit
use Rattle.lr_cache.specs.Machine as cache
use Rattle.lr_nodes.specs.declared.call.NodeCall.{NodeCall}
use Rattle.lr_nodes.specs.declared.call.NodeReply.{NodeReply}
use Rattle.lr_nodes.specs.declared.call.NodeReply.TheVariants as kept
use Rattle.lr_nodes.specs.Machine as node
use Rattle.lr_depot.specs.declared.call.DepotCall.{DepotCall}
use Rattle.lr_depot.specs.declared.call.DepotCall.TheVariants as depot_asks
use Rattle.lr_depot.specs.declared.call.DepotReply.{DepotReply}
use Rattle.lr_depot.specs.declared.call.DepotReply.TheVariants as answer
use Rattle.lr_depot.specs.Machine as depot
use Rattle.lr_walk.specs.Steps.{Call, on_device, on_cache, on_node, on_depot, Reply, by_device, by_cache, by_node, by_depot, Step, step, cache_step, node_step, depot_step}
use Rattle.lr_walk.specs.Depot as depots
use Rattle.lr_walk.specs.Cache as caches
use Rattle.lr_walk.specs.Node as nodes
use Rattle.lr_walk.specs.Device as devices
use Rattle.lr_walk.specs.Trails.{Lists, IsReap}
use Rattle.lr_walk.proofs.Devices.{device_keeps}
use Rattle.lr_walk.proofs.Others as walked
use Rattle.lr_walk.proofs.Depot.{entry_step}
use Rattle.lr_history.specs.Lists.{device_entry, cache_entry, node_entry, depot_entry}
use Rattle.lr_actors.specs.declared.action.ActorCall.{ActorCall}
use Rattle.lr_actors.specs.declared.action.ActorCall.TheVariants as call
use Rattle.lr_actors.specs.declared.action.ActorReply.{ActorReply}
use Rattle.lr_actors.specs.declared.action.ActorReply.TheVariants as by
use Rattle.lr_actors.specs.Asked.{a_call, HandsCall, seen_reply, Adds}
use Rattle.lr_actors.specs.Accounts.{Grows}
use Rattle.lr_actors.specs.Actor.{Reaps, GrowsBy}
use Rattle.lr_replies.specs.Objects.{Objects, own_lists, Logs, LogsAt, Calls}
use Rattle.lr_replies.proofs.Tables.{call_same}
use Rattle.lr_replies.proofs.Logging.{own_at, stays_at, grows_at, others_at, others_log}

-- ---- others' lists stay

pub others_stay : (old new : Objects) (number other : ℕ) (asked : ActorCall) (reply : ActorReply) → Calls number asked reply old new → other ≢ number → (o : ObjectId) → own_lists new other o ≡ own_lists old other o
others_stay old new number other (call.Device n asked) (by.Device reply) c ne (Device m) =
    others_at device_entry old.devices new.devices n (λ d e. device.Enters d.capacity d.log number asked reply e) number (device.is_logged reply) other ne c.logs m
others_stay old new number other (call.Device n asked) (by.Device reply) c ne (Cache m) = ap (λ xs. own_at cache_entry xs other m) c.others.0
others_stay old new number other (call.Device n asked) (by.Device reply) c ne (Node m) = ap (λ xs. own_at node_entry xs other m) c.others.1
others_stay old new number other (call.Device n asked) (by.Device reply) c ne Depot = ap (λ log. map depot_entry (own_entries other log)) c.others.2
others_stay old new number other (call.Cache n asked) (by.Cache reply) c ne (Cache m) =
    others_at cache_entry old.caches new.caches n (λ d e. cache.Enters asked reply e) number (cache.is_logged reply) other ne c.logs m
others_stay old new number other (call.Cache n asked) (by.Cache reply) c ne (Device m) = ap (λ xs. own_at device_entry xs other m) c.others.0
others_stay old new number other (call.Cache n asked) (by.Cache reply) c ne (Node m) = ap (λ xs. own_at node_entry xs other m) c.others.1
others_stay old new number other (call.Cache n asked) (by.Cache reply) c ne Depot = ap (λ log. map depot_entry (own_entries other log)) c.others.2
others_stay old new number other (call.Node n asked) (by.Node reply) c ne (Node m) =
    others_at node_entry old.nodes new.nodes n (λ d e. node.Enters asked reply e) number (node.is_logged reply) other ne c.logs m
others_stay old new number other (call.Node n asked) (by.Node reply) c ne (Device m) = ap (λ xs. own_at device_entry xs other m) c.others.0
others_stay old new number other (call.Node n asked) (by.Node reply) c ne (Cache m) = ap (λ xs. own_at cache_entry xs other m) c.others.1
others_stay old new number other (call.Node n asked) (by.Node reply) c ne Depot = ap (λ log. map depot_entry (own_entries other log)) c.others.2
others_stay old new number other (call.Depot asked) (by.Depot reply) c ne (Device m) = ap (λ xs. own_at device_entry xs other m) c.others.0
others_stay old new number other (call.Depot asked) (by.Depot reply) c ne (Cache m) = ap (λ xs. own_at cache_entry xs other m) c.others.1
others_stay old new number other (call.Depot asked) (by.Depot reply) c ne (Node m) = ap (λ xs. own_at node_entry xs other m) c.others.2
others_stay old new number other (call.Depot asked) (by.Depot reply) c ne Depot =
    ap (map depot_entry) (others_log (depot.is_logged reply) (λ e. depot.Enters asked reply e) number other old.depot new.depot ne c.logs)
others_stay old new number other asked reply c ne o = absurd c.replies

-- ---- the caller's own lists

-- replies that no job takes, or that are no answers to its calls
abbrev pub IsTaken : Reply → Type 0
IsTaken (by_device devices.has_plan) = ⊥
IsTaken (by_device devices.nothing) = ⊥
IsTaken (by_cache caches.held) = ⊥
IsTaken (by_cache caches.nothing) = ⊥
IsTaken (by_depot depots.nothing) = ⊥
IsTaken r = ⊤

module _ (old new : Objects) (caller : ℕ) where
  abbrev pub before : Lists
  before = own_lists old caller

  abbrev pub after : Lists
  after = own_lists new caller

  abbrev Stay : Type 0
  Stay = (o : ObjectId) → after o ≡ before o

  abbrev OthersOfDevice : Type 0
  OthersOfDevice = (new.caches ≡ old.caches) × (new.nodes ≡ old.nodes) × (new.depot ≡ old.depot)

  abbrev OthersOfCache : Type 0
  OthersOfCache = (new.devices ≡ old.devices) × (new.nodes ≡ old.nodes) × (new.depot ≡ old.depot)

  abbrev OthersOfNode : Type 0
  OthersOfNode = (new.devices ≡ old.devices) × (new.caches ≡ old.caches) × (new.depot ≡ old.depot)

  abbrev OthersOfDepot : Type 0
  OthersOfDepot = (new.devices ≡ old.devices) × (new.caches ≡ old.caches) × (new.nodes ≡ old.nodes)

  -- of a device
  module _ (n : ℕ) (enters : Sized DeviceNoted DeviceAnswer → Entry DeviceNoted DeviceAnswer → Type 0) (x : OthersOfDevice) where
    device_stays : LogsAt old.devices n false enters caller new.devices → Stay
    device_stays l (Device m) = stays_at device_entry old.devices new.devices n enters caller caller l m
    device_stays l (Cache m) = ap (λ xs. own_at cache_entry xs caller m) x.0
    device_stays l (Node m) = ap (λ xs. own_at node_entry xs caller m) x.1
    device_stays l Depot = ap (λ log. map depot_entry (own_entries caller log)) x.2

    pub device_grows : (l : LogsAt old.devices n true enters caller new.devices) → Grows false before after (device_entry n l.3.0)
    device_grows l (Device m) = grows_at device_entry old.devices new.devices n enters caller l m
    device_grows l (Cache m) = ap (λ xs. own_at cache_entry xs caller m) x.0
    device_grows l (Node m) = ap (λ xs. own_at node_entry xs caller m) x.1
    device_grows l Depot = ap (λ log. map depot_entry (own_entries caller log)) x.2

  -- of a cache
  module _ (n : ℕ) (enters : Sized CacheCall CacheReply → Entry CacheCall CacheReply → Type 0) (x : OthersOfCache) where
    cache_stays : LogsAt old.caches n false enters caller new.caches → Stay
    cache_stays l (Cache m) = stays_at cache_entry old.caches new.caches n enters caller caller l m
    cache_stays l (Device m) = ap (λ xs. own_at device_entry xs caller m) x.0
    cache_stays l (Node m) = ap (λ xs. own_at node_entry xs caller m) x.1
    cache_stays l Depot = ap (λ log. map depot_entry (own_entries caller log)) x.2

    cache_grows : (l : LogsAt old.caches n true enters caller new.caches) → Grows false before after (cache_entry n l.3.0)
    cache_grows l (Cache m) = grows_at cache_entry old.caches new.caches n enters caller l m
    cache_grows l (Device m) = ap (λ xs. own_at device_entry xs caller m) x.0
    cache_grows l (Node m) = ap (λ xs. own_at node_entry xs caller m) x.1
    cache_grows l Depot = ap (λ log. map depot_entry (own_entries caller log)) x.2

  -- of a node
  module _ (n : ℕ) (enters : Sized NodeCall NodeReply → Entry NodeCall NodeReply → Type 0) (x : OthersOfNode) where
    node_stays : LogsAt old.nodes n false enters caller new.nodes → Stay
    node_stays l (Node m) = stays_at node_entry old.nodes new.nodes n enters caller caller l m
    node_stays l (Device m) = ap (λ xs. own_at device_entry xs caller m) x.0
    node_stays l (Cache m) = ap (λ xs. own_at cache_entry xs caller m) x.1
    node_stays l Depot = ap (λ log. map depot_entry (own_entries caller log)) x.2

    node_grows : (l : LogsAt old.nodes n true enters caller new.nodes) → Grows false before after (node_entry n l.3.0)
    node_grows l (Node m) = grows_at node_entry old.nodes new.nodes n enters caller l m
    node_grows l (Device m) = ap (λ xs. own_at device_entry xs caller m) x.0
    node_grows l (Cache m) = ap (λ xs. own_at cache_entry xs caller m) x.1
    node_grows l Depot = ap (λ log. map depot_entry (own_entries caller log)) x.2

  -- of the depot
  module _ (enters : depot.LogEntry → Type 0) (x : OthersOfDepot) where
    depot_stays : Logs false enters caller old.depot new.depot → Stay
    depot_stays l (Device m) = ap (λ xs. own_at device_entry xs caller m) x.0
    depot_stays l (Cache m) = ap (λ xs. own_at cache_entry xs caller m) x.1
    depot_stays l (Node m) = ap (λ xs. own_at node_entry xs caller m) x.2
    depot_stays l Depot = ap (λ log. map depot_entry (own_entries caller log)) l

    depot_grows : (l : Logs true enters caller old.depot new.depot) → Grows false before after (depot_entry l.0)
    depot_grows l (Device m) = ap (λ xs. own_at device_entry xs caller m) x.0
    depot_grows l (Cache m) = ap (λ xs. own_at cache_entry xs caller m) x.1
    depot_grows l (Node m) = ap (λ xs. own_at node_entry xs caller m) x.2
    depot_grows l Depot =
        ap (λ log. map depot_entry (own_entries caller log)) l.1
        ∙ ap (map depot_entry) (own_entries-own caller old.depot l.0 l.2)
        ∙ map-append depot_entry (own_entries caller old.depot) (l.0 ∷ [])

  -- ---- by the step

  -- the lists grow by the step of the call with its reply
  abbrev pub GrowsTo : Call → Reply → Type 0
  GrowsTo c r = Grows false before after (step c r)

  device_step_at : (n : ℕ) (asked : DeviceStep) (k : devices.Call) (reply : DeviceAnswer) (c : Call) → devices.seen_call asked ≡ devices.asked k → on_device n k ≡ c → OthersOfDevice
      → LogsAt old.devices n true (λ d e. device.Enters d.capacity d.log caller asked reply e) caller new.devices → GrowsTo c (by_device (devices.seen_reply reply))
  device_step_at n asked k reply c e f x l =
      let kept = device_keeps l.0.capacity l.0.log caller asked reply l.3.0 l.3.3 in
      let noted : devices.seen_noted l.3.0.call ≡ k = subst (λ (a : devices.Asked). devices.Keeps a (devices.seen_reply reply) (devices.seen_noted l.3.0.call)) e kept.0 in
      let is : device_entry n l.3.0 ≡ step (on_device n k) (by_device (devices.seen_reply reply)) = λ i. step (on_device n (noted i)) (by_device (kept.1 i)) in
      subst (λ (c : Call). GrowsTo c (by_device (devices.seen_reply reply))) f
      (subst (λ (s : Step). Grows false before after s) is (device_grows n (λ d e. device.Enters d.capacity d.log caller asked reply e) x l))

  cache_step_at : (n : ℕ) (asked : CacheCall) (reply : CacheReply) (c : Call) → on_cache n (caches.seen_call asked) ≡ c → OthersOfCache → LogsAt old.caches n true (λ d e. cache.Enters asked reply e) caller new.caches → GrowsTo c (by_cache (caches.seen_reply reply))
  cache_step_at n asked reply c f x l =
      subst (λ (c : Call). GrowsTo c (by_cache (caches.seen_reply reply))) f
      (subst (λ (s : Step). Grows false before after s) (ap (cache_step n) (walked.cache_step asked reply l.3.0 l.3.3)) (cache_grows n (λ d e. cache.Enters asked reply e) x l))

  node_step_at : (n : ℕ) (asked : NodeCall) (reply : NodeReply) (c : Call) → on_node n (nodes.seen_call asked) ≡ c → OthersOfNode → LogsAt old.nodes n true (λ d e. node.Enters asked reply e) caller new.nodes → GrowsTo c (by_node (nodes.seen_reply reply))
  node_step_at n asked reply c f x l =
      subst (λ (c : Call). GrowsTo c (by_node (nodes.seen_reply reply))) f
      (subst (λ (s : Step). Grows false before after s) (ap (node_step n) (walked.node_step asked reply l.3.0 l.3.3)) (node_grows n (λ d e. node.Enters asked reply e) x l))

  depot_step_at : (asked : DepotCall) (reply : DepotReply) (c : Call) → on_depot (depots.seen_call asked) ≡ c → OthersOfDepot → Logs true (λ e. depot.Enters asked reply e) caller old.depot new.depot → GrowsTo c (by_depot (depots.seen_reply reply))
  depot_step_at asked reply c f x l =
      subst (λ (c : Call). GrowsTo c (by_depot (depots.seen_reply reply))) f
      (subst (λ (s : Step). Grows false before after s) (ap depot_step (entry_step asked reply l.0 l.3)) (depot_grows (λ e. depot.Enters asked reply e) x l))

  -- ---- a call of a job

  abbrev pub GainsBy : Call → Reply → Type 0
  GainsBy c r = (more : List Step) × Adds (a_call c) r more × GrowsBy more before after

  device_gains : (n : ℕ) (asked : DeviceStep) (k : devices.Call) (reply : DeviceAnswer) (c : Call) → devices.seen_call asked ≡ devices.asked k → on_device n k ≡ c → Calls caller (call.Device n asked) (by.Device reply) old new
      → IsTaken (by_device (devices.seen_reply reply)) → GainsBy c (by_device (devices.seen_reply reply))
  device_gains n asked k told.HasPlan c e f d t = absurd t
  device_gains n asked k told.Nothing c e f d t = absurd t
  device_gains n asked k told.OutOfMemory c e f d t = (step c (by_device devices.memory) ∷ [], refl, device_stays n (λ d e. device.Enters d.capacity d.log caller asked told.OutOfMemory e) d.others d.logs)
  device_gains n asked k reply c e f d t = (step c (by_device (devices.seen_reply reply)) ∷ [], refl, device_step_at n asked k reply c e f d.others d.logs)

  cache_gains : (n : ℕ) (asked : CacheCall) (reply : CacheReply) (c : Call) → on_cache n (caches.seen_call asked) ≡ c → Calls caller (call.Cache n asked) (by.Cache reply) old new
      → IsTaken (by_cache (caches.seen_reply reply)) → GainsBy c (by_cache (caches.seen_reply reply))
  cache_gains n asked hit.Held c f d t = absurd t
  cache_gains n asked hit.Nothing c f d t = absurd t
  cache_gains n asked (hit.Busy holder) c f d t = ([], refl, cache_stays n (λ d e. cache.Enters asked (hit.Busy holder) e) d.others d.logs)
  cache_gains n asked hit.OutOfMemory c f d t = (step c (by_cache caches.memory) ∷ [], refl, cache_stays n (λ d e. cache.Enters asked hit.OutOfMemory e) d.others d.logs)
  cache_gains n asked reply c f d t = (step c (by_cache (caches.seen_reply reply)) ∷ [], refl, cache_step_at n asked reply c f d.others d.logs)

  node_gains : (n : ℕ) (asked : NodeCall) (reply : NodeReply) (c : Call) → on_node n (nodes.seen_call asked) ≡ c → Calls caller (call.Node n asked) (by.Node reply) old new → GainsBy c (by_node (nodes.seen_reply reply))
  node_gains n asked kept.OutOfMemory c f d = (step c (by_node nodes.memory) ∷ [], refl, node_stays n (λ d e. node.Enters asked kept.OutOfMemory e) d.others d.logs)
  node_gains n asked reply c f d = (step c (by_node (nodes.seen_reply reply)) ∷ [], refl, node_step_at n asked reply c f d.others d.logs)

  depot_gains : (asked : DepotCall) (reply : DepotReply) (c : Call) → on_depot (depots.seen_call asked) ≡ c → Calls caller (call.Depot asked) (by.Depot reply) old new
      → IsTaken (by_depot (depots.seen_reply reply)) → GainsBy c (by_depot (depots.seen_reply reply))
  depot_gains asked answer.Nothing c f d t = absurd t
  depot_gains asked answer.OutOfMemory c f d t = (step c (by_depot depots.memory) ∷ [], refl, depot_stays (λ e. depot.Enters asked answer.OutOfMemory e) d.others d.logs)
  depot_gains asked reply c f d t = (step c (by_depot (depots.seen_reply reply)) ∷ [], refl, depot_step_at asked reply c f d.others d.logs)

  pub call_gains : (asked : ActorCall) (reply : ActorReply) (c : Call) → HandsCall asked (a_call c) → Calls caller asked reply old new → IsTaken (seen_reply reply) → GainsBy c (seen_reply reply)
  call_gains (call.Device n (asks.Plan k)) (by.Device reply) c h d t = device_gains n (asks.Plan k) (devices.plans (arc_value k)) reply c refl (call_same _ c h) d t
  call_gains (call.Device n (asks.Commit pieces room)) (by.Device reply) c h d t = absurd h
  call_gains (call.Device n asks.Drop) (by.Device reply) c h d t = device_gains n asks.Drop devices.drops reply c refl (call_same _ c h) d t
  call_gains (call.Device n asks.Reap) (by.Device reply) c h d t = device_gains n asks.Reap devices.reaps reply c refl (call_same _ c h) d t
  call_gains (call.Cache n k) (by.Cache reply) c h d t = cache_gains n k reply c (call_same _ c h) d t
  call_gains (call.Node n k) (by.Node reply) c h d t = node_gains n k reply c (call_same _ c h) d
  call_gains (call.Depot k) (by.Depot reply) c h d t = depot_gains k reply c (call_same _ c h) d t
  call_gains asked reply c h d t = absurd d.replies

  -- ---- a reap

  abbrev pub GainsReaped : Call → Reply → Type 0
  GainsReaped c r = (more : List Step) × Reaps c r more × GrowsBy more before after

  pub reap_gains : (asked : ActorCall) (reply : ActorReply) (c : Call) → IsReap c → HandsCall asked (a_call c) → Calls caller asked reply old new → GainsReaped c (seen_reply reply)
  reap_gains (call.Device n asks.Reap) (by.Device told.Reaped) c i h d = (step c (by_device devices.reaped) ∷ [], refl, device_step_at n asks.Reap devices.reaps told.Reaped c refl (call_same _ c h) d.others d.logs)
  reap_gains (call.Device n asks.Reap) (by.Device told.Nothing) c i h d = ([], refl, device_stays n (λ d e. device.Enters d.capacity d.log caller asks.Reap told.Nothing e) d.others d.logs)
  reap_gains (call.Device n asks.Reap) (by.Device reply) c i h d = absurd d.replies.2
  reap_gains (call.Device n (asks.Plan k)) (by.Device reply) c i h d = absurd (subst IsReap (sym (call_same _ c h)) i)
  reap_gains (call.Device n (asks.Commit pieces room)) (by.Device reply) c i h d = absurd h
  reap_gains (call.Device n asks.Drop) (by.Device reply) c i h d = absurd (subst IsReap (sym (call_same _ c h)) i)
  reap_gains (call.Cache n cached.Reap) (by.Cache hit.Reaped) c i h d = (step c (by_cache caches.reaped) ∷ [], refl, cache_step_at n cached.Reap hit.Reaped c (call_same _ c h) d.others d.logs)
  reap_gains (call.Cache n cached.Reap) (by.Cache hit.Nothing) c i h d = ([], refl, cache_stays n (λ d e. cache.Enters cached.Reap hit.Nothing e) d.others d.logs)
  reap_gains (call.Cache n cached.Reap) (by.Cache reply) c i h d = absurd d.replies.2
  reap_gains (call.Cache n k) (by.Cache reply) c i h d = absurd (subst IsReap (sym (call_same _ c h)) i)
  reap_gains (call.Node n k) (by.Node reply) c i h d = absurd (subst IsReap (sym (call_same _ c h)) i)
  reap_gains (call.Depot depot_asks.Reap) (by.Depot answer.Reaped) c i h d = (step c (by_depot depots.reaped) ∷ [], refl, depot_step_at depot_asks.Reap answer.Reaped c (call_same _ c h) d.others d.logs)
  reap_gains (call.Depot depot_asks.Reap) (by.Depot answer.Nothing) c i h d = ([], refl, depot_stays (λ e. depot.Enters depot_asks.Reap answer.Nothing e) d.others d.logs)
  reap_gains (call.Depot depot_asks.Reap) (by.Depot reply) c i h d = absurd d.replies
  reap_gains (call.Depot k) (by.Depot reply) c i h d = absurd (subst IsReap (sym (call_same _ c h)) i)
  reap_gains asked reply c i h d = absurd d.replies
