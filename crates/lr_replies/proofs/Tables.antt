-- Each reply of the called object is one of its table.
use Rattle.std.proofs.Common.{◌≡◌, ℕ, List, Option, Some, None, slice_get, refl, sym, ap, ◌∙◌, subst}
use Rattle.std.specs.Arc.{arc_value}
use Rattle.std.specs.FinMap as map
use Rattle.sha2.specs.Sha256.{sha256}
use Rattle.lr_manifest.specs.declared.name.Name.{Name}
use Rattle.lr_manifest.specs.Manifest.{ManifestFields}
use Rattle.lr_origin.specs.declared.key.KeyKind.TheVariants as kind
use Rattle.lr_rules.specs.State.{State}
use Rattle.lr_device.specs.declared.step.DeviceStep.TheVariants as asks
use Rattle.lr_device.specs.declared.step.DeviceAnswer.{DeviceAnswer}
use Rattle.lr_cache.specs.Machine as cache
use Rattle.lr_nodes.specs.Machine as node
use Rattle.lr_depot.specs.declared.call.DepotCall.TheVariants as depot
use Rattle.lr_depot.specs.declared.call.DepotReply.{DepotReply}
use Rattle.lr_depot.specs.declared.call.DepotReply.TheVariants as told
use Rattle.lr_depot.specs.Depot.{state}
use Rattle.lr_depot.specs.Machine.{DepotStep}
use Rattle.lr_walk.specs.declared.trail.Answer.{Answer}
use Rattle.lr_walk.specs.declared.place.LoadPlace.{LoadPlace}
use Rattle.lr_walk.specs.Steps.{Call, on_device, by_device, by_cache, by_node, by_depot, Answers}
use Rattle.lr_walk.specs.Depot as depots
use Rattle.lr_walk.specs.Cache as caches
use Rattle.lr_walk.specs.Node as nodes
use Rattle.lr_walk.specs.Device as devices
use Rattle.lr_walk.proofs.Devices.{device_answers}
use Rattle.lr_walk.proofs.Others.{cache_answers, node_answers}
use Rattle.lr_walk.proofs.Depot.{answers_by_table}
use Rattle.lr_loader.specs.Progress as loads
use Rattle.lr_actors.specs.declared.action.ActorCall.{ActorCall}
use Rattle.lr_actors.specs.declared.action.ActorCall.TheVariants as call
use Rattle.lr_actors.specs.declared.action.ActorReply.{ActorReply}
use Rattle.lr_actors.specs.declared.action.ActorReply.TheVariants as by
use Rattle.lr_actors.specs.Asked.{a_call, an_end, no_call, HandsCall, seen_reply}
use Rattle.lr_actors.specs.Serving.{HasLease}
use Rattle.lr_replies.specs.Objects.{Objects, Replies}
use Rattle.lr_replies.proofs.Facts.{same_some, none_some}

pub call_same : (x y : Call) → a_call x ≡ a_call y → x ≡ y
call_same x y e = cc

pub never_ended : (asked : ActorCall) (answer : Answer) → HandsCall asked (an_end answer) → ⊥
never_ended (call.Device n (asks.Plan c)) answer h = cc
never_ended (call.Device n (asks.Commit pieces room)) answer h = h
never_ended (call.Device n asks.Drop) answer h = cc
never_ended (call.Device n asks.Reap) answer h = cc
never_ended (call.Cache n c) answer h = cc
never_ended (call.Node n c) answer h = cc
never_ended (call.Depot c) answer h = cc

pub never_uncalled : (asked : ActorCall) → HandsCall asked no_call → ⊥
never_uncalled (call.Device n (asks.Plan c)) h = cc
never_uncalled (call.Device n (asks.Commit pieces room)) h = h
never_uncalled (call.Device n asks.Drop) h = cc
never_uncalled (call.Device n asks.Reap) h = cc
never_uncalled (call.Cache n c) h = cc
never_uncalled (call.Node n c) h = cc
never_uncalled (call.Depot c) h = cc

module _ (w : Objects) (caller : ℕ) where
  device_told : (n : ℕ) (step : _) (c : Call) (x : devices.Call) (r : DeviceAnswer) → devices.seen_call step ≡ devices.asked x → on_device n x ≡ c
      → Replies w caller (call.Device n step) (by.Device r) → Answers c (by_device (devices.seen_reply r))
  device_told n step c x r e same d =
      subst (λ (k : Call). Answers k (by_device (devices.seen_reply r))) same
      (subst (λ (a : devices.Asked). devices.AnswersAsked a (devices.seen_reply r)) e (device_answers d.0.capacity d.0.log caller step r d.2))

  -- Each reply but that to a commit.
  pub answers_call : (asked : ActorCall) (reply : ActorReply) (c : Call) → HandsCall asked (a_call c) → Replies w caller asked reply → Answers c (seen_reply reply)
  answers_call (call.Device n (asks.Plan k)) (by.Device r) c h d = device_told n (asks.Plan k) c (devices.plans (arc_value k)) r refl (call_same _ c h) d
  answers_call (call.Device n (asks.Commit pieces room)) (by.Device r) c h d = absurd h
  answers_call (call.Device n asks.Drop) (by.Device r) c h d = device_told n asks.Drop c devices.drops r refl (call_same _ c h) d
  answers_call (call.Device n asks.Reap) (by.Device r) c h d = device_told n asks.Reap c devices.reaps r refl (call_same _ c h) d
  answers_call (call.Cache n k) (by.Cache r) c h d =
      subst (λ (x : Call). Answers x (by_cache (caches.seen_reply r))) (call_same _ c h) (cache_answers (cache.run d.0.capacity d.0.log) caller k r d.2)
  answers_call (call.Node n k) (by.Node r) c h d =
      subst (λ (x : Call). Answers x (by_node (nodes.seen_reply r))) (call_same _ c h) (node_answers (node.run d.0.capacity d.0.log) k r d.2)
  answers_call (call.Depot k) (by.Depot r) c h d =
      subst (λ (x : Call). Answers x (by_depot (depots.seen_reply r))) (call_same _ c h) (answers_by_table (state w.start w.depot) caller k r d)
  answers_call asked reply c h d = absurd d

-- ---- the depot's replies while a lease is out

same_out : (o : Option (List ℕ × ManifestFields)) (i j : List ℕ) (m n : ManifestFields) → o ≡ Some (i, m) → o ≡ Some (j, n) → m ≡ n
same_out o i j m n e f = by (sym e ∙ f)
  where
    by : ◌≡◌ {A = Option (List ℕ × ManifestFields)} (Some (i, m)) (Some (j, n)) → m ≡ n
    by g = ap fields g
      where
        fields : Option (List ℕ × ManifestFields) → ManifestFields
        fields None = m
        fields (Some l) = l.1

same_chunk : (a b : ℕ) (x y : List ℕ) → kind.Chunk a x ≡ kind.Chunk b y → x ≡ y
same_chunk a b x y e = cc

-- of a Close it isn't that there is no lease
pub closed_only : (s : State) (c lease : ℕ) (image : List ℕ) (m : ManifestFields) (r : DepotReply) → map.get s.desk.leases lease ≡ Some (image, m) → DepotStep s c (depot.Close lease) r → depots.seen_reply r ≡ depots.no_lease → ⊥
closed_only s c lease image m told.NoLease out d e = none_some (map.get s.desk.leases lease) (image, m) d out
closed_only s c lease image m told.Closed out d e = cc
closed_only s c lease image m told.OutOfMemory out d e = cc
closed_only s c lease image m r out d e = absurd d

-- a Fetch finds the chunk's name
pub fetched_only : (s : State) (c : ℕ) (place : LoadPlace) (image : List ℕ) (m : ManifestFields) (r : DepotReply) → map.get s.desk.leases place.lease ≡ Some (image, m) → slice_get m.names place.index ≡ Some place.name
    → DepotStep s c (depot.Fetch place.lease place.index) r → HasLease (by_depot (depots.seen_reply r)) × loads.HasName place (by_depot (depots.seen_reply r))
fetched_only s c place image m told.NoLease out named d = none_some (map.get s.desk.leases place.lease) (image, m) d out
fetched_only s c place image m told.NoChunk out named d =
    let same : m ≡ d.1 = same_out (map.get s.desk.leases place.lease) image d.0 m d.1 out d.2 in
    none_some (slice_get m.names place.index) place.name (ap (λ (f : ManifestFields). slice_get f.names place.index) same ∙ d.3) named
fetched_only s c place image m (told.Fetched chunk) out named d =
    let f = d.1 in
    let same : m ≡ f.manifest = same_out (map.get s.desk.leases place.lease) image f.image m f.manifest out f.out in
    let name : place.name ≡ f.name = same_some (slice_get m.names place.index) place.name f.name named (ap (λ (f : ManifestFields). slice_get f.names place.index) same ∙ f.named) in
    (tt, same_chunk d.0 f.home (sha256 (arc_value chunk)) f.name.bytes f.key ∙ ap (λ (n : Name). n.bytes) (sym name))
fetched_only s c place image m (told.Fault k) out named d = (tt, tt)
fetched_only s c place image m (told.Spoiled k) out named d = (tt, tt)
fetched_only s c place image m told.OutOfMemory out named d = (tt, tt)
fetched_only s c place image m r out named d = absurd d
