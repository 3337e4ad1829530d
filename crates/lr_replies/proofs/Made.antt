-- The logs stay ones that calls made.
use Rattle.std.proofs.Common.{◌≡◌, ◌≤◌, ◌*◌, ℕ, List, [], ◌∷◌, ◌++◌, length, Bool, true, false, Some, slice_get, sym, ap, ◌∙◌, subst}
use Rattle.lr_object.specs.declared.entry.Entry.{Entry}
use Rattle.lr_object.specs.Grown.{Grown, more}
use Rattle.lr_object.specs.Kept.{Sized}
use Rattle.lr_device.specs.declared.step.DeviceStep.{DeviceStep}
use Rattle.lr_device.specs.declared.step.DeviceNoted.{DeviceNoted}
use Rattle.lr_device.specs.declared.step.DeviceAnswer.{DeviceAnswer}
use Rattle.lr_device.specs.Answers.{Answers}
use Rattle.lr_device.specs.Enters.{Enters}
use Rattle.lr_device.specs.Enters as device
use Rattle.lr_cache.specs.declared.call.CacheCall.{CacheCall}
use Rattle.lr_cache.specs.declared.call.CacheReply.{CacheReply}
use Rattle.lr_cache.specs.Machine as cache
use Rattle.lr_cache.specs.Orderly.{IsCacheLog}
use Rattle.lr_nodes.specs.declared.call.NodeCall.{NodeCall}
use Rattle.lr_nodes.specs.declared.call.NodeReply.{NodeReply}
use Rattle.lr_nodes.specs.Machine as node
use Rattle.lr_nodes.specs.Orderly.{IsNodeLog}
use Rattle.lr_rules.specs.State.{State}
use Rattle.lr_depot.specs.declared.call.DepotCall.{DepotCall}
use Rattle.lr_depot.specs.declared.call.DepotReply.{DepotReply}
use Rattle.lr_depot.specs.Depot.{IsStart, first_state, state}
use Rattle.lr_depot.specs.Machine.{DepotStep, after_entry, run}
use Rattle.lr_depot.specs.Machine as depot
use Rattle.lr_depot.specs.Store.{IsRun}
use Rattle.lr_walk.specs.Calls.{DevicePlace}
use Rattle.lr_walk.specs.Jobs.{Context}
use Rattle.lr_actors.specs.declared.action.ActorCall.{ActorCall}
use Rattle.lr_actors.specs.declared.action.ActorCall.TheVariants as call
use Rattle.lr_actors.specs.declared.action.ActorReply.{ActorReply}
use Rattle.lr_actors.specs.declared.action.ActorReply.TheVariants as by
use Rattle.lr_replies.specs.Objects.{Objects, Logs, Calls}
use Rattle.lr_replies.specs.Replies.{AreMade, LogsStayMade}
use Rattle.lr_replies.proofs.Logging.{each_at}
use Rattle.lr_replies.proofs.Facts.{same_some}

run_more : (s : State) (log : List depot.LogEntry) (e : depot.LogEntry) (asked : DepotCall) (reply : DepotReply) → IsRun s log → DepotStep (run s log) e.caller asked reply → depot.Enters asked reply e → IsRun s (log ++ e ∷ [])
run_more s [] e asked reply is d n = (asked, reply, d, n, tt)
run_more s (x ∷ log) e asked reply is d n = (is.0, is.1, is.2, is.3, run_more (after_entry s x) log e asked reply is.4 d n)

module _ (old new : Objects) (context : Context) (hosts : ℕ) (made : AreMade old context hosts) where
  devices_stay : new.devices ≡ old.devices → (n : ℕ) (d : _) → slice_get new.devices n ≡ Some d → Grown Answers Enters d.capacity [] d.log
  devices_stay e n d at = made.devices n d (ap (λ xs. slice_get xs n) (sym e) ∙ at)

  sizes_stay : new.devices ≡ old.devices → (n : ℕ) (d : _) (place : DevicePlace) → slice_get new.devices n ≡ Some d → slice_get context.devices n ≡ Some place → d.capacity ≤ 524288 * length place.names
  sizes_stay e n d place at here = made.sizes n d place (ap (λ xs. slice_get xs n) (sym e) ∙ at) here

  caches_stay : new.caches ≡ old.caches → (n : ℕ) (c : _) → slice_get new.caches n ≡ Some c → IsCacheLog c.capacity c.log
  caches_stay e n c at = made.caches n c (ap (λ xs. slice_get xs n) (sym e) ∙ at)

  nodes_stay : new.nodes ≡ old.nodes → (n : ℕ) (s : _) → slice_get new.nodes n ≡ Some s → IsNodeLog s.capacity s.log
  nodes_stay e n s at = made.nodes n s (ap (λ xs. slice_get xs n) (sym e) ∙ at)

  node_made : (was : Sized NodeCall NodeReply) (log : _) (caller : ℕ) (asked : NodeCall) (reply : NodeReply) (b : Bool) → node.NodeStep (node.run was.capacity was.log) asked reply
      → Logs b (λ e. node.Enters asked reply e) caller was.log log → IsNodeLog was.capacity was.log → IsNodeLog was.capacity log
  node_made was log caller asked reply true a l g = subst (IsNodeLog was.capacity) (sym l.1) (more g asked reply l.0 a l.3)
  node_made was log caller asked reply false a l g = subst (IsNodeLog was.capacity) (sym l) g

  depot_stays : new.start ≡ old.start → new.depot ≡ old.depot → IsRun (first_state new.start) new.depot
  depot_stays e f = rw (e, f) made.depot

  start_stays : new.start ≡ old.start → IsStart new.start
  start_stays e = subst IsStart (sym e) made.start

  device_made : (was : Sized DeviceNoted DeviceAnswer) (log : _) (caller : ℕ) (asked : DeviceStep) (reply : DeviceAnswer) (b : Bool) → Answers was.capacity was.log caller asked reply
      → Logs b (λ e. Enters was.capacity was.log caller asked reply e) caller was.log log → Grown Answers Enters was.capacity [] was.log → Grown Answers Enters was.capacity [] log
  device_made was log caller asked reply true a l g =
      let e = l.0 in
      let own : Answers was.capacity was.log e.caller asked reply = subst (λ (c : ℕ). Answers was.capacity was.log c asked reply) (sym l.2) a in
      let enters : Enters was.capacity was.log e.caller asked reply e = subst (λ (c : ℕ). Enters was.capacity was.log c asked reply e) (sym l.2) l.3 in
      subst (λ (x : List (Entry DeviceNoted DeviceAnswer)). Grown Answers Enters was.capacity [] x) (sym l.1) (more g asked reply e own enters)
  device_made was log caller asked reply false a l g = subst (λ (x : List (Entry DeviceNoted DeviceAnswer)). Grown Answers Enters was.capacity [] x) (sym l) g

  cache_made : (was : Sized CacheCall CacheReply) (log : _) (caller : ℕ) (asked : CacheCall) (reply : CacheReply) (b : Bool) → cache.CacheStep (cache.run was.capacity was.log) caller asked reply
      → Logs b (λ e. cache.Enters asked reply e) caller was.log log → IsCacheLog was.capacity was.log → IsCacheLog was.capacity log
  cache_made was log caller asked reply true a l g =
      let e = l.0 in
      let own : cache.CacheStep (cache.run was.capacity was.log) e.caller asked reply = subst (λ (c : ℕ). cache.CacheStep (cache.run was.capacity was.log) c asked reply) (sym l.2) a in
      subst (IsCacheLog was.capacity) (sym l.1) (more g asked reply e own l.3)
  cache_made was log caller asked reply false a l g = subst (IsCacheLog was.capacity) (sym l) g

  depot_made : (caller : ℕ) (asked : DepotCall) (reply : DepotReply) (b : Bool) → new.start ≡ old.start → DepotStep (state old.start old.depot) caller asked reply
      → Logs b (λ e. depot.Enters asked reply e) caller old.depot new.depot → IsRun (first_state new.start) new.depot
  depot_made caller asked reply true same d l =
      rw (same, l.1) (run_more (first_state old.start) old.depot l.0 asked reply made.depot (subst (λ (c : ℕ). DepotStep (state old.start old.depot) c asked reply) (sym l.2) d) l.3)
  depot_made caller asked reply false same d l = depot_stays same l

  by_call : (number : ℕ) (asked : ActorCall) (reply : ActorReply) → Calls number asked reply old new → AreMade new context hosts
  by_call number (call.Device n asked) (by.Device reply) c =
      let l = c.logs in
      let enters : Sized DeviceNoted DeviceAnswer → Entry DeviceNoted DeviceAnswer → Type 0 = λ d e. Enters d.capacity d.log number asked reply e in
      let was : c.replies.0 ≡ l.0 = same_some (slice_get old.devices n) c.replies.0 l.0 c.replies.1 l.2 in
      let answers : Answers l.0.capacity l.0.log number asked reply = subst (λ (d : Sized DeviceNoted DeviceAnswer). Answers d.capacity d.log number asked reply) was c.replies.2 in
      record {
        devices = each_at old.devices new.devices n enters number (λ (m : ℕ) (x : Sized DeviceNoted DeviceAnswer). Grown Answers Enters x.capacity [] x.log) (device.is_logged reply) made.devices l
            (device_made l.0 l.1 number asked reply (device.is_logged reply) answers l.3);
        sizes = λ m d place at. each_at old.devices new.devices n enters number (λ (m : ℕ) (x : Sized DeviceNoted DeviceAnswer). (place : DevicePlace) → slice_get context.devices m ≡ Some place → x.capacity ≤ 524288 * length place.names) (device.is_logged reply)
            (λ m x at place. made.sizes m x place at) l (λ h. h) m d at place;
        caches = caches_stay c.others.0;
        nodes = nodes_stay c.others.1;
        start = start_stays c.start;
        depot = depot_stays c.start c.others.2;
        many = (l.4.many ∙ made.many.0, ap length c.others.0 ∙ made.many.1, ap length c.others.1 ∙ made.many.2);
      }
  by_call number (call.Cache n asked) (by.Cache reply) c =
      let l = c.logs in
      let enters : Sized CacheCall CacheReply → Entry CacheCall CacheReply → Type 0 = λ d e. cache.Enters asked reply e in
      let was : c.replies.0 ≡ l.0 = same_some (slice_get old.caches n) c.replies.0 l.0 c.replies.1 l.2 in
      let answers : cache.CacheStep (cache.run l.0.capacity l.0.log) number asked reply = subst (λ (d : Sized CacheCall CacheReply). cache.CacheStep (cache.run d.capacity d.log) number asked reply) was c.replies.2 in
      record {
        devices = devices_stay c.others.0;
        sizes = sizes_stay c.others.0;
        caches = each_at old.caches new.caches n enters number (λ (m : ℕ) (x : Sized CacheCall CacheReply). IsCacheLog x.capacity x.log) (cache.is_logged reply) made.caches l
            (cache_made l.0 l.1 number asked reply (cache.is_logged reply) answers l.3);
        nodes = nodes_stay c.others.1;
        start = start_stays c.start;
        depot = depot_stays c.start c.others.2;
        many = (ap length c.others.0 ∙ made.many.0, l.4.many ∙ made.many.1, ap length c.others.1 ∙ made.many.2);
      }
  by_call number (call.Node n asked) (by.Node reply) c =
      let l = c.logs in
      let enters : Sized NodeCall NodeReply → Entry NodeCall NodeReply → Type 0 = λ d e. node.Enters asked reply e in
      let was : c.replies.0 ≡ l.0 = same_some (slice_get old.nodes n) c.replies.0 l.0 c.replies.1 l.2 in
      let answers : node.NodeStep (node.run l.0.capacity l.0.log) asked reply = subst (λ (d : Sized NodeCall NodeReply). node.NodeStep (node.run d.capacity d.log) asked reply) was c.replies.2 in
      record {
        devices = devices_stay c.others.0;
        sizes = sizes_stay c.others.0;
        caches = caches_stay c.others.1;
        nodes = each_at old.nodes new.nodes n enters number (λ (m : ℕ) (x : Sized NodeCall NodeReply). IsNodeLog x.capacity x.log) (node.is_logged reply) made.nodes l
            (node_made l.0 l.1 number asked reply (node.is_logged reply) answers l.3);
        start = start_stays c.start;
        depot = depot_stays c.start c.others.2;
        many = (ap length c.others.0 ∙ made.many.0, ap length c.others.1 ∙ made.many.1, l.4.many ∙ made.many.2);
      }
  by_call number (call.Depot asked) (by.Depot reply) c =
      record {
        devices = devices_stay c.others.0;
        sizes = sizes_stay c.others.0;
        caches = caches_stay c.others.1;
        nodes = nodes_stay c.others.2;
        start = start_stays c.start;
        depot = depot_made number asked reply (depot.is_logged reply) c.start c.replies c.logs;
        many = (ap length c.others.0 ∙ made.many.0, ap length c.others.1 ∙ made.many.1, ap length c.others.2 ∙ made.many.2);
      }
  by_call number asked reply c = absurd c.replies

pub logs_made : LogsStayMade
logs_made old new context hosts number asked reply made c = by_call old new context hosts made number asked reply c
