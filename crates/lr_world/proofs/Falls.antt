-- A turn lowers the weight of a world, or its actor waits.
use Rattle.std.proofs.Common.{◌≡◌, ◌<◌, ◌≤◌, ◌+◌, ◌*◌, ℕ, suc, List, [], ◌∷◌, length, Option, Some, None, slice_get, refl, ap, sym, subst, ◌∙◌, inl, inr, arith}
use Rattle.std.specs.Prelude.{◌≢◌, ◌⊎◌, ⊤, sum_by, IsSome}
use Rattle.std.proofs.Math.ListN.{set}
use Rattle.std.specs.FinMap as map
use Rattle.lr_world.proofs.Leases.{same_or_not}
use Rattle.std.proofs.lemmas.Option.{slice_get_within, get_or_from_slice_get}
use Rattle.std.proofs.lemmas.List.Sums.{sum_by-set}
use Rattle.lr_object.specs.Kept.{Sized}
use Rattle.lr_object.specs.declared.id.ObjectId.{ObjectId}
use Rattle.lr_object.specs.declared.id.ObjectId.TheVariants.{Device, Cache, Node, Depot}
use Rattle.lr_origin.specs.Objects.{Objects as Stored}
use Rattle.lr_manifest.specs.declared.name.Name.{Name}
use Rattle.lr_collector.specs.declared.collect.CollectJob.{CollectJob}
use Rattle.lr_collector.specs.Progress as collections
use Rattle.lr_migrator.specs.Progress as migrations
use Rattle.lr_creator.specs.Progress as creations
use Rattle.lr_device.specs.declared.call.DeviceCall.{DeviceCall}
use Rattle.lr_cache.specs.declared.call.CacheCall.{CacheCall}
use Rattle.lr_cache.specs.declared.call.CacheCall.TheVariants.{Look}
use Rattle.lr_cache.specs.declared.call.CacheReply.{CacheReply}
use Rattle.lr_cache.specs.declared.call.CacheReply.TheVariants.{Busy}
use Rattle.lr_depot.specs.declared.call.DepotReply.TheVariants.{Removed}
use Rattle.lr_depot.specs.Machine.{is_logged}
use Rattle.lr_depot.specs.Depot.{state}
use Rattle.lr_depot.specs.Begun.{Start}
use Rattle.lr_walk.specs.Steps.{on_cache}
use Rattle.lr_walk.specs.Cache as caches
use Rattle.lr_walk.specs.Jobs.{Context}
use Rattle.lr_history.specs.Ready.{claim_by, out_after, own_in}
use Rattle.lr_actors.specs.declared.action.ActorCall.{ActorCall}
use Rattle.lr_actors.specs.declared.action.ActorCall.TheVariants as call
use Rattle.lr_actors.specs.declared.action.ActorReply.{ActorReply}
use Rattle.lr_actors.specs.declared.action.ActorReply.TheVariants as by
use Rattle.lr_actors.specs.declared.single.Single.{Single}
use Rattle.lr_actors.specs.declared.single.Single.TheVariants as one
use Rattle.lr_actors.specs.declared.running.Running.{Running}
use Rattle.lr_actors.specs.declared.running.Running.TheVariants.{Serves, Makes, Forges, Collects, Migrates, Creates}
use Rattle.lr_actors.specs.Asked.{Asked, a_call, HandsCall, seen_reply}
use Rattle.lr_actors.specs.Running.{serves, asked}
use Rattle.lr_actors.specs.Serving.{Work}
use Rattle.lr_actors.specs.Singles as singles
use Rattle.lr_actors.specs.Forging as forging
use Rattle.lr_actors.specs.Collecting as collecting
use Rattle.lr_actors.specs.Migrating as migrating
use Rattle.lr_actors.specs.Creating as creating
use Rattle.lr_actors.specs.Begun.{IsTaskOf}
use Rattle.lr_actors.specs.Jobs.{Job, calls, creates, migrates, collects, closes, evicts, drops_stripe, flips_stripe, forges, loses}
use Rattle.lr_actors.specs.Actor as actor
use Rattle.lr_actors.specs.Actor.{Now, works, idles, reaps, over, FitsNow, Nears, asks_now, reap_at, reap_of, left}
use Rattle.lr_replies.specs.Objects.{Objects, log_of, Replies, Calls, IsReplaced}
use Rattle.lr_replies.specs.Replies.{IsReady}
use Rattle.lr_world.specs.Laws.{Laws}
use Rattle.lr_world.specs.declared.world.Turn.{Turn}
use Rattle.lr_world.specs.Turns.{turn_of, Turned, IsBusy, Goes}
use Rattle.lr_world.specs.World.{Seen, objects_of, part_of, IsWorld, Called, Idled, StepsNow, keys_of, weight_of}
use Rattle.lr_world.proofs.Keys.{keys_few, keys_removed}
use Rattle.lr_world.proofs.Taken.{part_at, ready}
use Rattle.lr_world.proofs.Kept.{near, nears_less}

-- ---- a Look is of a device call

serves_calls : (context : Context) (job : Job) (work : Work) → IsTaskOf context job (serves work) → (device : ℕ) × (c : DeviceCall) × (job ≡ calls device c)
serves_calls context (calls device c) work t = (device, c, refl)
serves_calls context (creates image tenant raw) work t = absurd (cc)
serves_calls context (migrates image) work t = absurd (cc)
serves_calls context (collects job) work t = absurd (cc)
serves_calls context (closes device) work t = absurd (let e = t.2 in cc)
serves_calls context (evicts host) work t = absurd (cc)
serves_calls context (drops_stripe index device chunk) work t = absurd (let e = t.2.2 in cc)
serves_calls context (flips_stripe index device chunk at) work t = absurd (let e = t.2.2 in cc)
serves_calls context (forges device chunk) work t = absurd (let e = t.2.2 in cc)
serves_calls context (loses node) work t = absurd (cc)

Looks : ℕ → Name → Asked → Type 0
Looks h name x = a_call (on_cache h (caches.looks name)) ≡ x

no_single : (h : ℕ) (name : Name) (s : Single) (n : singles.Need) → Looks h name (singles.asked s n) → ⊥
unfolding Looks
no_single h name (one.Evict host) singles.asking e = cc
no_single h name (one.Drop node x index) singles.asking e = cc
no_single h name (one.Flip node x index at) singles.asking e = cc
no_single h name (one.Lose node) singles.asking e = cc
no_single h name (one.Close lease) singles.asking e = cc
no_single h name s (singles.ended answer) e = cc

no_forge : (h : ℕ) (name : Name) (t : forging.Target) (n : forging.Need) → Looks h name (forging.asked t n) → ⊥
unfolding Looks
no_forge h name t (forging.putting stripe more answer) e = cc
no_forge h name t (forging.ended answer) e = cc

no_collection : (h : ℕ) (name : Name) (j : CollectJob) (n : collections.Need) → Looks h name (collecting.asked_by (collections.asked j n)) → ⊥
unfolding Looks
no_collection h name j (collections.asking count) e = cc
no_collection h name j (collections.ended end) e = cc

no_move : (h : ℕ) (name : Name) (image : List ℕ) (n : migrations.Need) → Looks h name (migrating.asked_by (migrations.asked image n)) → ⊥
unfolding Looks
no_move h name image migrations.beginning e = cc
no_move h name image (migrations.copying session index more) e = cc
no_move h name image (migrations.putting session index more x) e = cc
no_move h name image (migrations.finishing session) e = cc
no_move h name image (migrations.leaving session end) e = cc
no_move h name image (migrations.ended end) e = cc

no_creation : (h : ℕ) (name : Name) (n : creations.Need) → Looks h name (creating.asked_by (creations.asked n)) → ⊥
unfolding Looks
no_creation h name (creations.beginning image) e = cc
no_creation h name (creations.wanting place parts) e = cc
no_creation h name (creations.putting place parts x) e = cc
no_creation h name (creations.finishing place fields) e = cc
no_creation h name (creations.leaving session end) e = cc
no_creation h name (creations.ended end) e = cc

no_reap : (h : ℕ) (name : Name) (x : ObjectId) → Looks h name (a_call (reap_of x)) → ⊥
unfolding Looks
no_reap h name (Device d) e = cc
no_reap h name (Cache k) e = cc
no_reap h name (Node k) e = cc
no_reap h name Depot e = cc

HasCall : actor.Seen → Type 0
HasCall a = (device : ℕ) × (c : DeviceCall) × (slice_get a.jobs (length a.account.results) ≡ Some (calls device c))

looks_works : (h : ℕ) (name : Name) (a : actor.Seen) (r : Running) → FitsNow (works r) a → HandsCall (call.Cache h (Look name)) (asked r) → HasCall a
unfolding HasCall Looks
looks_works h name a (Serves device p) f e = let s = serves_calls a.context f.1.0 p.work f.1.2.is in (s.0, s.1, f.1.1 ∙ ap Some s.2)
looks_works h name a (Makes p) f e = absurd (no_single h name p.single p.need e)
looks_works h name a (Forges p) f e = absurd (no_forge h name p.target p.need e)
looks_works h name a (Collects p) f e = absurd (no_collection h name p.job p.need e)
looks_works h name a (Migrates p) f e = absurd (no_move h name p.image p.need e)
looks_works h name a (Creates p) f e = absurd (no_creation h name p.create.need e)

looks_now : (h : ℕ) (name : Name) (a : actor.Seen) (now : Now) → FitsNow now a → HandsCall (call.Cache h (Look name)) (asks_now now a) → HasCall a
unfolding Looks
looks_now h name a (works r) f e = looks_works h name a r f e
looks_now h name a idles f e = absurd (cc)
looks_now h name a (reaps made) f e = absurd (no_reap h name (reap_at a.context a.hosts made) e)
looks_now h name a over f e = absurd (cc)

-- ---- a call by its reply

pub BusyCall : ActorCall → ActorReply → Type 0
BusyCall c reply = (h : ℕ) × (name : Name) × (holder : ℕ) × (c ≡ call.Cache h (Look name)) × (reply ≡ by.Cache (Busy holder))

-- Busy comes to a Look alone
pub busy_only : (w : Objects) (n : ℕ) (c : ActorCall) (holder : ℕ) → Replies w n c (by.Cache (Busy holder)) → BusyCall c (by.Cache (Busy holder))
unfolding BusyCall
busy_only w n (call.Cache h (Look name)) holder r = (h, name, holder, refl, refl)
busy_only w n (call.Cache h c) holder r = absurd r.2
busy_only w n c holder r = absurd r

record FallsBy (c : ActorCall) (reply : ActorReply) (x y old new : ℕ) : Type 0 where
  which : ((y + 1 ≤ x) × (new ≤ old + 1)) ⊎ (((y ≤ x) × (new + 1 ≤ old)) ⊎ BusyCall c reply)

keys_start : (old new : Objects) → new.start ≡ old.start → keys_of new ≡ map.len (state old.start new.depot).known.view
keys_start old new e = ap (λ (s : Start). map.len (state s new.depot).known.view) e

keys_same : (old new : Objects) → new.start ≡ old.start → new.depot ≡ old.depot → keys_of new ≤ keys_of old + 1
keys_same old new e d = omega (arith, keys_start old new e, ap (λ l. map.len (state old.start l).known.view) d)

falls_by : (n : ℕ) (old new : Objects) (x y : ℕ) (c : ActorCall) (reply : ActorReply) → Calls n c reply old new → Nears (seen_reply reply) x y → FallsBy c reply x y (keys_of old) (keys_of new)
unfolding BusyCall
falls_by n old new x y (call.Depot c) (by.Depot (Removed k)) made near =
    record { which = inr (inl (near, omega (arith, keys_start old new made.start, keys_removed old.start c k n old.depot new.depot made.replies made.logs))) }
falls_by n old new x y (call.Depot c) (by.Depot reply) made near =
    record { which = inl (near, omega (arith, keys_start old new made.start, keys_few old.start c reply (is_logged reply) n old.depot new.depot made.logs)) }
falls_by n old new x y (call.Cache h (Look name)) (by.Cache (Busy holder)) made near = record { which = inr (inr (h, name, holder, refl, refl)) }
falls_by n old new x y (call.Cache h c) (by.Cache (Busy holder)) made near = absurd made.replies.2
falls_by n old new x y (call.Cache h c) (by.Cache reply) made near = record { which = inl (near, keys_same old new made.start made.others.2) }
falls_by n old new x y (call.Device h c) (by.Device reply) made near = record { which = inl (near, keys_same old new made.start made.others.2) }
falls_by n old new x y (call.Node h c) (by.Node reply) made near = record { which = inl (near, keys_same old new made.start made.others.2) }
falls_by n old new x y c reply made near = absurd made.replies

-- ---- Busy leaves the objects

pub list_same : {X : Type 0} (xs ys : List X) → ((i : ℕ) → slice_get ys i ≡ slice_get xs i) → ys ≡ xs
list_same [] [] h = refl
list_same [] (y ∷ ys) h = absurd (let e = h 0 in cc)
list_same (x ∷ xs) [] h = absurd (let e = h 0 in cc)
list_same (x ∷ xs) (y ∷ ys) h =
    let e : Some y ≡ Some x = h 0 in
    let head : y ≡ x = cc in
    let rest : ys ≡ xs = list_same xs ys (λ i. h (suc i)) in
    λ t. head t ∷ rest t

replaced_same : {X : Type 0} (xs ys : List X) (n : ℕ) (x : X) → slice_get xs n ≡ Some x → IsReplaced xs n x ys → ys ≡ xs
replaced_same xs ys n x got r = list_same xs ys (λ i. by i (same_or_not i n))
  where
    by : (i : ℕ) → (i ≡ n) ⊎ (i ≢ n) → slice_get ys i ≡ slice_get xs i
    by i (inl e) = ap (slice_get ys) e ∙ r.here ∙ sym got ∙ ap (slice_get xs) (sym e)
    by i (inr ne) = r.others i ne

busy_same : (n h : ℕ) (name : Name) (holder : ℕ) (old new : Objects) → Calls n (call.Cache h (Look name)) (by.Cache (Busy holder)) old new → new ≡ old
busy_same n h name holder old new made =
    let l = made.logs in
    let here : IsReplaced old.caches h l.0 new.caches = subst (λ log. IsReplaced old.caches h (record { capacity = l.0.capacity; log = log }) new.caches) l.3 l.4 in
    let caches_same : new.caches ≡ old.caches = replaced_same old.caches new.caches h l.0 l.2 here in
    λ t. record { devices = made.others.0 t; caches = caches_same t; nodes = made.others.1 t; start = made.start t; depot = made.others.2 t }

-- ---- the weight

sum_new : (xs : List actor.Seen) (i : ℕ) (a after : actor.Seen) → slice_get xs i ≡ Some a → sum_by left (set xs i after) + left a ≡ sum_by left xs + left after
sum_new xs i a after got =
    subst (λ (x : actor.Seen). sum_by left (set xs i after) + left x ≡ sum_by left xs + left after) (get_or_from_slice_get xs i a a got) (sum_by-set left xs i after a (slice_get_within xs i a got))

weight_falls : (old new olds news x y : ℕ) → news + x ≡ olds + y → y + 1 ≤ x → new ≤ old + 1 → 2 * news + new < 2 * olds + old
weight_falls old new olds news x y s h k = omega (arith, s, h, k)

weight_removed : (old new olds news x y : ℕ) → news + x ≡ olds + y → y ≤ x → new + 1 ≤ old → 2 * news + new < 2 * olds + old
weight_removed old new olds news x y s h k = omega (arith, s, h, k)

weight_stays : (old new olds news x y : ℕ) → news + x ≡ olds + y → y ≤ x → new ≡ old → 2 * news + new ≤ 2 * olds + old
weight_stays old new olds news x y s h k = omega (arith, s, h, k)

idled_falls : {O : Type 0} (old new : Seen O) (i : ℕ) (a : actor.Seen) → slice_get old.actors i ≡ Some a → Idled old i a new → weight_of new < weight_of old
idled_falls {O} old new i a got idled =
    let mid : Seen O = record old { actors = set old.actors i idled.after } in
    let sums : sum_by left mid.actors + left a ≡ sum_by left old.actors + left idled.after = sum_new old.actors i a idled.after got in
    let falls : weight_of mid < weight_of old = weight_falls (keys_of (objects_of old)) (keys_of (objects_of old)) (sum_by left old.actors) (sum_by left mid.actors) (left a) (left idled.after) sums idled.passed.nears (omega arith) in
    subst (λ (w : Seen O). weight_of w < weight_of old) (sym idled.kept) falls

module _ {O : Type 0} (laws : Laws) (objects : O → Option Stored) (faults : O → ℕ) (context : Context) (hosts : ℕ) (old new : Seen O) (i : ℕ) (a : actor.Seen) (c : ActorCall) (reply : ActorReply)
    (is : IsWorld context hosts old) (got : slice_get old.actors i ≡ Some a) (going : a.now ≢ over) (step : Called objects faults old i a c reply new) where
  sums : sum_by left new.actors + left a ≡ sum_by left old.actors + left step.after
  sums = ap (λ (xs : List actor.Seen). sum_by left xs + left a) step.actors ∙ sum_new old.actors i a step.after got

  nears : Nears (seen_reply reply) (left a) (left step.after)
  nears = near laws objects faults context hosts old new i a c reply is got going step

  rdy : IsReady (objects_of old) a
  rdy = ready context hosts old i a is got

  pub busy : BusyCall c reply → IsBusy old i new
  unfolding BusyCall HasCall
  busy b =
      let h : ℕ = b.0 in
      let name : Name = b.1 in
      let holder : ℕ = b.2 in
      let looking : actor.Calls a (call.Cache h (Look name)) = subst (actor.Calls a) b.3 step.asks in
      let calling : Calls a.number (call.Cache h (Look name)) (by.Cache (Busy holder)) (objects_of old) (objects_of new) =
      subst (λ (r : ActorReply). Calls a.number (call.Cache h (Look name)) r (objects_of old) (objects_of new)) b.4 (subst (λ (x : ActorCall). Calls a.number x reply (objects_of old) (objects_of new)) b.3 step.called) in
      let job = looks_now h name a a.now rdy.is.now looking.asked in
      let same : objects_of new ≡ objects_of old = busy_same a.number h name holder (objects_of old) (objects_of new) calling in
      let machine = calling.replies in
      let held = laws.busy.holder h machine.0.capacity a.number holder machine.0.log name (laws.legal machine.0.capacity machine.0.log (rdy.made.caches h machine.0 machine.1)) machine.2 in
      record {
        number = a.number;
        waits = record {
          none = laws.looks (objects_of old) a h name rdy looking;
          holder = holder;
          host = h;
          other = held.1;
          holds = subst (λ (o : Option (Sized CacheCall CacheReply)). IsSome (out_after (claim_by h) None (own_in h holder (log_of o)))) (sym machine.1) held.0;
        };
        calls = (i, length a.account.results, job.0, job.1, (part_of a, part_at old i a got, job.2));
        same = same;
        weight = weight_stays (keys_of (objects_of old)) (keys_of (objects_of new)) (sum_by left old.actors) (sum_by left new.actors) (left a) (left step.after) sums (nears_less (seen_reply reply) (left a) (left step.after) nears) (ap keys_of same);
        is = λ x e. let e' : Some x ≡ Some a = sym e ∙ got in let s : x ≡ a = cc in ap (λ (y : actor.Seen). y.number) s;
      }

  falls_or : FallsBy c reply (left a) (left step.after) (keys_of (objects_of old)) (keys_of (objects_of new)) → (weight_of new < weight_of old) ⊎ IsBusy old i new
  falls_or f = by f.which
    where
      by : ((left step.after + 1 ≤ left a) × (keys_of (objects_of new) ≤ keys_of (objects_of old) + 1)) ⊎ (((left step.after ≤ left a) × (keys_of (objects_of new) + 1 ≤ keys_of (objects_of old))) ⊎ BusyCall c reply)
          → (weight_of new < weight_of old) ⊎ IsBusy old i new
      by (inl h) = inl (weight_falls (keys_of (objects_of old)) (keys_of (objects_of new)) (sum_by left old.actors) (sum_by left new.actors) (left a) (left step.after) sums h.0 h.1)
      by (inr (inl h)) = inl (weight_removed (keys_of (objects_of old)) (keys_of (objects_of new)) (sum_by left old.actors) (sum_by left new.actors) (left a) (left step.after) sums h.0 h.1)
      by (inr (inr b)) = inr (busy b)

  pub called_falls : (weight_of new < weight_of old) ⊎ IsBusy old i new
  called_falls = falls_or (falls_by a.number (objects_of old) (objects_of new) (left a) (left step.after) c reply step.called nears)

goes_by : {O : Type 0} (laws : Laws) (objects : O → Option Stored) (faults : O → ℕ) (context : Context) (hosts : ℕ) (old new : Seen O) (i : ℕ) (a : actor.Seen) (t : Turn) (now : Now) → a.now ≡ now → t ≡ turn_of now → IsWorld context hosts old → slice_get old.actors i ≡ Some a
    → StepsNow objects faults (λ reply. ⊤) now old i a new → Goes t old i new
goes_by laws objects faults context hosts old new i a t over e s is got step = subst (λ (x : Turn). Goes x old i new) (sym s) step
goes_by laws objects faults context hosts old new i a t idles e s is got step = subst (λ (x : Turn). Goes x old i new) (sym s) (inl (idled_falls old new i a got step))
goes_by laws objects faults context hosts old new i a t (works r) e s is got step =
    subst (λ (x : Turn). Goes x old i new) (sym s) (called_falls laws objects faults context hosts old new i a step.0 step.1 is got (λ o. absurd (cc)) step.2)
goes_by laws objects faults context hosts old new i a t (reaps made) e s is got step =
    subst (λ (x : Turn). Goes x old i new) (sym s) (called_falls laws objects faults context hosts old new i a step.0 step.1 is got (λ o. absurd (cc)) step.2)

pub goes : {O : Type 0} (laws : Laws) (objects : O → Option Stored) (faults : O → ℕ) (context : Context) (hosts : ℕ) (old new : Seen O) (i : ℕ) (t : Turn) → IsWorld context hosts old → Turned objects faults old i t new → Goes t old i new
goes laws objects faults context hosts old new i t is turned = goes_by laws objects faults context hosts old new i turned.0 t turned.0.now refl turned.2 is turned.1 turned.3
