-- Who has ended holds nothing, and who crashed nothing that it has reaped.
use Rattle.std.proofs.Common.{◌≡◌, ◌<◌, ◌≤◌, ◌+◌, ℕ, List, [], ◌∷◌, ◌++◌, length, Bool, true, false, cond, nat_eq, Option, Some, None, slice_get, refl, ap, sym, subst, ◌∙◌, inl, inr, arith, eq-eqb, lt-ltb, le-ltb, eqb-true}
use Rattle.std.specs.Prelude.{◌≢◌, ◌⊎◌, nat_lt, if◌then◌else◌}
use Rattle.std.proofs.lemmas.List.Sums.{fold-append}
use Rattle.std.proofs.lemmas.Option.{slice_get_past}
use Rattle.std.proofs.lemmas.Bool.{cases_lt}
use Rattle.lr_object.specs.Kept.{Sized}
use Rattle.lr_object.specs.declared.id.ObjectId.{ObjectId}
use Rattle.lr_object.specs.declared.id.ObjectId.TheVariants.{Device, Cache, Node, Depot}
use Rattle.lr_device.specs.declared.step.DeviceNoted.{DeviceNoted}
use Rattle.lr_device.specs.declared.step.DeviceAnswer.{DeviceAnswer}
use Rattle.lr_device.specs.declared.step.DeviceAnswer.TheVariants as answered
use Rattle.lr_device.specs.declared.step.DeviceStep.TheVariants as asks
use Rattle.lr_device.specs.Answers.{Answers}
use Rattle.lr_cache.specs.declared.call.CacheCall.{CacheCall}
use Rattle.lr_cache.specs.declared.call.CacheCall.TheVariants as cached
use Rattle.lr_cache.specs.declared.call.CacheReply.{CacheReply}
use Rattle.lr_cache.specs.declared.call.CacheReply.TheVariants as told
use Rattle.lr_cache.specs.Machine.{CacheStep, run}
use Rattle.lr_walk.specs.Steps.{Call, on_device, on_cache, Reply, by_device, by_cache, by_depot, Step, step, object_of, is_memory}
use Rattle.lr_walk.specs.Depot as depots
use Rattle.lr_walk.specs.Cache as caches
use Rattle.lr_walk.specs.Device as devices
use Rattle.lr_walk.specs.Jobs.{Context}
use Rattle.lr_walk.specs.Trails.{Lists, is_same}
use Rattle.lr_history.specs.Ready.{claim_by, plan_by, out_after, own_in, own_of}
use Rattle.lr_actors.specs.Accounts.{Grows}
use Rattle.lr_actors.specs.declared.action.ActorCall.{ActorCall}
use Rattle.lr_actors.specs.declared.action.ActorCall.TheVariants as call
use Rattle.lr_actors.specs.declared.action.ActorReply.{ActorReply}
use Rattle.lr_actors.specs.declared.action.ActorReply.TheVariants as by
use Rattle.lr_actors.specs.declared.trail.ActorState.{ActorState}
use Rattle.lr_actors.specs.declared.trail.ActorState.TheVariants.{Unfinished, Ended, Crashed}
use Rattle.lr_actors.specs.Asked.{a_call, HandsCall, seen_reply}
use Rattle.lr_actors.specs.Actor as actor
use Rattle.lr_actors.specs.Actor.{Now, works, idles, reaps, over, IsActor, StandsFor, FitsNow, reap_at, reap_of, reap_place, reap_count, reaps_from, Reaps, GrowsBy}
use Rattle.lr_replies.specs.Objects.{Objects, log_of, own_lists, Replies}
use Rattle.lr_replies.specs.Replies.{AreMade}
use Rattle.lr_world.specs.Laws.{Laws, EndedHoldsNone}
use Rattle.lr_world.specs.World.{HasNoneOut, LetsGo}
use Rattle.lr_world.proofs.Leases.{same_or_not}

-- objects that are told to be the same are
same_is : (a b : ObjectId) → is_same a b ≡ true → a ≡ b
same_is (Device a) (Device b) e = ap Device (eqb-true a b e)
same_is (Cache a) (Cache b) e = ap Cache (eqb-true a b e)
same_is (Node a) (Node b) e = ap Node (eqb-true a b e)
same_is Depot Depot e = refl
same_is (Device a) (Cache b) e = absurd (cc)
same_is (Device a) (Node b) e = absurd (cc)
same_is (Device a) Depot e = absurd (cc)
same_is (Cache a) (Device b) e = absurd (cc)
same_is (Cache a) (Node b) e = absurd (cc)
same_is (Cache a) Depot e = absurd (cc)
same_is (Node a) (Device b) e = absurd (cc)
same_is (Node a) (Cache b) e = absurd (cc)
same_is (Node a) Depot e = absurd (cc)
same_is Depot (Device b) e = absurd (cc)
same_is Depot (Cache b) e = absurd (cc)
same_is Depot (Node b) e = absurd (cc)

pub lt_of : (m n : ℕ) → m ≤ n → m ≢ n → m < n
lt_of m n h ne = by (cases_lt m n)
  where
    by : (m < n) ⊎ (n ≤ m) → m < n
    by (inl l) = l
    by (inr l) = absurd (ne (omega (arith, h, l)))

-- ---- an actor of jobs

module _ (ended : EndedHoldsNone) (a : actor.Seen) (lists : Lists) (is : IsActor a) (stands : StandsFor a lists) (crash : a.state ≡ Crashed → a.now ≡ reaps 0) (o : ObjectId) where
  over_gone : (s : ActorState) → a.state ≡ s → a.now ≡ over → s ≢ Unfinished → HasNoneOut lists o
  over_gone Unfinished e now n = absurd (n refl)
  over_gone Ended e now n = ended a lists is e now stands o
  over_gone Crashed e now n = absurd (let c = crash e in cc)

  jobs_gone_by : (now : Now) → a.now ≡ now → FitsNow now a → LetsGo now a o → HasNoneOut lists o
  jobs_gone_by (works r) e f l = absurd l
  jobs_gone_by idles e f l = absurd l
  jobs_gone_by (reaps made) e f l = absurd (let c = crash f.0 in let zero_made : made ≡ 0 = cc in omega (arith, l, zero_made))
  jobs_gone_by over e f l = over_gone a.state refl e f.0

  pub jobs_gone : LetsGo a.now a o → HasNoneOut lists o
  jobs_gone = jobs_gone_by a.now refl is.now

-- ---- what a reap does

none_if : {X : Type 0} (b : Bool) (x : Option X) → b ≡ true → cond b None x ≡ None
none_if true x e = refl
none_if false x e = absurd (cc)

module _ (w : Objects) (n h : ℕ) where
  CacheReaped : ActorReply → Type 0
  CacheReaped reply = (seen_reply reply ≡ by_cache caches.reaped) ⊎ ((seen_reply reply ≡ by_cache caches.nothing) × (c : Sized CacheCall CacheReply) × (slice_get w.caches h ≡ Some c) × CacheStep (run c.capacity c.log) n cached.Reap told.Nothing)

  cache_at : (m : ℕ) (reply : ActorReply) → m ≡ h → Replies w n (call.Cache m cached.Reap) reply → CacheReaped reply
  unfolding CacheReaped
  cache_at m (by.Cache told.Reaped) e r = inl refl
  cache_at m (by.Cache told.Nothing) e r = inr (refl, r.0, subst (λ (k : ℕ). slice_get w.caches k ≡ Some r.0) e r.1, r.2)
  cache_at m (by.Cache x) e r = absurd r.2
  cache_at m reply e r = absurd r

  cache_reap : (asked : ActorCall) (reply : ActorReply) → HandsCall asked (a_call (on_cache h caches.reaps)) → Replies w n asked reply → CacheReaped reply
  cache_reap (call.Cache m cached.Reap) reply e r = cache_at m reply (cc) r
  cache_reap (call.Cache m (cached.Look name)) reply e r = absurd (cc)
  cache_reap (call.Cache m (cached.Fill chunk)) reply e r = absurd (cc)
  cache_reap (call.Cache m cached.GiveUp) reply e r = absurd (cc)
  cache_reap (call.Cache m cached.Evict) reply e r = absurd (cc)
  cache_reap (call.Device m (asks.Plan c)) reply e r = absurd (cc)
  cache_reap (call.Device m (asks.Commit pieces room)) reply e r = absurd e
  cache_reap (call.Device m asks.Drop) reply e r = absurd (cc)
  cache_reap (call.Device m asks.Reap) reply e r = absurd (cc)
  cache_reap (call.Node m c) reply e r = absurd (cc)
  cache_reap (call.Depot c) reply e r = absurd (cc)

  DeviceReaped : ActorReply → Type 0
  DeviceReaped reply = (seen_reply reply ≡ by_device devices.reaped) ⊎ ((seen_reply reply ≡ by_device devices.nothing) × (d : Sized DeviceNoted DeviceAnswer) × (slice_get w.devices h ≡ Some d) × Answers d.capacity d.log n asks.Reap answered.Nothing)

  device_at : (m : ℕ) (reply : ActorReply) → m ≡ h → Replies w n (call.Device m asks.Reap) reply → DeviceReaped reply
  unfolding DeviceReaped
  device_at m (by.Device answered.Reaped) e r = inl refl
  device_at m (by.Device answered.Nothing) e r = inr (refl, r.0, subst (λ (k : ℕ). slice_get w.devices k ≡ Some r.0) e r.1, r.2)
  device_at m (by.Device x) e r = absurd r.2
  device_at m reply e r = absurd r

  device_reap : (asked : ActorCall) (reply : ActorReply) → HandsCall asked (a_call (on_device h devices.reaps)) → Replies w n asked reply → DeviceReaped reply
  device_reap (call.Device m asks.Reap) reply e r = device_at m reply (cc) r
  device_reap (call.Device m (asks.Plan c)) reply e r = absurd (cc)
  device_reap (call.Device m (asks.Commit pieces room)) reply e r = absurd e
  device_reap (call.Device m asks.Drop) reply e r = absurd (cc)
  device_reap (call.Cache m c) reply e r = absurd (cc)
  device_reap (call.Node m c) reply e r = absurd (cc)
  device_reap (call.Depot c) reply e r = absurd (cc)

-- the step of a reap is behind its list
ends_claim : (host : ℕ) (own : List Step) → out_after (claim_by host) None (own ++ step (on_cache host caches.reaps) (by_cache caches.reaped) ∷ []) ≡ None
ends_claim host own =
    fold-append (λ o s. claim_by host o s.call s.reply) None own (step (on_cache host caches.reaps) (by_cache caches.reaped) ∷ [])
    ∙ none_if (nat_eq host host) (out_after (claim_by host) None own) (eq-eqb host host refl)

ends_plan : (device : ℕ) (own : List Step) → out_after (plan_by device) None (own ++ step (on_device device devices.reaps) (by_device devices.reaped) ∷ []) ≡ None
ends_plan device own =
    fold-append (λ o s. plan_by device o s.call s.reply) None own (step (on_device device devices.reaps) (by_device devices.reaped) ∷ [])
    ∙ none_if (nat_eq device device) (out_after (plan_by device) None own) (eq-eqb device device refl)

-- ---- the lists after a reap

reaps_more : (c : Call) (r : Reply) (more : List Step) → Reaps c r more → (more ≡ []) ⊎ (more ≡ step c r ∷ [])
reaps_more c (by_device devices.nothing) more h = inl h
reaps_more c (by_cache caches.nothing) more h = inl h
reaps_more c (by_depot depots.nothing) more h = inl h
reaps_more c r more h = inr h

others_by : (m b : Bool) (c : Call) (r : Reply) (lists after : Lists) (o : ObjectId) → is_same (object_of c) o ≡ b → b ≡ false → Grows m lists after (step c r) → after o ≡ lists o
others_by true b c r lists after o e f g = g o
others_by false true c r lists after o e f g = absurd (cc)
others_by false false c r lists after o e f g = g o ∙ ap (λ (x : Bool). cond x (lists o ++ step c r ∷ []) (lists o)) e

others_stay : (c : Call) (r : Reply) (more : List Step) (lists after : Lists) (o : ObjectId) → Reaps c r more → GrowsBy more lists after → is_same (object_of c) o ≡ false → after o ≡ lists o
others_stay c r more lists after o h g e = by (reaps_more c r more h)
  where
    by : (more ≡ []) ⊎ (more ≡ step c r ∷ []) → after o ≡ lists o
    by (inl n) = subst (λ (l : List Step). GrowsBy l lists after) n g o
    by (inr n) = others_by (is_memory r) (is_same (object_of c) o) c r lists after o refl e (subst (λ (l : List Step). GrowsBy l lists after) n g)

-- a logged reap is behind its list
grown_by : (c : Call) (r : Reply) (more : List Step) (lists after : Lists) (o : ObjectId) → more ≡ step c r ∷ [] → GrowsBy more lists after → is_memory r ≡ false → is_same (object_of c) o ≡ true → after o ≡ lists o ++ step c r ∷ []
grown_by c r more lists after o n g m e =
    let grows : Grows (is_memory r) lists after (step c r) = subst (λ (l : List Step). GrowsBy l lists after) n g in
    subst (λ (b : Bool). Grows b lists after (step c r)) m grows o ∙ ap (λ (x : Bool). cond x (lists o ++ step c r ∷ []) (lists o)) e

reap_cache : (x : ObjectId) (h : ℕ) → object_of (reap_of x) ≡ Cache h → reap_of x ≡ on_cache h caches.reaps
reap_cache (Device d) h e = absurd (cc)
reap_cache (Cache k) h e = let same : k ≡ h = cc in ap (λ (n : ℕ). on_cache n caches.reaps) same
reap_cache (Node k) h e = absurd (cc)
reap_cache Depot h e = absurd (cc)

reap_device : (x : ObjectId) (d : ℕ) → object_of (reap_of x) ≡ Device d → reap_of x ≡ on_device d devices.reaps
reap_device (Device k) d e = let same : k ≡ d = cc in ap (λ (n : ℕ). on_device n devices.reaps) same
reap_device (Cache k) d e = absurd (cc)
reap_device (Node k) d e = absurd (cc)
reap_device Depot d e = absurd (cc)

choose : {X : Type 0} (b : Bool) (x y : X) → b ≡ true → (if b then x else y) ≡ x
choose true x y e = refl
choose false x y e = absurd (cc)

skip : {X : Type 0} (b : Bool) (x y : X) → b ≡ false → (if b then x else y) ≡ y
skip true x y e = absurd (cc)
skip false x y e = refl

reap_at_device : (context : Context) (hosts d : ℕ) → d < length context.devices → reap_at context hosts d ≡ Device d
reap_at_device context hosts d h = choose (nat_lt d (length context.devices)) _ _ (lt-ltb d (length context.devices) h)

reap_at_cache : (context : Context) (hosts h : ℕ) → h < hosts → reap_at context hosts (length context.devices + h) ≡ Cache h
reap_at_cache context hosts h small =
    skip (nat_lt (length context.devices + h) (length context.devices)) _ _ (le-ltb (length context.devices + h) (length context.devices) (omega arith))
    ∙ choose (nat_lt (length context.devices + h) (length context.devices + hosts)) _ _ (lt-ltb (length context.devices + h) (length context.devices + hosts) (omega (arith, small)))
    ∙ ap Cache (omega arith)

module _ (laws : Laws) (old new : Objects) (n : ℕ) (context : Context) (hosts made : ℕ) (asked : ActorCall) (reply : ActorReply) (hands : HandsCall asked (a_call (reap_of (reap_at context hosts made)))) (replies : Replies old n asked reply)
    (was : AreMade old context hosts) (is : AreMade new context hosts) (more : List Step) (adds : Reaps (reap_of (reap_at context hosts made)) (seen_reply reply) more) (grows : GrowsBy more (own_lists old n) (own_lists new n))
    (gone : (o : ObjectId) → reap_place context hosts o < made → HasNoneOut (own_lists old n) o) where
  abbrev target : ObjectId
  target = object_of (reap_of (reap_at context hosts made))

  cache_called : (h : ℕ) → reap_of (reap_at context hosts made) ≡ on_cache h caches.reaps → CacheReaped old n h reply → HasNoneOut (own_lists new n) (Cache h)
  unfolding CacheReaped
  cache_called h c (inl e) =
      let adds_here : more ≡ step (on_cache h caches.reaps) (by_cache caches.reaped) ∷ [] =
      subst (λ (r : Reply). Reaps (on_cache h caches.reaps) r more) e (subst (λ (x : Call). Reaps x (seen_reply reply) more) c adds) in
      ap (out_after (claim_by h) None) (grown_by (on_cache h caches.reaps) (by_cache caches.reaped) more (own_lists old n) (own_lists new n) (Cache h) adds_here grows refl (eq-eqb h h refl))
      ∙ ends_claim h (own_lists old n (Cache h))
  cache_called h c (inr e) =
      let adds_here : more ≡ [] = subst (λ (r : Reply). Reaps (on_cache h caches.reaps) r more) e.0 (subst (λ (x : Call). Reaps x (seen_reply reply) more) c adds) in
      ap (out_after (claim_by h) None) (subst (λ (l : List Step). GrowsBy l (own_lists old n) (own_lists new n)) adds_here grows (Cache h))
      ∙ ap (λ (x : Option (Sized CacheCall CacheReply)). out_after (claim_by h) None (own_in h n (log_of x))) e.2
      ∙ laws.busy.reap h e.1.capacity n e.1.log (laws.legal e.1.capacity e.1.log (was.caches h e.1 e.2)) e.3

  device_called : (d : ℕ) → reap_of (reap_at context hosts made) ≡ on_device d devices.reaps → DeviceReaped old n d reply → HasNoneOut (own_lists new n) (Device d)
  unfolding DeviceReaped
  device_called d c (inl e) =
      let adds_here : more ≡ step (on_device d devices.reaps) (by_device devices.reaped) ∷ [] =
      subst (λ (r : Reply). Reaps (on_device d devices.reaps) r more) e (subst (λ (x : Call). Reaps x (seen_reply reply) more) c adds) in
      ap (out_after (plan_by d) None) (grown_by (on_device d devices.reaps) (by_device devices.reaped) more (own_lists old n) (own_lists new n) (Device d) adds_here grows refl (eq-eqb d d refl))
      ∙ ends_plan d (own_lists old n (Device d))
  device_called d c (inr e) =
      let adds_here : more ≡ [] = subst (λ (r : Reply). Reaps (on_device d devices.reaps) r more) e.0 (subst (λ (x : Call). Reaps x (seen_reply reply) more) c adds) in
      ap (out_after (plan_by d) None) (subst (λ (l : List Step). GrowsBy l (own_lists old n) (own_lists new n)) adds_here grows (Device d))
      ∙ ap (λ (x : Option (Sized DeviceNoted DeviceAnswer)). out_after (plan_by d) None (own_of d n (log_of x))) e.2
      ∙ laws.planned.reap d e.1.capacity n e.1.log (was.devices d e.1 e.2) e.3

  cache_by : (h : ℕ) (b : Bool) → is_same target (Cache h) ≡ b → h < hosts → length context.devices + h ≤ made → HasNoneOut (own_lists new n) (Cache h)
  cache_by h true s small place =
      let c : reap_of (reap_at context hosts made) ≡ on_cache h caches.reaps = reap_cache (reap_at context hosts made) h (same_is target (Cache h) s) in
      cache_called h c (cache_reap old n h asked reply (subst (λ (x : Call). HandsCall asked (a_call x)) c hands) replies)
  cache_by h false s small place =
      ap (out_after (claim_by h) None) (others_stay (reap_of (reap_at context hosts made)) (seen_reply reply) more (own_lists old n) (own_lists new n) (Cache h) adds grows s)
      ∙ gone (Cache h) (less (same_or_not (length context.devices + h) made))
    where
      less : (length context.devices + h ≡ made) ⊎ (length context.devices + h ≢ made) → length context.devices + h < made
      less (inr ne) = lt_of (length context.devices + h) made place ne
      less (inl e) =
          let at : reap_at context hosts made ≡ Cache h = ap (reap_at context hosts) (sym e) ∙ reap_at_cache context hosts h small in
          let yes : is_same target (Cache h) ≡ true = ap (λ (x : ObjectId). is_same (object_of (reap_of x)) (Cache h)) at ∙ eq-eqb h h refl in
          absurd (let no = s in cc)

  device_by : (d : ℕ) (b : Bool) → is_same target (Device d) ≡ b → d < length context.devices → d ≤ made → HasNoneOut (own_lists new n) (Device d)
  device_by d true s small place =
      let c : reap_of (reap_at context hosts made) ≡ on_device d devices.reaps = reap_device (reap_at context hosts made) d (same_is target (Device d) s) in
      device_called d c (device_reap old n d asked reply (subst (λ (x : Call). HandsCall asked (a_call x)) c hands) replies)
  device_by d false s small place =
      ap (out_after (plan_by d) None) (others_stay (reap_of (reap_at context hosts made)) (seen_reply reply) more (own_lists old n) (own_lists new n) (Device d) adds grows s)
      ∙ gone (Device d) (less (same_or_not d made))
    where
      less : (d ≡ made) ⊎ (d ≢ made) → d < made
      less (inr ne) = lt_of d made place ne
      less (inl e) =
          let at : reap_at context hosts made ≡ Device d = ap (reap_at context hosts) (sym e) ∙ reap_at_device context hosts d small in
          let yes : is_same target (Device d) ≡ true = ap (λ (x : ObjectId). is_same (object_of (reap_of x)) (Device d)) at ∙ eq-eqb d d refl in
          absurd (let no = s in cc)

  -- after it the actor holds nothing that it has reaped, nor at its end anything
  pub reap_gone : (o : ObjectId) → (reap_place context hosts o < made + 1) ⊎ (reap_count context hosts ≤ made + 1) → HasNoneOut (own_lists new n) o
  reap_gone (Node k) p = tt
  reap_gone Depot p = tt
  reap_gone (Cache h) p = by (cases_lt h hosts)
    where
      at : h < hosts → (length context.devices + h < made + 1) ⊎ (reap_count context hosts ≤ made + 1) → length context.devices + h ≤ made
      at small (inl q) = omega (arith, q)
      at small (inr q) = omega (arith, q, small)

      by : (h < hosts) ⊎ (hosts ≤ h) → HasNoneOut (own_lists new n) (Cache h)
      by (inl small) = cache_by h (is_same target (Cache h)) refl small (at small p)
      by (inr big) =
          ap (λ (x : Option (Sized CacheCall CacheReply)). out_after (claim_by h) None (own_in h n (log_of x))) (slice_get_past new.caches h (omega (arith, is.many.1, big)))
  reap_gone (Device d) p = by (cases_lt d (length context.devices))
    where
      at : d < length context.devices → (d < made + 1) ⊎ (reap_count context hosts ≤ made + 1) → d ≤ made
      at small (inl q) = omega (arith, q)
      at small (inr q) = omega (arith, q, small)

      by : (d < length context.devices) ⊎ (length context.devices ≤ d) → HasNoneOut (own_lists new n) (Device d)
      by (inl small) = device_by d (is_same target (Device d)) refl small (at small p)
      by (inr big) =
          ap (λ (x : Option (Sized DeviceNoted DeviceAnswer)). out_after (plan_by d) None (own_of d n (log_of x))) (slice_get_past new.devices d (omega (arith, is.many.0, big)))
