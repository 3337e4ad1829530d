-- A device call takes each reply of the called object.
use Rattle.std.specs.Prelude.{IsNone}
use Rattle.std.proofs.Common.{◌≡◌, ◌≤◌, ◌<◌, ◌*◌, ℕ, suc, List, [], ◌∷◌, length, map, Bool, true, false, Option, Some, None, slice_get, refl, sym, ap, ◌∙◌, subst, arith}
use Rattle.std.specs.Arc.{arc_value}
use Rattle.std.specs.List.{AllByRecursion, Contains}
use Rattle.std.specs.FinMap as map
use Rattle.std.specs.declared.sync.Arc.{Arc}
use Rattle.std.specs.declared.alloc.Global.{Global}
use Rattle.lr_manifest.specs.declared.name.Name.{Name}
use Rattle.lr_object.specs.Kept.{Sized}
use Rattle.lr_object.specs.declared.id.ObjectId.TheVariants.{Device, Cache}
use Rattle.lr_convergent.specs.declared.piece.KeptPiece.{KeptPiece}
use Rattle.lr_device.specs.declared.call.DeviceCall.{DeviceCall}
use Rattle.lr_device.specs.declared.step.DeviceStep.TheVariants as asks
use Rattle.lr_device.specs.declared.step.DeviceNoted.{DeviceNoted}
use Rattle.lr_device.specs.declared.step.DeviceAnswer.{DeviceAnswer}
use Rattle.lr_device.specs.declared.step.DeviceAnswer.TheVariants as told
use Rattle.lr_device.specs.Demand.{demand}
use Rattle.lr_device.specs.Machine.{OpenPlan, plan_of, run}
use Rattle.lr_device.specs.Answers.{lacking, needs_of, is_small}
use Rattle.lr_device.specs.Answers as device
use Rattle.lr_device.proofs.Exact.{demand_within}
use Rattle.lr_device.proofs.Grounds.{suits_enough}
use Rattle.lr_cache.specs.declared.call.CacheCall.{CacheCall}
use Rattle.lr_cache.specs.declared.call.CacheCall.TheVariants as cached
use Rattle.lr_cache.specs.declared.call.CacheReply.{CacheReply}
use Rattle.lr_cache.specs.declared.call.CacheReply.TheVariants as hit
use Rattle.lr_claims.proofs.Public.{legal}
use Rattle.lr_depot.specs.Depot.{state}
use Rattle.lr_depot.specs.declared.call.DepotCall.TheVariants as depot
use Rattle.lr_walk.specs.declared.place.LoadPlace.{LoadPlace}
use Rattle.lr_walk.specs.declared.trail.Answer.{Answer}
use Rattle.lr_walk.specs.Steps.{Call, on_device, on_cache, on_node, on_depot, Reply, by_device, by_cache, by_node, by_depot, Answers}
use Rattle.lr_walk.specs.Load.{look_of, fetch_of, fill_of, give_up_of}
use Rattle.lr_walk.specs.Depot as depots
use Rattle.lr_walk.specs.Cache as caches
use Rattle.lr_walk.specs.Node as nodes
use Rattle.lr_walk.specs.Device as devices
use Rattle.lr_walk.specs.Calls.{DevicePlace}
use Rattle.lr_loader.specs.Progress as loads
use Rattle.lr_history.specs.Ready.{claim_by, FitsClaim, plan_by, FitsPlan, out_after, own_of, own_in}
use Rattle.lr_actors.specs.declared.action.ActorCall.{ActorCall}
use Rattle.lr_actors.specs.declared.action.ActorCall.TheVariants as call
use Rattle.lr_actors.specs.declared.action.ActorReply.{ActorReply}
use Rattle.lr_actors.specs.declared.action.ActorReply.TheVariants as by
use Rattle.lr_actors.specs.declared.running.Running.{Running}
use Rattle.lr_actors.specs.declared.running.Running.TheVariants as running
use Rattle.lr_actors.specs.Asked.{a_call, HandsCall, seen_reply}
use Rattle.lr_actors.specs.Serving.{Work, Chunk, Left, Need, planning, loading, committing, dropping, ended, asked_by, HasChunk, HasLease, Admits, IsLoadAt, IsAtPlace, indices, Knows, IsPlanned}
use Rattle.lr_actors.specs.Serving as serving
use Rattle.lr_actors.specs.Actor.{Seen, works, FitsNow, StandsNow}
use Rattle.lr_replies.specs.Objects.{Objects, log_of, own_lists, Replies}
use Rattle.lr_replies.specs.Replies.{IsOut, IsReady}
use Rattle.lr_replies.proofs.Tables.{answers_call, never_ended, never_uncalled, fetched_only}
use Rattle.lr_replies.proofs.Hands.{the_fetch, the_look, the_fill, the_give_up, the_plan, the_drop, IsCommit, the_commit}
use Rattle.lr_replies.proofs.Told.{Told, told_in, HasTold, Holds, told_holds, serves_now}
use Rattle.lr_replies.proofs.Out.{told_by, from_told}
use Rattle.lr_replies.proofs.Under.{Laws, IsHome, home_of, job, under, plan_out, told_out, fits_claim, fits_plan, lease_out}
use Rattle.lr_replies.proofs.Facts.{same_some, none_some}

-- ---- lists

contains_more : {X : Type 0} (y : X) (xs : List X) (x : X) → Contains xs x → Contains (y ∷ xs) x
contains_more y xs x h = (suc h.0, omega (arith, h.1), h.2)

contains_all : {X : Type 0} (P : X → Type 0) (xs : List X) → ((x : X) → Contains xs x → P x) → AllByRecursion P xs
contains_all P [] h = tt
contains_all P (x ∷ xs) h = (h x (0, omega arith, refl), contains_all P xs (λ y c. h y (contains_more x xs y c)))

-- ---- replies of other objects

no_fetch : (place : LoadPlace) (n : ℕ) (c : nodes.Call) (r : Reply) → Answers (on_node n c) r → HasLease r × loads.HasName place r
no_fetch place n c (by_node x) a = (tt, tt)
no_fetch place n c (by_depot x) a = absurd a
no_fetch place n c (by_device x) a = absurd a
no_fetch place n c (by_cache x) a = absurd a

no_fetch_cached : (place : LoadPlace) (n : ℕ) (c : caches.Call) (r : Reply) → Answers (on_cache n c) r → HasLease r × loads.HasName place r
no_fetch_cached place n c (by_cache x) a = (tt, tt)
no_fetch_cached place n c (by_depot x) a = absurd a
no_fetch_cached place n c (by_device x) a = absurd a
no_fetch_cached place n c (by_node x) a = absurd a

no_claim_node : (need : loads.Need) (n : ℕ) (c : nodes.Call) (r : Reply) → Answers (on_node n c) r → loads.HasClaim need r
no_claim_node need n c (by_node x) a = tt
no_claim_node need n c (by_depot x) a = absurd a
no_claim_node need n c (by_device x) a = absurd a
no_claim_node need n c (by_cache x) a = absurd a

no_claim_depot : (need : loads.Need) (c : depots.Call) (r : Reply) → Answers (on_depot c) r → loads.HasClaim need r
no_claim_depot need c (by_depot x) a = tt
no_claim_depot need c (by_node x) a = absurd a
no_claim_depot need c (by_device x) a = absurd a
no_claim_depot need c (by_cache x) a = absurd a

is_none_some : {X P : Type 0} (o : Option X) (x : X) → o ≡ Some x → IsNone o → P
is_none_some None x e n = absurd (cc)
is_none_some (Some y) x e n = absurd (cc)

false_true : {P : Type 0} (b : Bool) → b ≡ false → b ≡ true → P
false_true b e f = absurd (cc)

module _ (laws : Laws) (w : Objects) (a : Seen) (ready : IsReady w a) (asked : ActorCall) (reply : ActorReply) (replies : Replies w a.number asked reply) where
  -- ---- the cache, to calls that fit

  claim_at : (h : ℕ) (c : Sized CacheCall CacheReply) (o : Option Name) → slice_get w.caches h ≡ Some c → out_after (claim_by h) None (own_lists w a.number (Cache h)) ≡ o → out_after (claim_by h) None (own_in h a.number c.log) ≡ o
  claim_at h c o at e = ap (λ (x : Option (Sized CacheCall CacheReply)). out_after (claim_by h) None (own_in h a.number (log_of x))) (sym at) ∙ e

  fits_at : (h : ℕ) (c : Sized CacheCall CacheReply) (x : Call) → slice_get w.caches h ≡ Some c → FitsClaim h (out_after (claim_by h) None (own_lists w a.number (Cache h))) x → FitsClaim h (out_after (claim_by h) None (own_in h a.number c.log)) x
  fits_at h c x at fits = subst (λ (o : Option Name). FitsClaim h o x) (sym (claim_at h c _ at refl)) fits

  cache_of : (h : ℕ) (c : CacheCall) → asked ≡ call.Cache h c → Replies w a.number (call.Cache h c) reply
  cache_of h c e = subst (λ (k : ActorCall). Replies w a.number k reply) e replies

  looked : (h : ℕ) (name : Name) (r : ActorReply) → Replies w a.number (call.Cache h (cached.Look name)) r → FitsClaim h (out_after (claim_by h) None (own_lists w a.number (Cache h))) (on_cache h (caches.looks name))
      → loads.HasClaim loads.looking (seen_reply r)
  looked h name (by.Cache hit.Held) d fits =
      absurd (laws.granted.look h d.0.capacity a.number d.0.log name (legal d.0.capacity d.0.log (ready.made.caches h d.0 d.1)) (fits_at h d.0 (on_cache h (caches.looks name)) d.1 fits) d.2)
  looked h name (by.Cache hit.NoClaim) d fits = absurd d.2
  looked h name (by.Cache x) d fits = tt
  looked h name r d fits = absurd d

  filled : (h : ℕ) (c : Arc (List ℕ) Global) (r : ActorReply) → Replies w a.number (call.Cache h (cached.Fill c)) r → FitsClaim h (out_after (claim_by h) None (own_lists w a.number (Cache h))) (on_cache h (caches.fills (arc_value c)))
      → (chunk : List ℕ) → loads.HasClaim (loads.filling chunk) (seen_reply r)
  filled h c (by.Cache hit.NoClaim) d fits chunk =
      absurd (laws.granted.fill h d.0.capacity a.number d.0.log c (legal d.0.capacity d.0.log (ready.made.caches h d.0 d.1)) (fits_at h d.0 (on_cache h (caches.fills (arc_value c))) d.1 fits) d.2)
  filled h c (by.Cache hit.Held) d fits chunk = absurd d.2
  filled h c (by.Cache x) d fits chunk = tt
  filled h c r d fits chunk = absurd d

  given : (h : ℕ) (r : ActorReply) → Replies w a.number (call.Cache h cached.GiveUp) r → FitsClaim h (out_after (claim_by h) None (own_lists w a.number (Cache h))) (on_cache h caches.gives_up)
      → (need : loads.Need) → loads.HasClaim need (seen_reply r)
  given h (by.Cache x) d fits need =
      let is : x ≡ hit.Given = laws.granted.give h d.0.capacity a.number d.0.log (legal d.0.capacity d.0.log (ready.made.caches h d.0 d.1)) (fits_at h d.0 (on_cache h caches.gives_up) d.1 fits) x d.2 in
      subst (λ (y : CacheReply). loads.HasClaim need (seen_reply (by.Cache y))) (sym is) tt
  given h r d fits need = absurd d

  -- ---- the device

  plan_at : (n : ℕ) (d : Sized DeviceNoted DeviceAnswer) (x : Call) → slice_get w.devices n ≡ Some d → FitsPlan n (out_after (plan_by n) None (own_lists w a.number (Device n))) x → FitsPlan n (out_after (plan_by n) None (own_of n a.number d.log)) x
  plan_at n d x at fits =
      subst (λ (o : Option DeviceCall). FitsPlan n o x) (sym (ap (λ (x : Option (Sized DeviceNoted DeviceAnswer)). out_after (plan_by n) None (own_of n a.number (log_of x))) (sym at))) fits

  device_of : (n : ℕ) (c : _) → asked ≡ call.Device n c → Replies w a.number (call.Device n c) reply
  device_of n c e = subst (λ (k : ActorCall). Replies w a.number k reply) e replies

  chunks_within : (place : DevicePlace) (size : ℕ) (written : ℕ → Bool) (c : DeviceCall) → size ≤ 524288 * length place.names → AllByRecursion (HasChunk place) (demand size written c)
  chunks_within place size written c h =
      contains_all (HasChunk place) (demand size written c) (λ i in_demand. within i (demand_within size written c i in_demand))
    where
      within : (i : ℕ) → 524288 * i < size → i < length place.names
      within i e = omega (arith, e, h)

  planned_by : (work : Work) (n : ℕ) (c : Arc DeviceCall Global) (r : ActorReply) → Replies w a.number (call.Device n (asks.Plan c)) r → slice_get a.context.devices n ≡ Some work.place
      → FitsPlan n (out_after (plan_by n) None (own_lists w a.number (Device n))) (on_device n (devices.plans (arc_value c))) → Admits work planning (seen_reply r)
  planned_by work n c (by.Device told.HasPlan) d home fits =
      absurd (laws.planned.plan n d.0.capacity a.number d.0.log c (ready.made.devices n d.0 d.1) (plan_at n d.0 (on_device n (devices.plans (arc_value c))) d.1 fits) d.2)
  planned_by work n c (by.Device (told.Planned needs pages)) d home fits =
      subst (AllByRecursion (HasChunk work.place)) (sym d.2.1)
      (chunks_within work.place d.0.capacity (run d.0.capacity d.0.log).written (arc_value c) (ready.made.sizes n d.0 work.place d.1 home))
  planned_by work n c (by.Device told.OutOfMemory) d home fits = tt
  planned_by work n c (by.Device x) d home fits = absurd d.2
  planned_by work n c r d home fits = absurd d

  dropped_by : (work : Work) (answer : Answer) (n : ℕ) (r : ActorReply) → Replies w a.number (call.Device n asks.Drop) r
      → FitsPlan n (out_after (plan_by n) None (own_lists w a.number (Device n))) (on_device n devices.drops) → Admits work (dropping answer) (seen_reply r)
  dropped_by work answer n (by.Device x) d fits =
      let is : x ≡ told.Dropped = laws.planned.drop n d.0.capacity a.number d.0.log (ready.made.devices n d.0 d.1) (plan_at n d.0 (on_device n devices.drops) d.1 fits) x d.2 in
      subst (λ (y : DeviceAnswer). Admits work (dropping answer) (seen_reply (by.Device y))) (sym is) tt
  dropped_by work answer n r d fits = absurd d

  -- the machine has the plan that the answer to the actor's own Plan told
  told_at : (n : ℕ) (d : Sized DeviceNoted DeviceAnswer) (t : Told) → slice_get w.devices n ≡ Some d → out_after (told_by n) None (own_lists w a.number (Device n)) ≡ Some t
      → HasTold d.capacity a.number (run d.capacity d.log) t
  told_at n d t at e =
      let is : told_in a.number d.log ≡ Some t =
      from_told n a.number d.log None ∙ ap (λ (x : Option (Sized DeviceNoted DeviceAnswer)). out_after (told_by n) None (own_of n a.number (log_of x))) (sym at) ∙ e in
      subst (Holds d.capacity a.number (run d.capacity d.log)) is (told_holds d.capacity d.log (ready.made.devices n d at) a.number)

  committed_by : (work : Work) (n pages : ℕ) (handed : List devices.Piece) (c : IsCommit asked n work.call pages handed) (r : ActorReply) → Replies w a.number (call.Device n (asks.Commit c.pieces c.room)) r
      → out_after (told_by n) None (own_lists w a.number (Device n)) ≡ Some (record { call = work.call; needs = indices handed; pages = pages }) → Admits work (committing pages handed) (seen_reply r)
  committed_by work n pages handed c (by.Device x) d e = each x d.2
    where
      t : Told
      t = record { call = work.call; needs = indices handed; pages = pages }

      size : ℕ
      size = d.0.capacity

      has : HasTold size a.number (run size d.0.log) t
      has = told_at n d.0 t d.1 e

      plan : OpenPlan
      plan = record { caller = a.number; call = work.call; pages = pages }

      needed : indices handed ≡ map (λ (p : KeptPiece). p.index) c.pieces.items
      needed = ap indices (sym c.handed_in) ∙ listed c.pieces.items
        where
          listed : (pieces : List KeptPiece) → indices (map devices.seen_piece pieces) ≡ map (λ (p : KeptPiece). p.index) pieces
          listed [] = refl
          listed (p ∷ pieces) = ap (λ (l : List ℕ). p.index ∷ l) (listed pieces)

      enough : (p : OpenPlan) → plan_of a.number (run size d.0.log) ≡ Some p → lacking (needs_of size (run size d.0.log) p) c.pieces.items ≡ None
      enough p f = subst (λ (q : OpenPlan). lacking (needs_of size (run size d.0.log) q) c.pieces.items ≡ None) (same_some _ plan p has.plan f) (serves_now size a.number (run size d.0.log) t c.pieces.items has needed)

      roomy : (p : OpenPlan) → plan_of a.number (run size d.0.log) ≡ Some p → is_small size p c.room ≡ false
      roomy p f = subst (λ (q : OpenPlan). is_small size q c.room ≡ false) (same_some _ plan p has.plan f) (suits_enough size plan c.room c.suits)

      each : (x : DeviceAnswer) → device.Answers size d.0.log a.number (asks.Commit c.pieces c.room) x → Admits work (committing pages handed) (by_device (devices.seen_reply x))
      each told.NoPlan g = is_none_some _ plan has.plan g
      each (told.Lacking i) g = none_some _ i (enough g.0 g.1) g.2
      each told.Small g = false_true _ (roomy g.0 g.1) g.3
      each (told.Committed x) g = tt
      each told.OutOfMemory g = false_true _ (roomy plan has.plan) (g plan has.plan (enough plan has.plan))
      each x g = absurd g
  committed_by work n pages handed c r d e = absurd d

  -- ---- the call under way

  module _ (device : ℕ) (work : Work) (prepared : Bool) where
    abbrev at_need : Need → Running
    at_need n = running.Serves device (record { work = work; need = n; ready = prepared })

    module _ (n : Need) (f : FitsNow (works (at_need n)) a) (s : StandsNow (works (at_need n)) a (own_lists w a.number)) where
      home : IsHome a.context (job laws w a ready (at_need n) f s) work
      home = home_of a.context _ work (under laws w a ready (at_need n) f s).is

      lease : IsOut w work.place
      lease = lease_out laws w a ready (at_need n) f s work home

    plans_takes : FitsNow (works (at_need planning)) a → StandsNow (works (at_need planning)) a (own_lists w a.number) → HandsCall asked (serving.asked work planning) → Admits work planning (seen_reply reply)
    plans_takes f s h =
        let c = the_plan asked work.device work.call h in
        let none : out_after (plan_by work.device) None (own_lists w a.number (Device work.device)) ≡ None =
        plan_out laws w a ready (at_need planning) f s work.device ∙ ap (out_after (plan_by work.device) None) s.1.3 in
        planned_by work work.device c.0 reply (device_of work.device (asks.Plan c.0) c.1) (home planning f s).here (λ e. none)

    drops_takes : (answer : Answer) → FitsNow (works (at_need (dropping answer))) a → StandsNow (works (at_need (dropping answer))) a (own_lists w a.number) → HandsCall asked (serving.asked work (dropping answer)) → Admits work (dropping answer) (seen_reply reply)
    drops_takes answer f s h =
        dropped_by work answer work.device reply (device_of work.device asks.Drop (the_drop asked work.device h))
        (fits_plan laws w a ready (at_need (dropping answer)) f s (on_device work.device devices.drops) (by_device devices.dropped) tt refl work.device)

    commits_takes : (pages : ℕ) (pieces : List devices.Piece) → FitsNow (works (at_need (committing pages pieces))) a → StandsNow (works (at_need (committing pages pieces))) a (own_lists w a.number)
        → HandsCall asked (serving.asked work (committing pages pieces)) → Admits work (committing pages pieces) (seen_reply reply)
    commits_takes pages pieces f s h =
        let c = the_commit asked work.device work.call pages pieces h in
        committed_by work work.device pages pieces c reply (device_of work.device (asks.Commit c.pieces c.room) c.is)
        (told_out laws w a ready (at_need (committing pages pieces)) f s work (indices pieces) pages s.1.3)

    -- the machine has the plan of the call
    pub commit_plan : (pages : ℕ) (pieces : List devices.Piece) → FitsNow (works (at_need (committing pages pieces))) a → StandsNow (works (at_need (committing pages pieces))) a (own_lists w a.number)
        → (d : Sized DeviceNoted DeviceAnswer) → slice_get w.devices work.device ≡ Some d → plan_of a.number (run d.capacity d.log) ≡ Some (record { caller = a.number; call = work.call; pages = pages })
    commit_plan pages pieces f s d at =
        (told_at work.device d (record { call = work.call; needs = indices pieces; pages = pages }) at (told_out laws w a ready (at_need (committing pages pieces)) f s work (indices pieces) pages s.1.3)).plan

    -- ---- a load

    module _ (chunk : Chunk) (left : Left) where
      abbrev place : LoadPlace
      place = chunk.place

      abbrev load_need : loads.Need → Need
      load_need need = loading chunk need left

      module _ (need : loads.Need) (f : FitsNow (works (at_need (load_need need))) a) (s : StandsNow (works (at_need (load_need need))) a (own_lists w a.number)) where
        -- the name of the chunk is that of its number, in the manifest of the lease
        named : (image : List ℕ) × (m : _) × (map.get (state w.start w.depot).desk.leases place.lease ≡ Some (image, m)) × (slice_get m.names place.index ≡ Some place.name)
        named =
            let at : IsLoadAt work place = (under laws w a ready (at_need (load_need need)) f s).home.1 in
            let out = lease (load_need need) f s in
            let e = at.is in (
              out.0,
              out.1,
              ap (λ (p : LoadPlace). map.get (state w.start w.depot).desk.leases p.lease) e ∙ out.2,
              ap (λ (names : List Name). slice_get names place.index) out.3 ∙ at.named ∙ ap (λ (p : LoadPlace). Some p.name) (sym e),
            )

      cached_takes : (need : loads.Need) (n : ℕ) (c : caches.Call) → loads.asked place need ≡ loads.a_call (on_cache n c) → HandsCall asked (a_call (on_cache n c)) → loads.HasClaim need (seen_reply reply) → Admits work (load_need need) (seen_reply reply)
      cached_takes need n c e h claim =
          let answers = answers_call w a.number asked reply (on_cache n c) h replies in
          let rest = no_fetch_cached place n c (seen_reply reply) answers in
          (record { answers = subst (λ (k : loads.Asked). loads.AnswersAsked k (seen_reply reply)) (sym e) answers; claim = claim; named = rest.1 }, rest.0)

      node_takes : (need : loads.Need) (n : ℕ) (c : nodes.Call) → loads.asked place need ≡ loads.a_call (on_node n c) → HandsCall asked (a_call (on_node n c)) → Admits work (load_need need) (seen_reply reply)
      node_takes need n c e h =
          let answers = answers_call w a.number asked reply (on_node n c) h replies in
          let rest = no_fetch place n c (seen_reply reply) answers in
          (record { answers = subst (λ (k : loads.Asked). loads.AnswersAsked k (seen_reply reply)) (sym e) answers; claim = no_claim_node need n c (seen_reply reply) answers; named = rest.1 }, rest.0)

      fetch_rest : (image : List ℕ) (m : _) → map.get (state w.start w.depot).desk.leases place.lease ≡ Some (image, m) → slice_get m.names place.index ≡ Some place.name → (r : ActorReply) → Replies w a.number (call.Depot (depot.Fetch place.lease place.index)) r
          → HasLease (seen_reply r) × loads.HasName place (seen_reply r)
      fetch_rest image m out name (by.Depot x) d = fetched_only (state w.start w.depot) a.number place image m x out name d
      fetch_rest image m out name r d = absurd d

      loads_takes : (need : loads.Need) → FitsNow (works (at_need (load_need need))) a → StandsNow (works (at_need (load_need need))) a (own_lists w a.number) → HandsCall asked (asked_by (loads.asked place need)) → Admits work (load_need need) (seen_reply reply)
      loads_takes loads.looking f s h =
          cached_takes loads.looking place.host (caches.looks place.name) refl h
          (looked place.host place.name reply (cache_of place.host (cached.Look place.name) (the_look asked place.host place.name h))
          (fits_claim laws w a ready (at_need (load_need loads.looking)) f s (look_of place) (by_cache caches.memory) (record { answers = tt; claim = tt; named = tt }, tt) refl place.host))
      loads_takes (loads.asking more held) f s h = node_takes (loads.asking more held) _ _ refl h
      loads_takes loads.fetching f s h =
          let answers = answers_call w a.number asked reply (fetch_of place) h replies in
          let out = named loads.fetching f s in
          let rest = fetch_rest out.0 out.1 out.2 out.3 reply (subst (λ (k : ActorCall). Replies w a.number k reply) (the_fetch asked place.lease place.index h) replies) in
          (record { answers = answers; claim = no_claim_depot loads.fetching (depots.fetches place.lease place.index) (seen_reply reply) answers; named = rest.1 }, rest.0)
      loads_takes (loads.putting bytes stripe more) f s h = node_takes (loads.putting bytes stripe more) _ _ refl h
      loads_takes (loads.filling bytes) f s h =
          let c = the_fill asked place.host bytes h in
          cached_takes (loads.filling bytes) place.host (caches.fills bytes) refl h
          (filled place.host c.0 reply (cache_of place.host (cached.Fill c.0) c.1)
          (subst (λ (b : List ℕ). FitsClaim place.host (out_after (claim_by place.host) None (own_lists w a.number (Cache place.host))) (on_cache place.host (caches.fills b))) (sym c.2)
          (fits_claim laws w a ready (at_need (load_need (loads.filling bytes))) f s (fill_of place bytes) (by_cache caches.memory) (record { answers = tt; claim = tt; named = tt }, tt) refl place.host)) bytes)
      loads_takes (loads.giving end) f s h =
          cached_takes (loads.giving end) place.host caches.gives_up refl h
          (given place.host reply (cache_of place.host cached.GiveUp (the_give_up asked place.host h))
          (fits_claim laws w a ready (at_need (load_need (loads.giving end))) f s (give_up_of place) (by_cache caches.given) (record { answers = tt; claim = tt; named = tt }, tt) refl place.host) (loads.giving end))
      loads_takes (loads.ended end) f s h = absurd (never_uncalled asked h)

    pub serves_takes : (n : Need) → FitsNow (works (at_need n)) a → StandsNow (works (at_need n)) a (own_lists w a.number) → HandsCall asked (serving.asked work n) → Admits work n (seen_reply reply)
    serves_takes planning f s h = plans_takes f s h
    serves_takes (loading chunk need left) f s h = loads_takes chunk left need f s h
    serves_takes (committing pages pieces) f s h = commits_takes pages pieces f s h
    serves_takes (dropping answer) f s h = drops_takes answer f s h
    serves_takes (ended answer) f s h = absurd (never_ended asked answer h)
