-- The fetches of a name for a host are no more than the claims on it in the host's cache.
use Rattle.std.proofs.Common.{◌≡◌, ◌≢◌, ◌≤◌, ℕ, suc, ◌+◌, List, [], ◌∷◌, length, map, filter, find, Bool, true, false, cond, nat_eq, Option, Some, None, slice_get, option_map, refl, sym, ap, subst, ◌∙◌, inl, inr, arith, eq-eqb, eqb-true}
use Rattle.std.specs.Prelude.{◌&&◌}
use Rattle.std.specs.List.{AllByRecursion, AllZip, Contains, flat_map}
use Rattle.std.specs.Str.{bytes_eq}
use Rattle.std.proofs.lemmas.Option.{slice_get-map}
use Rattle.lr_manifest.specs.declared.name.Name.{Name}
use Rattle.lr_object.specs.Own.{own_entries}
use Rattle.lr_object.specs.declared.id.ObjectId.TheVariants.{Cache, Depot}
use Rattle.lr_object.proofs.Counted.{hits, hits-append, found_passes, some_same}
use Rattle.lr_device.specs.declared.call.DeviceCall.{DeviceCall}
use Rattle.lr_device.specs.Machine.{run as made_by}
use Rattle.lr_device.proofs.Exact.{demand_has}
use Rattle.lr_walk.specs.declared.trail.JobResult.{JobResult}
use Rattle.lr_walk.specs.Steps.{on_cache, by_cache}
use Rattle.lr_walk.specs.Cache.{seen_call, seen_reply}
use Rattle.lr_walk.specs.Calls.{DevicePlace}
use Rattle.lr_walk.specs.Jobs.{Context}
use Rattle.lr_walk.specs.Trails.{Lists}
use Rattle.lr_cache.specs.declared.call.CacheCall.{CacheCall}
use Rattle.lr_cache.specs.declared.call.CacheCall.TheVariants.{Look, Fill, GiveUp, Evict, Reap}
use Rattle.lr_cache.specs.declared.call.CacheReply.{CacheReply}
use Rattle.lr_cache.specs.declared.call.CacheReply.TheVariants as cached
use Rattle.lr_cache.specs.Machine.{LogEntry}
use Rattle.lr_claims.specs.Leads.{is_lead_on, one_if, leads, LeadsAmong}
use Rattle.lr_claims.proofs.Public.{leads_few, legal}
use Rattle.lr_history.specs.Jobs.{JobSeen, calls, another, HasTrailSeen}
use Rattle.lr_history.specs.Run.{DeviceSeen, CacheSeen, ActorSeen, Run}
use Rattle.lr_history.specs.Premises.{numbers, AreDeviceLogs, size_of}
use Rattle.lr_history.specs.Lists.{own, cache_log, cache_entry, place_of, context_of, entries_in}
use Rattle.lr_history.specs.Histories.{HaveOwnNumbers, total}
use Rattle.lr_history.specs.Told.{Fetched, fetched_in, led_by, led_in, need}
use Rattle.lr_history.specs.OnDemand.{LoadMade, IsLoadOf, fetch_of, lead_of, WasDemanded}
use Rattle.lr_history.specs.Claims.{is_name_of, is_place_for, is_fetch_for, fetches_for, HaveOwnLeases, IsMet, IsMetName, FetchesAreFew}
use Rattle.lr_history.proofs.Facts.{all_append, all_front, all_back, all_weaker}
use Rattle.lr_history.proofs.Paths.{list_by_jobs}
use Rattle.lr_history.proofs.Among.{first, later}
use Rattle.lr_history.proofs.Logs.{caller_of}
use Rattle.lr_history.proofs.Naming.{fetched_step, fetched_on, led_step, led_on}
use Rattle.lr_history.proofs.Demanded.{Good, trail_good, zip_all}

abbrev is_it : List ℕ → Name → Bool
is_it x name = bytes_eq name.bytes x

filtered : {X : Type 0} (p : X → Bool) (xs : List X) → length (filter p xs) ≡ hits p xs
filtered p [] = refl
filtered p (x ∷ xs) = by (filtered p xs) (p x)
  where
    by : length (filter p xs) ≡ hits p xs → (b : Bool) → length (cond b (x ∷ filter p xs) (filter p xs)) ≡ one_if b + hits p xs
    by e true = omega arith
    by e false = omega arith

pub all_members : {X : Type 0} (xs : List X) → AllByRecursion (Contains xs) xs
all_members [] = tt
all_members {X} (x ∷ xs) = (first x xs, all_weaker (Contains xs) (Contains (x ∷ xs)) (λ y c. later x xs y c) xs (all_members xs))

pub all_and : {X : Type 0} (P Q : X → Type 0) (xs : List X) → AllByRecursion P xs → AllByRecursion Q xs → AllByRecursion (λ (x : X). P x × Q x) xs
all_and P Q [] h k = tt
all_and P Q (x ∷ xs) h k = ((h.0, k.0), all_and P Q xs h.1 k.1)

found_place : {X : Type 0} (p : X → Bool) (xs : List X) (y : X) → find p xs ≡ Some y → (i : ℕ) × (slice_get xs i ≡ Some y)
found_place p [] y e = absurd (cc)
found_place p (x ∷ xs) y e = by (found_place p xs y) (p x) e
  where
    by : (find p xs ≡ Some y → (i : ℕ) × (slice_get xs i ≡ Some y)) → (b : Bool) → cond b (Some x) (find p xs) ≡ Some y → (i : ℕ) × (slice_get (x ∷ xs) i ≡ Some y)
    by more true f = (0, f)
    by more false f = let r = more f in (suc r.0, r.1)

and_both : (a b : Bool) → (a && b) ≡ true → (a ≡ true) × (b ≡ true)
and_both true b e = (refl, e)
and_both false b e = absurd (cc)

-- ---- one load

module _ (context : Context) (host : ℕ) (x : List ℕ) (leases : HaveOwnLeases context) (device : ℕ) (place : DevicePlace) (at : slice_get context.devices device ≡ Some place) where
  abbrev has_lease : DevicePlace → Bool
  has_lease p = nat_eq p.lease place.lease

  -- a fetch that counts is of this host and this name
  tells : (index : ℕ) (name : Name) → slice_get place.names index ≡ Some name → (o : Option DevicePlace) → find has_lease context.devices ≡ o → is_place_for host x index o ≡ true
      → (nat_eq place.host host ≡ true) × (is_it x name ≡ true)
  tells index name n None e t = absurd (cc)
  tells index name n (Some q) e t =
      let q_lease : q.lease ≡ place.lease = eqb-true q.lease place.lease (found_passes has_lease context.devices q e) in
      let q_at = found_place has_lease context.devices q e in
      let same : q ≡ place = leases q_at.0 device q place q_at.1 at q_lease in
      let both = and_both (nat_eq place.host host) (is_name_of x (slice_get place.names index)) (subst (λ (z : DevicePlace). (nat_eq z.host host && is_name_of x (slice_get z.names index)) ≡ true) same t) in
      (both.0, sym (ap (is_name_of x) n) ∙ both.1)

  one_few : (l : LoadMade) → IsLoadOf place l → hits (is_fetch_for context host x) (fetch_of place l) ≤ hits (is_it x) (lead_of host place l)
  one_few l h = by l.fetched refl
    where
      counts : (b : Bool) → l.fetched ≡ true → is_fetch_for context host x (record { lease = place.lease; index = l.index }) ≡ b → one_if b + 0 ≤ hits (is_it x) (lead_of host place l)
      counts false f e = omega arith
      counts true f e =
          let t = tells l.index l.name h.named (find has_lease context.devices) refl e in
          rw (h.claimed f, t.0, t.1) (omega arith)

      by : (b : Bool) → l.fetched ≡ b → hits (is_fetch_for context host x) (cond b (record { lease = place.lease; index = l.index } ∷ []) []) ≤ hits (is_it x) (lead_of host place l)
      by false f = omega arith
      by true f = counts (is_fetch_for context host x (record { lease = place.lease; index = l.index })) f refl

  loads_few : (loads : List LoadMade) → AllByRecursion (IsLoadOf place) loads → hits (is_fetch_for context host x) (flat_map (fetch_of place) loads) ≤ hits (is_it x) (flat_map (lead_of host place) loads)
  loads_few [] h = omega arith
  loads_few (l ∷ loads) h =
      let now = one_few l h.0 in
      let more = loads_few loads h.1 in
      let a = hits-append (is_fetch_for context host x) (fetch_of place l) (flat_map (fetch_of place) loads) in
      let b = hits-append (is_it x) (lead_of host place l) (flat_map (lead_of host place) loads) in
      omega arith

-- ---- each job, each actor

there : (run : Run) (device : ℕ) (d : DeviceSeen) → slice_get run.devices device ≡ Some d → slice_get (context_of run).devices device ≡ Some (place_of d)
there run device d at = slice_get-map place_of run.devices device ∙ ap (option_map place_of) at

module _ (run : Run) (host : ℕ) (leases : HaveOwnLeases (context_of run)) (grown : AreDeviceLogs run) where
  abbrev fetched_of : Lists → JobResult → List Fetched
  fetched_of lists r = fetched_in (entries_in lists Depot r.path.items)

  abbrev pub led_of : Lists → JobResult → List Name
  led_of lists r = led_in host (entries_in lists (Cache host) r.path.items)

  job_few : (x : List ℕ) (number : ℕ) (lists : Lists) (job : JobSeen) (r : JobResult) → Good run number lists job r.path.items
      → hits (is_fetch_for (context_of run) host x) (fetched_of lists r) ≤ hits (is_it x) (led_of lists r)
  job_few x number lists another r h = rw h.fetches (omega arith)
  job_few x number lists (calls device call) r (inl h) = rw h.fetches (omega arith)
  job_few x number lists (calls device call) r (inr h) = rw (h.2.fetches, h.2.leads host) (loads_few (context_of run) host x leases device (place_of h.0) (there run device h.0 h.1) h.2.loads h.2.each)

  jobs_few : (x : List ℕ) (number : ℕ) (lists : Lists) (jobs : List JobSeen) (results : List JobResult) → AllZip (λ (job : JobSeen) (r : JobResult). Good run number lists job r.path.items) jobs results
      → hits (is_fetch_for (context_of run) host x) (flat_map (fetched_of lists) results) ≤ hits (is_it x) (flat_map (led_of lists) results)
  jobs_few x number lists [] [] h = omega arith
  jobs_few x number lists [] (r ∷ results) h = absurd h
  jobs_few x number lists (job ∷ jobs) [] h = absurd h
  jobs_few x number lists (job ∷ jobs) (r ∷ results) h =
      let now = job_few x number lists job r h.0 in
      let more = jobs_few x number lists jobs results h.1 in
      let a = hits-append (is_fetch_for (context_of run) host x) (fetched_of lists r) (flat_map (fetched_of lists) results) in
      let b = hits-append (is_it x) (led_of lists r) (flat_map (led_of lists) results) in
      omega arith

  actor_few : (x : List ℕ) (a : ActorSeen) → HasTrailSeen (context_of run) (own run a.number) a.jobs a.results
      → fetches_for run host x a ≤ hits (is_it x) (led_in host (own run a.number (Cache host)))
  actor_few x a h =
      let lists : Lists = own run a.number in
      let f = list_by_jobs fetched_step Depot fetched_on lists a.results (h.counted Depot) (h.beyond Depot) in
      let l = list_by_jobs (led_step host) (Cache host) (led_on host) lists a.results (h.counted (Cache host)) (h.beyond (Cache host)) in
      let few = jobs_few x a.number lists a.jobs a.results (trail_good run grown a h) in
      let a_few = filtered (is_fetch_for (context_of run) host x) (fetched_in (lists Depot)) in
      let f_is : hits (is_fetch_for (context_of run) host x) (fetched_in (lists Depot)) ≡ hits (is_fetch_for (context_of run) host x) (flat_map (fetched_of lists) a.results) = ap (hits (is_fetch_for (context_of run) host x)) f in
      let l_is : hits (is_it x) (led_in host (lists (Cache host))) ≡ hits (is_it x) (flat_map (led_of lists) a.results) = ap (hits (is_it x)) l in
      omega arith

  -- ---- each name claimed is one that a call meets

  abbrev IsMetOne : Name → Type 0
  IsMetOne name = IsMetName run host name.bytes

  is_met : (call : DeviceCall) {device index caller : ℕ} (w : WasDemanded run (need call index) device caller) → IsMet (size_of w.seen) call index
  is_met call {index = index} w =
      let h = demand_has (size_of w.seen) (made_by (size_of w.seen) w.before).written call index w.demanded in
      record { within = h.0; page = h.1.0; there = h.1.1; low = h.1.2.low; high = h.1.2.high }

  loads_met : (a : ActorSeen) (device : ℕ) (call : DeviceCall) (d : DeviceSeen) (loads : List LoadMade) → Contains run.actors a → Contains a.jobs (calls device call) → slice_get run.devices device ≡ Some d
      → AllByRecursion (IsLoadOf (place_of d)) loads → AllByRecursion (λ (l : LoadMade). WasDemanded run (need call l.index) device a.number) loads → AllByRecursion IsMetOne (flat_map (lead_of host (place_of d)) loads)
  loads_met a device call d [] acts c at h w = tt
  loads_met a device call d (l ∷ loads) acts c at h w =
      all_append IsMetOne (lead_of host (place_of d) l) (flat_map (lead_of host (place_of d)) loads) (by l.led (nat_eq d.line.host host) refl) (loads_met a device call d loads acts c at h.1 w.1)
    where
      same : w.0.seen ≡ d
      same = some_same w.0.seen d (sym w.0.at ∙ at)

      by : (b k : Bool) → nat_eq d.line.host host ≡ k → AllByRecursion IsMetOne (cond (b && k) (l.name ∷ []) [])
      by false k e = tt
      by true false e = tt
      by true true e = (
        record {
          device = device;
          seen = d;
          actor = a;
          call = call;
          chunk = l.index;
          name = l.name;
          at = at;
          hosted = eqb-true d.line.host host e;
          acts = acts;
          called = c;
          met = subst (λ (z : DeviceSeen). IsMet (size_of z) call l.index) same (is_met call w.0);
          named = h.0.named;
          is = refl;
        },
        tt,
      )

  job_met : (a : ActorSeen) → Contains run.actors a → (job : JobSeen) (r : JobResult) → Contains a.jobs job → Good run a.number (own run a.number) job r.path.items → AllByRecursion IsMetOne (led_of (own run a.number) r)
  job_met a acts another r c h = subst (λ (l : List Name). AllByRecursion IsMetOne l) (sym (h.leads host)) tt
  job_met a acts (calls device call) r c (inl h) = subst (λ (l : List Name). AllByRecursion IsMetOne l) (sym (h.leads host)) tt
  job_met a acts (calls device call) r c (inr h) =
      subst (λ (l : List Name). AllByRecursion IsMetOne l) (sym (h.2.leads host)) (loads_met a device call h.0 h.2.loads acts c h.1 h.2.each h.3)

  actor_met : (a : ActorSeen) → Contains run.actors a → HasTrailSeen (context_of run) (own run a.number) a.jobs a.results → AllByRecursion IsMetOne (led_in host (own run a.number (Cache host)))
  actor_met a acts h =
      let lists : Lists = own run a.number in
      subst (λ (l : List Name). AllByRecursion IsMetOne l)
      (sym (list_by_jobs (led_step host) (Cache host) (led_on host) lists a.results (h.counted (Cache host)) (h.beyond (Cache host))))
      (zip_all (λ (job : JobSeen) (r : JobResult). Good run a.number lists job r.path.items) IsMetOne (led_of lists) a.jobs a.results (job_met a acts) (trail_good run grown a h))

-- ---- a cache's log and its callers' own lists

abbrev pub own_led : ℕ → ℕ → List LogEntry → List Name
own_led host n log = led_in host (map (cache_entry host) (own_entries n log))

abbrev pub entry_led : ℕ → LogEntry → List Name
entry_led host e = led_by host (on_cache host (seen_call e.call)) (by_cache (seen_reply e.reply))

led_entry : (host : ℕ) (x : List ℕ) (call : CacheCall) (reply : CacheReply) → hits (is_it x) (led_by host (on_cache host (seen_call call)) (by_cache (seen_reply reply))) ≡ one_if (is_lead_on x call reply)
led_entry host x (Look name) cached.Lead = rw (eq-eqb host host refl) (omega arith)
led_entry host x (Look name) reply = refl
led_entry host x (Fill chunk) reply = refl
led_entry host x GiveUp reply = refl
led_entry host x Evict reply = refl
led_entry host x Reap reply = refl

own_count : (host n : ℕ) (x : List ℕ) (e : LogEntry) (log : List LogEntry) (b : Bool)
    → hits (is_it x) (led_in host (map (cache_entry host) (cond b (e ∷ own_entries n log) (own_entries n log))))
    ≡ cond b (one_if (is_lead_on x e.call e.reply)) 0 + hits (is_it x) (own_led host n log)
own_count host n x e log true =
    let a = hits-append (is_it x) (entry_led host e) (own_led host n log) in
    let b = led_entry host x e.call e.reply in
    omega arith
own_count host n x e log false = omega arith

total_zero : (f : ActorSeen → ℕ) (actors : List ActorSeen) → ((a : ActorSeen) → f a ≡ 0) → total f actors ≡ 0
total_zero f [] h = refl
total_zero f (a ∷ actors) h = let e = h a in let more = total_zero f actors h in omega arith

total_none : (c k : ℕ) (actors : List ActorSeen) → AllByRecursion (λ (b : ActorSeen). b.number ≢ c) actors → total (λ (a : ActorSeen). cond (nat_eq c a.number) k 0) actors ≡ 0
total_none c k [] h = refl
total_none c k (a ∷ actors) h = by (nat_eq c a.number) refl (total_none c k actors h.1)
  where
    by : (b : Bool) → nat_eq c a.number ≡ b → total (λ (a : ActorSeen). cond (nat_eq c a.number) k 0) actors ≡ 0 → cond b k 0 + total (λ (a : ActorSeen). cond (nat_eq c a.number) k 0) actors ≡ 0
    by true t e = absurd (h.0 (sym (eqb-true c a.number t)))
    by false t e = omega arith

total_one : (c k : ℕ) (actors : List ActorSeen) → HaveOwnNumbers actors → total (λ (a : ActorSeen). cond (nat_eq c a.number) k 0) actors ≤ k
total_one c k [] own = omega arith
total_one c k (a ∷ actors) own = by (total_one c k actors own.1) (nat_eq c a.number) refl
  where
    by : total (λ (a : ActorSeen). cond (nat_eq c a.number) k 0) actors ≤ k → (b : Bool) → nat_eq c a.number ≡ b → cond b k 0 + total (λ (a : ActorSeen). cond (nat_eq c a.number) k 0) actors ≤ k
    by more true t =
        let same : c ≡ a.number = eqb-true c a.number t in
        let none : total (λ (a : ActorSeen). cond (nat_eq c a.number) k 0) actors ≡ 0 = total_none c k actors (subst (λ (n : ℕ). AllByRecursion (λ (b : ActorSeen). b.number ≢ n) actors) (sym same) own.0) in
        omega arith
    by more false t = omega arith

total_more : (host : ℕ) (x : List ℕ) (e : LogEntry) (log : List LogEntry) (actors : List ActorSeen)
    → total (λ (a : ActorSeen). hits (is_it x) (own_led host a.number (e ∷ log))) actors
    ≡ total (λ (a : ActorSeen). cond (nat_eq e.caller a.number) (one_if (is_lead_on x e.call e.reply)) 0) actors + total (λ (a : ActorSeen). hits (is_it x) (own_led host a.number log)) actors
total_more host x e log [] = refl
total_more host x e log (a ∷ actors) =
    let here = own_count host a.number x e log (nat_eq e.caller a.number) in
    let more = total_more host x e log actors in
    omega arith

total_leads : (host : ℕ) (x : List ℕ) (actors : List ActorSeen) → HaveOwnNumbers actors → (log : List LogEntry) → total (λ (a : ActorSeen). hits (is_it x) (own_led host a.number log)) actors ≤ leads x log
total_leads host x actors own [] = let e = total_zero (λ (a : ActorSeen). hits (is_it x) (own_led host a.number [])) actors (λ a. refl) in omega arith
total_leads host x actors own (e ∷ log) =
    let more = total_leads host x actors own log in
    let one = total_one e.caller (one_if (is_lead_on x e.call e.reply)) actors own in
    let all = total_more host x e log actors in
    omega arith

total_less : (f g : ActorSeen → ℕ) (actors : List ActorSeen) → AllByRecursion (λ (a : ActorSeen). f a ≤ g a) actors → total f actors ≤ total g actors
total_less f g [] h = omega arith
total_less f g (a ∷ actors) h = let here = h.0 in let more = total_less f g actors h.1 in omega arith

-- what holds of all names that each caller's own list claims holds of those that each entry claims
led_by_callers : (host : ℕ) (P : Name → Type 0) (C : ℕ → Type 0) (log : List LogEntry) → AllByRecursion (λ (e : LogEntry). C e.caller) log
    → ((n : ℕ) → C n → AllByRecursion P (own_led host n log)) → AllByRecursion (λ (e : LogEntry). AllByRecursion P (entry_led host e)) log
led_by_callers host P C [] c h = tt
led_by_callers host P C (e ∷ log) c h =
    (first_of (nat_eq e.caller e.caller) (eq-eqb e.caller e.caller refl) (h e.caller c.0), led_by_callers host P C log c.1 (λ n m. rest_of n (nat_eq e.caller n) (h n m)))
  where
    first_of : (b : Bool) → b ≡ true → AllByRecursion P (led_in host (map (cache_entry host) (cond b (e ∷ own_entries e.caller log) (own_entries e.caller log)))) → AllByRecursion P (entry_led host e)
    first_of true t k = all_front P (entry_led host e) (own_led host e.caller log) k
    first_of false t k = absurd (cc)

    rest_of : (n : ℕ) (b : Bool) → AllByRecursion P (led_in host (map (cache_entry host) (cond b (e ∷ own_entries n log) (own_entries n log)))) → AllByRecursion P (own_led host n log)
    rest_of n true k = all_back P (entry_led host e) (own_led host n log) k
    rest_of n false k = k

among_of : (host : ℕ) (names : List (List ℕ)) (call : CacheCall) (reply : CacheReply) → AllByRecursion (λ (n : Name). Contains names n.bytes) (led_by host (on_cache host (seen_call call)) (by_cache (seen_reply reply))) → LeadsAmong names call reply
among_of host names (Look name) cached.Lead h =
    (subst (λ (b : Bool). AllByRecursion (λ (n : Name). Contains names n.bytes) (cond b (name ∷ []) [])) (eq-eqb host host refl) h).0
among_of host names (Look name) reply h = tt
among_of host names (Fill chunk) reply h = tt
among_of host names GiveUp reply h = tt
among_of host names Evict reply h = tt
among_of host names Reap reply h = tt

-- what an actor's own list in a host's cache claims
pub led_is : (run : Run) (host n : ℕ) (c : CacheSeen) → slice_get run.caches host ≡ Some c → led_in host (own run n (Cache host)) ≡ own_led host n c.log
led_is run host n c at = ap (λ (o : Option CacheSeen). led_in host (map (cache_entry host) (own_entries n (cache_log o)))) at

pub fetches_few : FetchesAreFew
fetches_few run host c names is grown caches apart room keeps x =
    let log : List LogEntry = c.log in
    let met_all : AllByRecursion (λ (a : ActorSeen). AllByRecursion (λ (n : Name). Contains names n.bytes) (led_in host (own run a.number (Cache host)))) run.actors =
    all_weaker (λ (a : ActorSeen). Contains run.actors a × HasTrailSeen (context_of run) (own run a.number) a.jobs a.results)
    (λ (a : ActorSeen). AllByRecursion (λ (n : Name). Contains names n.bytes) (led_in host (own run a.number (Cache host))))
    (λ a h. all_weaker (λ (n : Name). IsMetName run host n.bytes) (λ (n : Name). Contains names n.bytes) (λ n m. room.met n.bytes m) _ (actor_met run host apart.leases grown a h.0 h.1))
    run.actors (all_and (Contains run.actors) (λ (a : ActorSeen). HasTrailSeen (context_of run) (own run a.number) a.jobs a.results) run.actors (all_members run.actors) is.trails) in
    let among : AllByRecursion (λ (e : LogEntry). LeadsAmong names e.call e.reply) log =
    all_weaker (λ (e : LogEntry). AllByRecursion (λ (n : Name). Contains names n.bytes) (entry_led host e)) (λ (e : LogEntry). LeadsAmong names e.call e.reply) (λ e h. among_of host names e.call e.reply h) log
    (led_by_callers host (λ (n : Name). Contains names n.bytes) (Contains (numbers run.actors)) log (caches.callers host c room.at)
    (λ n k.
    let a = caller_of (λ (a : ActorSeen). AllByRecursion (λ (n : Name). Contains names n.bytes) (led_in host (own run a.number (Cache host)))) run.actors n k met_all in
    subst (λ (l : List Name). AllByRecursion (λ (n : Name). Contains names n.bytes) l) (led_is run host n c room.at)
    (subst (λ (k : ℕ). AllByRecursion (λ (n : Name). Contains names n.bytes) (led_in host (own run k (Cache host)))) a.1 a.2))) in
    let few = leads_few c.capacity names log (legal c.capacity log (caches.grown host c room.at)) room.enough keeps among x in
    let each : AllByRecursion (λ (a : ActorSeen). fetches_for run host x a ≤ hits (is_it x) (own_led host a.number log)) run.actors =
    all_weaker (λ (a : ActorSeen). HasTrailSeen (context_of run) (own run a.number) a.jobs a.results) (λ (a : ActorSeen). fetches_for run host x a ≤ hits (is_it x) (own_led host a.number log))
    (λ a h. let one = actor_few run host apart.leases grown x a h in let same = ap (hits (is_it x)) (led_is run host a.number c room.at) in omega arith) run.actors is.trails in
    let less = total_less (fetches_for run host x) (λ (a : ActorSeen). hits (is_it x) (own_led host a.number log)) run.actors each in
    let all = total_leads host x run.actors apart.numbers log in
    omega arith
