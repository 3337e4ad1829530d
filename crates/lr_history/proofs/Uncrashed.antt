-- A claim that a crash ended is that of an actor with calls on the host.
use Rattle.std.proofs.Common.{◌≡◌, ◌≢◌, ℕ, List, [], ◌∷◌, map, Bool, true, false, cond, nat_eq, Some, Option, slice_get, refl, sym, subst, inl, inr, eq-eqb, eqb-true}
use Rattle.std.specs.Prelude.{◌&&◌, ⊤}
use Rattle.std.specs.List.{AllByRecursion, Contains, flat_map}
use Rattle.lr_manifest.specs.declared.name.Name.{Name}
use Rattle.lr_object.specs.Own.{own_entries}
use Rattle.lr_object.specs.declared.id.ObjectId.TheVariants.{Cache}
use Rattle.lr_object.proofs.Counted.{some_is, found_passes}
use Rattle.lr_device.specs.declared.call.DeviceCall.{DeviceCall}
use Rattle.lr_walk.specs.declared.trail.JobResult.{JobResult}
use Rattle.lr_walk.specs.Steps.{on_cache, by_cache, Step}
use Rattle.lr_walk.specs.Cache.{seen_call, seen_reply}
use Rattle.lr_walk.specs.Cache as caches
use Rattle.lr_walk.specs.Trails.{Lists}
use Rattle.lr_cache.specs.declared.call.Claim.{Claim}
use Rattle.lr_cache.specs.Claims.{is_of}
use Rattle.lr_cache.specs.declared.call.CacheCall.{CacheCall}
use Rattle.lr_cache.specs.declared.call.CacheCall.TheVariants.{Look, Fill, GiveUp, Evict, Reap}
use Rattle.lr_cache.specs.declared.call.CacheReply.{CacheReply}
use Rattle.lr_cache.specs.declared.call.CacheReply.TheVariants as cached
use Rattle.lr_cache.specs.Machine.{State, claim_of, state_after, CacheStep, LogEntry, empty, after_entry}
use Rattle.lr_claims.specs.Logs.{IsLegal}
use Rattle.lr_claims.specs.Leads.{Keeps}
use Rattle.lr_claims.proofs.Public.{legal, without_all, found_all}
use Rattle.lr_history.specs.Jobs.{JobSeen, calls, another, HasTrailSeen}
use Rattle.lr_history.specs.Run.{DeviceSeen, CacheSeen, ActorSeen, Run}
use Rattle.lr_history.specs.Premises.{numbers, AreDeviceLogs}
use Rattle.lr_history.specs.Lists.{own, cache_log, cache_entry, place_of, context_of, entries_in}
use Rattle.lr_history.specs.Told.{led_by, led_in}
use Rattle.lr_history.specs.OnDemand.{LoadMade, lead_of}
use Rattle.lr_history.specs.Claims.{HasCallsOn, IsNoEvict, FetchesAreFewUncrashed}
use Rattle.lr_history.proofs.Facts.{all_append, all_front, all_back, all_weaker}
use Rattle.lr_history.proofs.Paths.{list_by_jobs}
use Rattle.lr_history.proofs.Logs.{caller_of}
use Rattle.lr_history.proofs.Naming.{led_step, led_on}
use Rattle.lr_history.proofs.Demanded.{Good, trail_good, zip_all}
use Rattle.lr_history.proofs.Fetches.{all_members, all_and, own_led, entry_led, led_is, fetches_few}

-- ---- whose claims end

abbrev LeadBy : (ℕ → Type 0) → ℕ → CacheReply → Type 0
LeadBy C caller cached.Lead = C caller
LeadBy C caller reply = ⊤

abbrev ReapBy : (ℕ → Type 0) → ℕ → CacheReply → Type 0
ReapBy C caller cached.Reaped = C caller
ReapBy C caller reply = ⊤

module _ (C : ℕ → Type 0) (capacity : ℕ) where
  abbrev Claims : State → Type 0
  Claims st = AllByRecursion (λ (c : Claim). C c.caller) st.claims

  claims_step : (st : State) (caller : ℕ) (call : CacheCall) (reply : CacheReply) → CacheStep st caller call reply → LeadBy C caller reply → Claims st → Claims (state_after capacity st caller call reply)
  claims_step st caller (Look name) cached.Lead s l h = all_append (λ (c : Claim). C c.caller) st.claims (record { name = name; caller = caller } ∷ []) h (l, tt)
  claims_step st caller (Look name) reply s l h = h
  claims_step st caller (Fill chunk) cached.Filled s l h = without_all (is_of caller) (λ (c : Claim). C c.caller) st.claims h
  claims_step st caller (Fill chunk) reply s l h = h
  claims_step st caller GiveUp cached.Given s l h = without_all (is_of caller) (λ (c : Claim). C c.caller) st.claims h
  claims_step st caller GiveUp reply s l h = h
  claims_step st caller Evict (cached.Evicted n) s l h = h
  claims_step st caller Evict reply s l h = h
  claims_step st caller Reap cached.Reaped s l h = without_all (is_of caller) (λ (c : Claim). C c.caller) st.claims h
  claims_step st caller Reap reply s l h = h

  its_caller : (st : State) (caller : ℕ) (claim : Claim) → claim_of caller st ≡ Some claim → Claims st → C caller
  its_caller st caller claim f h =
      subst C (eqb-true claim.caller caller (found_passes (is_of caller) st.claims claim f)) (found_all (is_of caller) (λ (c : Claim). C c.caller) st.claims claim f h)

  reap_step : (st : State) (caller : ℕ) (call : CacheCall) (reply : CacheReply) → CacheStep st caller call reply → Claims st → ReapBy C caller reply
  reap_step st caller Reap cached.Reaped s h = let f = some_is (claim_of caller st) s in its_caller st caller f.0 f.1 h
  reap_step st caller (Look name) cached.Reaped s h = absurd s
  reap_step st caller (Fill chunk) cached.Reaped s h = absurd s
  reap_step st caller GiveUp cached.Reaped s h = absurd s
  reap_step st caller Evict cached.Reaped s h = absurd s
  reap_step st caller call reply s h = tt

  reaps_led : (log : List LogEntry) (st : State) → IsLegal capacity st log → Claims st → AllByRecursion (λ (e : LogEntry). LeadBy C e.caller e.reply) log → AllByRecursion (λ (e : LogEntry). ReapBy C e.caller e.reply) log
  reaps_led [] st h k l = tt
  reaps_led (e ∷ log) st h k l =
      (reap_step st e.caller e.call e.reply h.0 k, reaps_led log (after_entry capacity st e) h.2 (claims_step st e.caller e.call e.reply h.0 l.0 k) l.1)

-- ---- the actors that lead have calls

loads_call : (run : Run) (host : ℕ) (a : ActorSeen) (device : ℕ) (call : DeviceCall) (d : DeviceSeen) (loads : List LoadMade) → Contains a.jobs (calls device call) → slice_get run.devices device ≡ Some d
    → AllByRecursion (λ (n : Name). HasCallsOn run host a) (flat_map (lead_of host (place_of d)) loads)
loads_call run host a device call d [] c at = tt
loads_call run host a device call d (l ∷ loads) c at =
    all_append (λ (n : Name). HasCallsOn run host a) (lead_of host (place_of d) l) (flat_map (lead_of host (place_of d)) loads) (by l.led (nat_eq d.line.host host) refl) (loads_call run host a device call d loads c at)
  where
    by : (b k : Bool) → nat_eq d.line.host host ≡ k → AllByRecursion (λ (n : Name). HasCallsOn run host a) (cond (b && k) (l.name ∷ []) [])
    by false k e = tt
    by true false e = tt
    by true true e = (record { device = device; seen = d; call = call; at = at; hosted = eqb-true d.line.host host e; called = c }, tt)

job_calls : (run : Run) (host : ℕ) (a : ActorSeen) (job : JobSeen) (r : JobResult) → Contains a.jobs job → Good run a.number (own run a.number) job r.path.items
    → AllByRecursion (λ (n : Name). HasCallsOn run host a) (led_in host (entries_in (own run a.number) (Cache host) r.path.items))
job_calls run host a another r c h = subst (λ (l : List Name). AllByRecursion (λ (n : Name). HasCallsOn run host a) l) (sym (h.leads host)) tt
job_calls run host a (calls device call) r c (inl h) = subst (λ (l : List Name). AllByRecursion (λ (n : Name). HasCallsOn run host a) l) (sym (h.leads host)) tt
job_calls run host a (calls device call) r c (inr h) =
    subst (λ (l : List Name). AllByRecursion (λ (n : Name). HasCallsOn run host a) l) (sym (h.2.leads host)) (loads_call run host a device call h.0 h.2.loads c h.1)

actor_calls : (run : Run) (host : ℕ) (a : ActorSeen) → AreDeviceLogs run → HasTrailSeen (context_of run) (own run a.number) a.jobs a.results
    → AllByRecursion (λ (n : Name). HasCallsOn run host a) (led_in host (own run a.number (Cache host)))
actor_calls run host a grown h =
    let lists : Lists = own run a.number in
    subst (λ (l : List Name). AllByRecursion (λ (n : Name). HasCallsOn run host a) l)
    (sym (list_by_jobs (led_step host) (Cache host) (led_on host) lists a.results (h.counted (Cache host)) (h.beyond (Cache host))))
    (zip_all (λ (job : JobSeen) (r : JobResult). Good run a.number lists job r.path.items) (λ (n : Name). HasCallsOn run host a) (λ (r : JobResult). led_in host (entries_in lists (Cache host) r.path.items)) a.jobs a.results
    (job_calls run host a) (trail_good run grown a h))

-- ---- entries by their callers

entries_by : (host : ℕ) (A C : ℕ → Type 0) (log : List LogEntry) → AllByRecursion (λ (e : LogEntry). A e.caller) log
    → ((n : ℕ) → A n → AllByRecursion (λ (x : Name). C n) (own_led host n log)) → AllByRecursion (λ (e : LogEntry). AllByRecursion (λ (x : Name). C e.caller) (entry_led host e)) log
entries_by host A C [] a h = tt
entries_by host A C (e ∷ log) a h =
    (first_of (nat_eq e.caller e.caller) (eq-eqb e.caller e.caller refl) (h e.caller a.0), entries_by host A C log a.1 (λ n m. later n (nat_eq e.caller n) (h n m)))
  where
    first_of : (b : Bool) → b ≡ true → AllByRecursion (λ (x : Name). C e.caller) (led_in host (map (cache_entry host) (cond b (e ∷ own_entries e.caller log) (own_entries e.caller log)))) → AllByRecursion (λ (x : Name). C e.caller) (entry_led host e)
    first_of true t k = all_front (λ (x : Name). C e.caller) (entry_led host e) (own_led host e.caller log) k
    first_of false t k = absurd (cc)

    later : (n : ℕ) (b : Bool) → AllByRecursion (λ (x : Name). C n) (led_in host (map (cache_entry host) (cond b (e ∷ own_entries n log) (own_entries n log)))) → AllByRecursion (λ (x : Name). C n) (own_led host n log)
    later n true k = all_back (λ (x : Name). C n) (entry_led host e) (own_led host n log) k
    later n false k = k

steps_by : (host : ℕ) (C : ℕ → Type 0) (Q : Step → Type 0) (log : List LogEntry) → ((n : ℕ) → C n → AllByRecursion Q (map (cache_entry host) (own_entries n log)))
    → AllByRecursion (λ (e : LogEntry). C e.caller → Q (cache_entry host e)) log
steps_by host C Q [] h = tt
steps_by host C Q (e ∷ log) h =
    ((λ c. first_of (nat_eq e.caller e.caller) (eq-eqb e.caller e.caller refl) (h e.caller c)), steps_by host C Q log (λ n m. later n (nat_eq e.caller n) (h n m)))
  where
    first_of : (b : Bool) → b ≡ true → AllByRecursion Q (map (cache_entry host) (cond b (e ∷ own_entries e.caller log) (own_entries e.caller log))) → Q (cache_entry host e)
    first_of true t k = k.0
    first_of false t k = absurd (cc)

    later : (n : ℕ) (b : Bool) → AllByRecursion Q (map (cache_entry host) (cond b (e ∷ own_entries n log) (own_entries n log))) → AllByRecursion Q (map (cache_entry host) (own_entries n log))
    later n true k = k.1
    later n false k = k

led_of_entry : (host : ℕ) (C : ℕ → Type 0) (st : State) (caller : ℕ) (call : CacheCall) (reply : CacheReply) → CacheStep st caller call reply
    → AllByRecursion (λ (x : Name). C caller) (led_by host (on_cache host (seen_call call)) (by_cache (seen_reply reply))) → LeadBy C caller reply
led_of_entry host C st caller (Look name) cached.Lead s h =
    (subst (λ (b : Bool). AllByRecursion (λ (x : Name). C caller) (cond b (name ∷ []) [])) (eq-eqb host host refl) h).0
led_of_entry host C st caller (Fill chunk) cached.Lead s h = absurd s
led_of_entry host C st caller GiveUp cached.Lead s h = absurd s
led_of_entry host C st caller Evict cached.Lead s h = absurd s
led_of_entry host C st caller Reap cached.Lead s h = absurd s
led_of_entry host C st caller call reply s h = tt

led_of_entries : (host : ℕ) (C : ℕ → Type 0) (capacity : ℕ) (log : List LogEntry) (st : State) → IsLegal capacity st log → AllByRecursion (λ (e : LogEntry). AllByRecursion (λ (x : Name). C e.caller) (entry_led host e)) log
    → AllByRecursion (λ (e : LogEntry). LeadBy C e.caller e.reply) log
led_of_entries host C capacity [] st h k = tt
led_of_entries host C capacity (e ∷ log) st h k = (led_of_entry host C st e.caller e.call e.reply h.0 k.0, led_of_entries host C capacity log (after_entry capacity st e) h.2 k.1)

keeps_of : (C : ℕ → Type 0) (caller : ℕ) (reply : CacheReply) → IsNoEvict reply → ReapBy C caller reply → (C caller → by_cache (seen_reply reply) ≢ by_cache caches.reaped) → Keeps reply
keeps_of C caller (cached.Evicted n) v r q = absurd v
keeps_of C caller cached.Reaped v r q = absurd (q r refl)
keeps_of C caller reply v r q = tt

all_keep : (C : ℕ → Type 0) (log : List LogEntry) → AllByRecursion (λ (e : LogEntry). IsNoEvict e.reply) log → AllByRecursion (λ (e : LogEntry). ReapBy C e.caller e.reply) log
    → AllByRecursion (λ (e : LogEntry). C e.caller → by_cache (seen_reply e.reply) ≢ by_cache caches.reaped) log → AllByRecursion (λ (e : LogEntry). Keeps e.reply) log
all_keep C [] v r q = tt
all_keep C (e ∷ log) v r q = (keeps_of C e.caller e.reply v.0 r.0 q.0, all_keep C log v.1 r.1 q.1)

pub fetches_few_uncrashed : FetchesAreFewUncrashed
fetches_few_uncrashed run host c names is grown orderly apart room evicts crashed x =
    fetches_few run host c names is grown orderly apart room (all_keep C c.log evicts reaps quiet) x
  where
    C : ℕ → Type 0
    C n = (a : ActorSeen) × Contains run.actors a × (a.number ≡ n) × HasCallsOn run host a

    is_legal : IsLegal c.capacity empty c.log
    is_legal = legal c.capacity c.log (orderly.grown host c room.at)

    each : AllByRecursion (λ (a : ActorSeen). AllByRecursion (λ (x : Name). C a.number) (led_in host (own run a.number (Cache host)))) run.actors
    each =
        all_weaker (λ (a : ActorSeen). Contains run.actors a × HasTrailSeen (context_of run) (own run a.number) a.jobs a.results)
        (λ (a : ActorSeen). AllByRecursion (λ (x : Name). C a.number) (led_in host (own run a.number (Cache host))))
        (λ a h. all_weaker (λ (x : Name). HasCallsOn run host a) (λ (x : Name). C a.number) (λ x k. (a, h.0, refl, k)) _ (actor_calls run host a grown h.1))
        run.actors (all_and (Contains run.actors) (λ (a : ActorSeen). HasTrailSeen (context_of run) (own run a.number) a.jobs a.results) run.actors (all_members run.actors) is.trails)

    led : AllByRecursion (λ (e : LogEntry). LeadBy C e.caller e.reply) c.log
    led =
        led_of_entries host C c.capacity c.log empty is_legal
        (entries_by host (Contains (numbers run.actors)) C c.log (orderly.callers host c room.at)
        (λ n k.
        let a = caller_of (λ (a : ActorSeen). AllByRecursion (λ (x : Name). C a.number) (led_in host (own run a.number (Cache host)))) run.actors n k each in
        subst (λ (l : List Name). AllByRecursion (λ (x : Name). C n) l) (led_is run host n c room.at)
        (subst (λ (k : ℕ). AllByRecursion (λ (x : Name). C k) (led_in host (own run k (Cache host)))) a.1 a.2)))

    reaps : AllByRecursion (λ (e : LogEntry). ReapBy C e.caller e.reply) c.log
    reaps = reaps_led C c.capacity c.log empty is_legal tt led

    quiet : AllByRecursion (λ (e : LogEntry). C e.caller → by_cache (seen_reply e.reply) ≢ by_cache caches.reaped) c.log
    quiet =
        steps_by host C (λ (s : Step). s.reply ≢ by_cache caches.reaped) c.log
        (λ n k.
        subst (λ (o : Option CacheSeen). AllByRecursion (λ (s : Step). s.reply ≢ by_cache caches.reaped) (map (cache_entry host) (own_entries n (cache_log o)))) room.at
        (subst (λ (m : ℕ). AllByRecursion (λ (s : Step). s.reply ≢ by_cache caches.reaped) (own run m (Cache host))) k.2 (crashed k.0 k.1 k.3)))
