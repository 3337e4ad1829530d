-- A turn leaves a world.
use Rattle.std.proofs.Common.{◌≡◌, ◌<◌, ◌≤◌, ◌+◌, ℕ, zero, suc, List, [], ◌∷◌, length, drop, map, Bool, true, false, Option, Some, None, slice_get, refl, ap, sym, subst, ◌∙◌, inl, inr, arith, ltb-false}
use Rattle.std.specs.Prelude.{◌≢◌, ◌⊎◌, nat_lt, if◌then◌else◌}
use Rattle.std.proofs.Math.ListN.{set}
use Rattle.std.proofs.lemmas.Option.{slice_get_within}
use Rattle.std.proofs.lemmas.Bool.{cases_lt}
use Rattle.lr_object.specs.declared.id.ObjectId.{ObjectId}
use Rattle.lr_object.specs.declared.id.ObjectId.TheVariants.{Device, Cache, Node, Depot}
use Rattle.lr_origin.specs.Objects.{Objects as Stored}
use Rattle.lr_depot.specs.declared.call.DepotCall.TheVariants as depot
use Rattle.lr_depot.specs.declared.call.DepotReply.TheVariants as told
use Rattle.lr_walk.specs.Steps.{on_depot, Reply, by_cache, by_depot, Step}
use Rattle.lr_walk.specs.Cache as caches
use Rattle.lr_walk.specs.Depot as depots
use Rattle.lr_walk.specs.Jobs.{Context}
use Rattle.lr_walk.specs.Trails.{Lists}
use Rattle.lr_history.specs.Ready.{claim_by, out_after}
use Rattle.lr_actors.specs.declared.action.ActorCall.{ActorCall}
use Rattle.lr_actors.specs.declared.action.ActorCall.TheVariants as call
use Rattle.lr_actors.specs.declared.action.ActorReply.{ActorReply}
use Rattle.lr_actors.specs.declared.action.ActorReply.TheVariants as by
use Rattle.lr_actors.specs.declared.trail.ActorState.{ActorState}
use Rattle.lr_actors.specs.declared.trail.ActorState.TheVariants.{Unfinished, Ended, Crashed}
use Rattle.lr_actors.specs.Running.{steps_left}
use Rattle.lr_actors.specs.Asked.{a_call, HandsCall, seen_reply}
use Rattle.lr_actors.specs.Jobs.{Job, closes, bound_of}
use Rattle.lr_actors.specs.Actor as actor
use Rattle.lr_actors.specs.Actor.{Now, works, idles, reaps, over, handed, IsActor, IsSame, StandsFor, StandsNow, StandsReaped, reaps_of, Took, Passed, FitsNow, AdmitsNow, GoesOn, ReapsOn, Gains, AddsNow, Nears, asks_now, reap_at, reap_of, reap_place, reap_count, reaps_from, reaps_ahead, bounds_of, left, now_left}
use Rattle.lr_replies.specs.Objects.{Objects, own_lists, Replies}
use Rattle.lr_replies.specs.Replies.{AreMade, IsReady, HasLease}
use Rattle.lr_world.specs.Laws.{Laws}
use Rattle.lr_world.specs.World.{Seen, objects_of, Part, part_of, cast_of, IsCast, IsNumber, HasCalls, HasNoneOut, HasNoSession, HasSessions, LetsGo, IsInPlace, IsWorld, Called, Idled, StepsNow}
use Rattle.lr_world.proofs.Places.{at_same, at_other}
use Rattle.lr_world.proofs.Taken.{part_at, ready}
use Rattle.lr_world.proofs.Leases.{same_or_not, IsClosing, Closing, closing_of, lease_stays}
use Rattle.lr_world.proofs.Nearing.{results_stay, ends, next_bounds}
use Rattle.lr_world.proofs.Gone.{jobs_gone, reap_gone}
use Rattle.lr_world.proofs.Outstanding.{others_sessions, none_sessions, work_sessions, reap_sessions}

map_set : {X Y : Type 0} (f : X → Y) (xs : List X) (i : ℕ) (x y : X) → slice_get xs i ≡ Some x → f y ≡ f x → map f (set xs i y) ≡ map f xs
map_set f [] i x y e s = refl
map_set f (z ∷ xs) zero x y e s = let same : z ≡ x = cc in ap (λ w. w ∷ map f xs) (s ∙ ap f (sym same))
map_set f (z ∷ xs) (suc i) x y e s = ap (λ w. f z ∷ w) (map_set f xs i x y e s)

-- ---- a world with another actor at one place

module _ {O : Type 0} (context : Context) (hosts : ℕ) (old new : Seen O) (i : ℕ) (a after : actor.Seen) (got : slice_get old.actors i ≡ Some a) (actors : new.actors ≡ set old.actors i after) (part : part_of after ≡ part_of a) where
  pub cast_same : cast_of new ≡ cast_of old
  cast_same = ap (map part_of) actors ∙ map_set part_of old.actors i a after got part

  pub at_new : (j : ℕ) (b : actor.Seen) → slice_get new.actors j ≡ Some b → ((j ≡ i) × (b ≡ after)) ⊎ ((j ≢ i) × (slice_get old.actors j ≡ Some b))
  at_new j b e = by (same_or_not j i)
    where
      there : slice_get (set old.actors i after) j ≡ Some b
      there = ap (λ (xs : List actor.Seen). slice_get xs j) (sym actors) ∙ e

      by : (j ≡ i) ⊎ (j ≢ i) → ((j ≡ i) × (b ≡ after)) ⊎ ((j ≢ i) × (slice_get old.actors j ≡ Some b))
      by (inl s) =
          let here : slice_get (set old.actors i after) j ≡ Some after = ap (slice_get (set old.actors i after)) s ∙ at_same old.actors i after (slice_get_within old.actors i a got) in
          let same : b ≡ after = cc in
          inl (s, same)
      by (inr n) = inr (n, sym (at_other old.actors i after j n) ∙ there)

  module _ (is : IsWorld context hosts old) where
    -- another actor has another number
    other_number : (j : ℕ) (b : actor.Seen) → j ≢ i → slice_get old.actors j ≡ Some b → b.number ≢ a.number
    other_number j b ne e = by (cases_lt j i) (cases_lt i j)
      where
        by : (j < i) ⊎ (i ≤ j) → (i < j) ⊎ (j ≤ i) → b.number ≢ a.number
        by (inl h) k = λ s. omega (arith, is.cast.ascending j i (part_of b) (part_of a) h (part_at old j b e) (part_at old i a got), s)
        by (inr h) (inl k) = λ s. omega (arith, is.cast.ascending i j (part_of a) (part_of b) k (part_at old i a got) (part_at old j b e), s)
        by (inr h) (inr k) = λ s. ne (omega (arith, h, k))

    module _ (made : AreMade (objects_of new) context hosts) (stay : (other : ℕ) → other ≢ a.number → (o : ObjectId) → own_lists (objects_of new) other o ≡ own_lists (objects_of old) other o)
        (lease : (j k : ℕ) (p : Part) (job : Job) → slice_get (cast_of old) j ≡ Some p → slice_get p.jobs k ≡ Some job → j ≢ i → HasLease (objects_of old) context job → HasLease (objects_of new) context job)
        (hold : (other : ℕ) (now : Now) → other ≢ a.number → HasSessions now (objects_of old) other → HasSessions now (objects_of new) other) (here : IsInPlace (objects_of new) after) where
      other_place : (j : ℕ) (b : actor.Seen) → j ≢ i → slice_get old.actors j ≡ Some b → IsInPlace (objects_of new) b
      other_place j b ne e =
          let place : IsInPlace (objects_of old) b = is.actors j b e in
          let own : own_lists (objects_of new) b.number ≡ own_lists (objects_of old) b.number = λ t o. stay b.number (other_number j b ne e) o t in
          let shared : b.context ≡ context = (is.cast.shared j (part_of b) (part_at old j b e)).0 in
          record {
            is = place.is;
            out = place.out;
            stands = subst (λ (lists : Lists). StandsFor b lists) (sym own) place.stands;
            leases = λ k job le at. subst (λ (x : Context). HasLease (objects_of new) x job) (sym shared)
                (lease j k (part_of b) job (part_at old j b e) at ne (subst (λ (x : Context). HasLease (objects_of old) x job) shared (place.leases k job le at)));
            gone = λ o l. subst (λ (lists : Lists). HasNoneOut lists o) (sym own) (place.gone o l);
            sessions = hold b.number b.now (other_number j b ne e) place.sessions;
          }

      place_of : (j : ℕ) (b : actor.Seen) → slice_get new.actors j ≡ Some b → IsInPlace (objects_of new) b
      place_of j b e = by (at_new j b e)
        where
          by : ((j ≡ i) × (b ≡ after)) ⊎ ((j ≢ i) × (slice_get old.actors j ≡ Some b)) → IsInPlace (objects_of new) b
          by (inl s) = subst (IsInPlace (objects_of new)) (sym s.1) here
          by (inr s) = other_place j b s.0 s.1

      stranger : (caller : ℕ) → ¬ (IsNumber (cast_of old) caller) → caller ≢ a.number
      stranger caller none e = none (i, part_of a, part_at old i a got, sym e)

      pub world_of : IsWorld context hosts new
      world_of =
          record {
            cast = subst (λ (c : List Part). IsCast context hosts c) (sym cast_same) is.cast;
            made = made;
            actors = place_of;
            claims = λ calls caller none host.
                let unknown : ¬ (IsNumber (cast_of old) caller) = subst (λ (c : List Part). ¬ (IsNumber c caller)) cast_same none in
                ap (out_after (claim_by host) None) (stay caller (stranger caller unknown) (Cache host)) ∙ is.claims (subst HasCalls cast_same calls) caller unknown host;
          }

-- ---- an actor that was handed its call

pub left_handed : (now : Now) (a : actor.Seen) → now_left now (handed a) ≡ now_left now a
left_handed (works r) a = by a.crash
  where
    by : (c : Option ℕ) → steps_left r + (bounds_of (drop (length a.account.results + 1) a.jobs) + reaps_ahead c (handed a)) ≡ steps_left r + (bounds_of (drop (length a.account.results + 1) a.jobs) + reaps_ahead c a)
    by None = refl
    by (Some c) = refl
left_handed idles a = by a.crash
  where
    by : (c : Option ℕ) → bounds_of (drop (length a.account.results) a.jobs) + reaps_ahead c (handed a) ≡ bounds_of (drop (length a.account.results) a.jobs) + reaps_ahead c a
    by None = refl
    by (Some c) = refl
left_handed (reaps made) a = refl
left_handed over a = refl

pub stands_handed : (now : Now) (a : actor.Seen) (lists : Lists) → StandsNow now a lists → StandsNow now (handed a) lists
stands_handed (works r) a lists s = s
stands_handed idles a lists s = s
stands_handed (reaps made) a lists s = record { trail = s.trail; rest = s.rest }
stands_handed over a lists s = by a.state s
  where
    by : (st : ActorState) → StandsReaped a lists (reaps_of st a) → StandsReaped (handed a) lists (reaps_of st (handed a))
    by Crashed t = record { trail = t.trail; rest = t.rest }
    by Unfinished t = record { trail = t.trail; rest = t.rest }
    by Ended t = record { trail = t.trail; rest = t.rest }

adds_handed : (now : Now) (a : actor.Seen) (reply : Reply) (more : List Step) → AddsNow now a reply more → AddsNow now (handed a) reply more
adds_handed (works r) a reply more h = h
adds_handed idles a reply more h = h
adds_handed (reaps made) a reply more h = h
adds_handed over a reply more h = h

pub same_handed : (a after : actor.Seen) → IsSame (handed a) after → IsSame a after
same_handed a after s = record { number = s.number; context = s.context; hosts = s.hosts; jobs = s.jobs; crash = s.crash }

pub part_same : (a after : actor.Seen) → IsSame a after → part_of after ≡ part_of a
part_same a after s = λ t. record { number = s.number t; context = s.context t; hosts = s.hosts t; jobs = s.jobs t; crash = s.crash t }

-- ---- an idle step

idled_place : (laws : Laws) (w : Objects) (a after : actor.Seen) → IsInPlace w a → a.now ≡ idles → Passed a after → IsInPlace w after
idled_place laws w a after place now passed =
    let numbers : after.number ≡ a.number = passed.same.number in
    let stands : StandsFor after (own_lists w after.number) = subst (λ (n : ℕ). StandsFor after (own_lists w n)) (sym numbers) (passed.stands (own_lists w a.number) place.stands) in
    let going : a.now ≢ over = λ e. absurd (cc) in
    let grow : length a.account.results ≤ length after.account.results = results_stay a after place.is passed.is passed.same passed.reaps going (omega (arith, passed.nears)) in
    let crash : after.state ≡ Crashed → after.now ≡ reaps 0 = subst (λ (n : Now). ReapsOn n after) now passed.reaps in
    record {
      is = passed.is;
      out = passed.out;
      stands = stands;
      leases = λ k job le at. subst (λ (x : Context). HasLease w x job) (sym passed.same.context)
          (place.leases k job (omega (arith, grow, le)) (ap (λ (jobs : List Job). slice_get jobs k) (sym passed.same.jobs) ∙ at));
      gone = λ o l. jobs_gone laws.ended after (own_lists w after.number) passed.is stands crash o l;
      sessions = none_sessions after.now after (own_lists w after.number) w after.number (subst (HasNoSession w) (sym numbers) (subst (λ (n : Now). HasSessions n w a.number) now place.sessions)) stands;
    }

pub keeps_idled : {O : Type 0} (laws : Laws) (context : Context) (hosts : ℕ) (old new : Seen O) (i : ℕ) (a : actor.Seen) → IsWorld context hosts old → slice_get old.actors i ≡ Some a → a.now ≡ idles → Idled old i a new → IsWorld context hosts new
keeps_idled {O} laws context hosts old new i a is got now idled =
    let mid : Seen O = record old { actors = set old.actors i idled.after } in
    let kept : IsWorld context hosts mid =
    world_of context hosts old mid i a idled.after got refl (part_same a idled.after idled.passed.same) is is.made (λ other ne o. refl) (λ j k p job part at ne h. h) (λ other now ne h. h)
    (idled_place laws (objects_of old) a idled.after (is.actors i a got) now idled.passed)
    in subst (IsWorld context hosts) (sym idled.kept) kept

-- ---- a call

pub nears_less : (r : Reply) (x y : ℕ) → Nears r x y → y ≤ x
nears_less (by_cache (caches.busy holder)) x y h = h
nears_less (by_depot (depots.removed key)) x y h = h
nears_less r x y h = omega (arith, h)

-- a close ends what it asks for
close_nears : (w : Objects) (n : ℕ) (asked : ActorCall) (reply : ActorReply) (x y : ℕ) → IsClosing asked → Replies w n asked reply → Nears (seen_reply reply) x y → y + 1 ≤ x
close_nears w n (call.Depot (depot.Close lease)) (by.Depot (told.Removed k)) x y c r h = absurd r
close_nears w n (call.Depot (depot.Close lease)) (by.Depot reply) x y c r h = h
close_nears w n (call.Depot (depot.Close lease)) reply x y c r h = absurd r
close_nears w n asked reply x y c r h = absurd c

no_reap : (x : ObjectId) (lease : ℕ) → a_call (on_depot (depots.closes lease)) ≡ a_call (reap_of x) → ⊥
no_reap (Device d) lease e = cc
no_reap (Cache h) lease e = cc
no_reap (Node k) lease e = cc
no_reap Depot lease e = cc

close_now : (a : actor.Seen) (lease : ℕ) → Closing a lease → (now : Now) → FitsNow now a → HandsCall (call.Depot (depot.Close lease)) (asks_now now a)
    → (a.state ≡ Unfinished) × (now_left now a ≤ 1 + bounds_of (drop (suc (length a.account.results)) a.jobs) + reaps_ahead a.crash a)
close_now a lease q (works r) f h =
    let same : f.1.0 ≡ closes q.device = let e = f.1.1 in let d = q.job in cc in
    (f.0, omega (arith, f.1.2.bound, ap bound_of same, next_bounds a.jobs (length a.account.results)))
close_now a lease q idles f h = absurd (cc)
close_now a lease q (reaps made) f h = absurd (no_reap (reap_at a.context a.hosts made) lease h)
close_now a lease q over f h = absurd (cc)

module _ {O : Type 0} (laws : Laws) (objects : O → Option Stored) (faults : O → ℕ) (context : Context) (hosts : ℕ) (old new : Seen O) (i : ℕ) (a : actor.Seen) (asked : ActorCall) (reply : ActorReply)
    (is : IsWorld context hosts old) (got : slice_get old.actors i ≡ Some a) (going : a.now ≢ over) (c : Called objects faults old i a asked reply new) where
  abbrev after : actor.Seen
  after = c.after

  abbrev place : IsInPlace (objects_of old) a
  place = is.actors i a got

  rdy : IsReady (objects_of old) a
  rdy = ready context hosts old i a is got

  same : IsSame a after
  same = same_handed a after c.took.same

  pub made_new : AreMade (objects_of new) context hosts
  made_new = laws.made (objects_of old) (objects_of new) context hosts a.number asked reply is.made c.called

  gains : Gains a (seen_reply reply) (own_lists (objects_of old) a.number) (own_lists (objects_of new) a.number)
  gains = laws.gain.own (objects_of old) (objects_of new) a asked reply rdy c.asks c.called

  stands_new : StandsFor after (own_lists (objects_of new) after.number)
  stands_new =
      subst (λ (n : ℕ). StandsFor after (own_lists (objects_of new) n)) (sym same.number)
      (c.took.stands (own_lists (objects_of old) a.number) (own_lists (objects_of new) a.number) (gains.0, adds_handed a.now a (seen_reply reply) gains.0 gains.1, gains.2)
      (stands_handed a.now a (own_lists (objects_of old) a.number) place.stands))

  pub near : Nears (seen_reply reply) (left a) (left after)
  near = subst (λ (x : ℕ). Nears (seen_reply reply) x (left after)) (left_handed a.now a) c.took.nears

  grow : length a.account.results ≤ length after.account.results
  grow = results_stay a after place.is c.took.is same c.took.reaps going (nears_less (seen_reply reply) (left a) (left after) near)

  close_by : (x : ActorCall) → asked ≡ x → IsClosing x → length a.account.results < length after.account.results
  close_by (call.Depot (depot.Close lease)) e closing =
      let asks : actor.Calls a (call.Depot (depot.Close lease)) = subst (actor.Calls a) e c.asks in
      let q : Closing a lease = closing_of a lease asks.closes in
      let now = close_now a lease q a.now place.is.now asks.asked in
      let strict : left after + 1 ≤ left a = close_nears (objects_of old) a.number asked reply (left a) (left after) (subst IsClosing (sym e) closing) c.called.replies near in
      ends a after place.is c.took.is same now.0 (omega (arith, strict, now.1)) (slice_get_within a.jobs (length a.account.results) (closes q.device) q.job)
  close_by x e closing = absurd closing

  -- its jobs to come
  lease_new : (j k : ℕ) (p : Part) (job : Job) → slice_get (cast_of old) j ≡ Some p → slice_get p.jobs k ≡ Some job → (IsClosing asked → j ≡ i → length a.account.results < k) → HasLease (objects_of old) context job → HasLease (objects_of new) context job
  lease_new j k p job part at later h =
      lease_stays context hosts (cast_of old) is.cast i a (part_at old i a got) laws.leases (objects_of old) (objects_of new) asked reply c.called c.asks.closes j k p job part at later h

  leases_new : (k : ℕ) (job : Job) → length after.account.results ≤ k → slice_get after.jobs k ≡ Some job → HasLease (objects_of new) after.context job
  leases_new k job le at =
      let here : slice_get a.jobs k ≡ Some job = ap (λ (jobs : List Job). slice_get jobs k) (sym same.jobs) ∙ at in
      let shared : a.context ≡ context = (is.cast.shared i (part_of a) (part_at old i a got)).0 in
      let was : HasLease (objects_of old) context job = subst (λ (x : Context). HasLease (objects_of old) x job) shared (place.leases k job (omega (arith, grow, le)) here) in
      subst (λ (x : Context). HasLease (objects_of new) x job) (sym (same.context ∙ shared))
      (lease_new i k (part_of a) job (part_at old i a got) here (λ closing s. omega (arith, close_by asked refl closing, le)) was)

  -- where it has let go
  crash_by : (o : ObjectId) → (after.state ≡ Crashed → after.now ≡ reaps 0) → LetsGo after.now after o → HasNoneOut (own_lists (objects_of new) after.number) o
  crash_by o crash l = jobs_gone laws.ended after (own_lists (objects_of new) after.number) c.took.is stands_new crash o l

  reaped_by : (made : ℕ) (o : ObjectId) (b : Bool) → nat_lt (made + 1) (reap_count after.context after.hosts) ≡ b → LetsGo (if b then reaps (made + 1) else over) after o
      → (reap_place a.context a.hosts o < made + 1) ⊎ (reap_count a.context a.hosts ≤ made + 1)
  reaped_by made o true e l = inl (subst (λ (h : ℕ). reap_place a.context h o < made + 1) same.hosts (subst (λ (x : Context). reap_place x after.hosts o < made + 1) same.context l))
  reaped_by made o false e l =
      let count : reap_count after.context after.hosts ≡ reap_count a.context a.hosts = λ t. reap_count (same.context t) (same.hosts t) in
      inr (omega (arith, ltb-false (made + 1) (reap_count after.context after.hosts) e, count))

  gone_by : (now : Now) → a.now ≡ now → ReapsOn now after → AddsNow now a (seen_reply reply) gains.0 → HandsCall asked (asks_now now a) → (o : ObjectId) → LetsGo after.now after o → HasNoneOut (own_lists (objects_of new) after.number) o
  gone_by (works r) e g adds hands o l = crash_by o g l
  gone_by idles e g adds hands o l = crash_by o g l
  gone_by over e g adds hands o l = crash_by o g l
  gone_by (reaps made) e g adds hands o l =
      let shared = is.cast.shared i (part_of a) (part_at old i a got) in
      let is_new : AreMade (objects_of new) a.context a.hosts =
      subst (λ (h : ℕ). AreMade (objects_of new) a.context h) (sym shared.1) (subst (λ (x : Context). AreMade (objects_of new) x hosts) (sym shared.0) made_new) in
      subst (λ (n : ℕ). HasNoneOut (own_lists (objects_of new) n) o) (sym same.number)
      (reap_gone laws (objects_of old) (objects_of new) a.number a.context a.hosts made asked reply hands c.called.replies rdy.made is_new gains.0 adds gains.2
      (λ x h. place.gone x (subst (λ (n : Now). LetsGo n a x) (sym e) h)) o
      (reaped_by made o (nat_lt (made + 1) (reap_count after.context after.hosts)) refl (subst (λ (n : Now). LetsGo n after o) g.1 l)))

  sessions_by : (now : Now) → FitsNow now a → HasSessions now (objects_of old) a.number → GoesOn now (handed a) (seen_reply reply) after → ReapsOn now after → AdmitsNow now a (seen_reply reply) → AddsNow now a (seen_reply reply) gains.0
      → HandsCall asked (asks_now now a) → HasSessions after.now (objects_of new) a.number
  sessions_by (works r) f had goes g admits adds hands =
      work_sessions (objects_of old) (objects_of new) a.number r had gains.0 a after (own_lists (objects_of new) after.number) asked reply c.called f.1 admits hands adds goes stands_new g
  sessions_by (reaps made) f had goes g admits adds hands =
      reap_sessions a.number made a after asked reply (objects_of old) (objects_of new) c.called hands same.context same.hosts g.1
  sessions_by idles f had goes g admits adds hands = absurd adds
  sessions_by over f had goes g admits adds hands = absurd adds

  sessions_new : HasSessions after.now (objects_of new) after.number
  sessions_new =
      subst (HasSessions after.now (objects_of new)) (sym same.number)
      (sessions_by a.now place.is.now place.sessions c.took.goes c.took.reaps (laws.admitted (objects_of old) a asked reply rdy c.asks c.called.replies) gains.1 c.asks.asked)

  place_new : IsInPlace (objects_of new) after
  place_new =
      record {
        is = c.took.is;
        out = c.took.out;
        stands = stands_new;
        leases = leases_new;
        gone = gone_by a.now refl c.took.reaps gains.1 c.asks.asked;
        sessions = sessions_new;
      }

  pub keeps_called : IsWorld context hosts new
  keeps_called =
      world_of context hosts old new i a after got c.actors (part_same a after same) is made_new
      (λ other ne o. laws.gain.others (objects_of old) (objects_of new) a.number other asked reply c.called ne o)
      (λ j k p job part at ne h. lease_new j k p job part at (λ closing s. absurd (ne s)) h)
      (λ other now ne h. others_sessions now a.number other asked reply (objects_of old) (objects_of new) ne c.called h)
      place_new

-- ---- a turn

pub keeps_by : {O : Type 0} (laws : Laws) (objects : O → Option Stored) (faults : O → ℕ) (allows : Reply → Type 0) (context : Context) (hosts : ℕ) (old new : Seen O) (i : ℕ) (a : actor.Seen) (now : Now) → a.now ≡ now → IsWorld context hosts old → slice_get old.actors i ≡ Some a
    → StepsNow objects faults allows now old i a new → IsWorld context hosts new
keeps_by laws objects faults allows context hosts old new i a over e is got s = subst (IsWorld context hosts) (sym s) is
keeps_by laws objects faults allows context hosts old new i a idles e is got s = keeps_idled laws context hosts old new i a is got e s
keeps_by laws objects faults allows context hosts old new i a (works r) e is got s = keeps_called laws objects faults context hosts old new i a s.0 s.1 is got (λ o. absurd (cc)) s.2
keeps_by laws objects faults allows context hosts old new i a (reaps made) e is got s = keeps_called laws objects faults context hosts old new i a s.0 s.1 is got (λ o. absurd (cc)) s.2

-- ---- what a turn leaves of the actors

pub steps_cast : {O : Type 0} (objects : O → Option Stored) (faults : O → ℕ) (allows : Reply → Type 0) (old new : Seen O) (i : ℕ) (a : actor.Seen) (now : Now) → slice_get old.actors i ≡ Some a → StepsNow objects faults allows now old i a new → cast_of new ≡ cast_of old
steps_cast objects faults allows old new i a over got s = ap cast_of s
steps_cast objects faults allows old new i a idles got s = ap cast_of s.kept ∙ map_set part_of old.actors i a s.after got (part_same a s.after s.passed.same)
steps_cast objects faults allows old new i a (works r) got s = ap (map part_of) s.2.actors ∙ map_set part_of old.actors i a s.2.after got (part_same a s.2.after (same_handed a s.2.after s.2.took.same))
steps_cast objects faults allows old new i a (reaps made) got s = ap (map part_of) s.2.actors ∙ map_set part_of old.actors i a s.2.after got (part_same a s.2.after (same_handed a s.2.after s.2.took.same))

pub steps_others : {O : Type 0} (objects : O → Option Stored) (faults : O → ℕ) (allows : Reply → Type 0) (old new : Seen O) (i : ℕ) (a : actor.Seen) (now : Now) → StepsNow objects faults allows now old i a new → (j : ℕ) → j ≢ i → slice_get new.actors j ≡ slice_get old.actors j
steps_others objects faults allows old new i a over s j ne = ap (λ w. slice_get w.actors j) s
steps_others objects faults allows old new i a idles s j ne = ap (λ w. slice_get w.actors j) s.kept ∙ at_other old.actors i s.after j ne
steps_others objects faults allows old new i a (works r) s j ne = ap (λ (xs : List actor.Seen). slice_get xs j) s.2.actors ∙ at_other old.actors i s.2.after j ne
steps_others objects faults allows old new i a (reaps made) s j ne = ap (λ (xs : List actor.Seen). slice_get xs j) s.2.actors ∙ at_other old.actors i s.2.after j ne
