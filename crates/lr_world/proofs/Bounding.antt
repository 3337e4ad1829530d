-- What actors make stays within the bounds of their jobs.
use Rattle.std.proofs.Common.{◌≡◌, ◌≤◌, ◌+◌, ℕ, List, [], ◌∷◌, ◌++◌, map, Bool, true, false, cond, Option, Some, slice_get, refl, ap, sym, subst, ◌∙◌, inl, inr, arith}
use Rattle.std.specs.Prelude.{◌≢◌, ◌⊎◌, ⊤}
use Rattle.std.specs.List.{count_by}
use Rattle.std.proofs.Math.ListN.{set}
use Rattle.std.proofs.lemmas.List.{map-append}
use Rattle.std.proofs.lemmas.List.Sums.{sum_by-append, sum_by-cons}
use Rattle.std.proofs.lemmas.Option.{slice_get_within}
use Rattle.lr_object.specs.Own.{own_entries}
use Rattle.lr_object.specs.declared.id.ObjectId.TheVariants.{Depot}
use Rattle.lr_object.proofs.OwnEntries.{own_entries-own}
use Rattle.lr_origin.specs.Objects.{Objects as Stored}
use Rattle.lr_depot.specs.declared.call.DepotCall.{DepotCall}
use Rattle.lr_depot.specs.declared.call.DepotReply.{DepotReply}
use Rattle.lr_depot.specs.declared.call.DepotReply.TheVariants as told
use Rattle.lr_depot.specs.declared.call.DepotTold.{DepotTold}
use Rattle.lr_depot.specs.Machine.{LogEntry, Enters, IsTold, is_logged}
use Rattle.lr_walk.specs.Steps.{Reply, by_cache, by_depot, Step}
use Rattle.lr_walk.specs.Cache as caches
use Rattle.lr_walk.specs.Depot as depots
use Rattle.lr_walk.specs.Jobs.{Context}
use Rattle.lr_history.specs.Lists.{depot_entry}
use Rattle.lr_actors.specs.declared.action.ActorCall.{ActorCall}
use Rattle.lr_actors.specs.declared.action.ActorCall.TheVariants as call
use Rattle.lr_actors.specs.declared.action.ActorReply.{ActorReply}
use Rattle.lr_actors.specs.declared.action.ActorReply.TheVariants as by
use Rattle.lr_actors.specs.declared.trail.ActorState.TheVariants.{Unfinished, Crashed}
use Rattle.lr_actors.specs.declared.running.Running.{Running}
use Rattle.lr_actors.specs.Asked.{seen_reply}
use Rattle.lr_actors.specs.Body.{is_removal}
use Rattle.lr_actors.specs.Jobs.{Job}
use Rattle.lr_actors.specs.Actor as actor
use Rattle.lr_actors.specs.Actor.{Now, works, idles, reaps, over, IsActor, IsSame, IsNew, FitsNow, ReapsOn, Nears, adds_one, steps_made, bounds_of, reaps_ahead, left, now_left}
use Rattle.lr_replies.specs.Objects.{Objects, own_lists, Logs, Calls}
use Rattle.lr_world.specs.Laws.{Laws}
use Rattle.lr_world.specs.World.{Seen, objects_of, part_of, IsWorld, StepsNow, Steps}
use Rattle.lr_world.specs.Runs.{Runs, none, more}
use Rattle.lr_world.specs.Bounded.{removes, removals, jobs_left, StaysWithin, AreBounded}
use Rattle.lr_world.proofs.Places.{at_same}
use Rattle.lr_world.proofs.Leases.{same_or_not}
use Rattle.lr_world.proofs.Nearing.{least_left, is_unfinished, ahead_same}
use Rattle.lr_world.proofs.Kept.{near, same_handed, steps_others}
use Rattle.lr_world.proofs.Alone.{still_there, part_number, others_stay}
use Rattle.lr_world.proofs.Found.{one_number, same_actor}
use Rattle.lr_world.proofs.Leaving.{runs_keep, runs_leave}

-- ---- removals are behind their list

abbrev removed_by : Reply → ℕ
removed_by (by_depot (depots.removed key)) = 1
removed_by reply = 0

-- the keys that a caller removed, by the depot's log
abbrev removed_in : ℕ → List LogEntry → ℕ
removed_in n log = count_by removes (map depot_entry (own_entries n log))

removed_more : (n : ℕ) (log : List LogEntry) (e : LogEntry) → e.caller ≡ n → removed_in n (log ++ e ∷ []) ≡ removed_in n log + count_by removes (depot_entry e ∷ [])
removed_more n log e c =
    ap (count_by removes) (ap (map depot_entry) (own_entries-own n log e c) ∙ map-append depot_entry (own_entries n log) (e ∷ []))
    ∙ sum_by-append (λ (s : Step). cond (removes s) 1 0) (map depot_entry (own_entries n log)) (depot_entry e ∷ [])

removed_told : (r : DepotReply) (t : DepotTold) → IsTold r t → removed_by (by_depot (depots.seen_reply r)) ≤ cond (is_removal (by_depot (depots.seen_told t))) 1 0
removed_told (told.Removed k) t e = rw e (omega arith)
removed_told r t e = omega arith

removed_unlogged : (r : DepotReply) → is_logged r ≡ false → removed_by (by_depot (depots.seen_reply r)) ≡ 0
removed_unlogged (told.Removed k) e = absurd (cc)
removed_unlogged r e = refl

removed_log : (n : ℕ) (c : DepotCall) (r : DepotReply) (old new : List LogEntry) (b : Bool) → is_logged r ≡ b → Logs b (λ e. Enters c r e) n old new → removed_in n old + removed_by (by_depot (depots.seen_reply r)) ≤ removed_in n new
removed_log n c r old new true e l =
    let one : count_by removes (depot_entry l.0 ∷ []) ≡ cond (is_removal (by_depot (depots.seen_told l.0.reply))) 1 0 + 0 = sum_by-cons (λ (s : Step). cond (removes s) 1 0) (depot_entry l.0) [] in
    omega (arith, one, ap (removed_in n) l.1, removed_more n old l.0 l.2, removed_told r l.0.reply l.3.told)
removed_log n c r old new false e l = omega (arith, ap (removed_in n) l, removed_unlogged r e)

removed_call : (n : ℕ) (asked : ActorCall) (reply : ActorReply) (old new : Objects) → Calls n asked reply old new → removals (own_lists old n) + removed_by (seen_reply reply) ≤ removals (own_lists new n)
removed_call n (call.Device h asked) (by.Device r) old new c = omega (arith, ap (removed_in n) c.others.2)
removed_call n (call.Cache h asked) (by.Cache r) old new c = omega (arith, ap (removed_in n) c.others.2)
removed_call n (call.Node h asked) (by.Node r) old new c = omega (arith, ap (removed_in n) c.others.2)
removed_call n (call.Depot asked) (by.Depot r) old new c = removed_log n asked r old.depot new.depot (is_logged r) refl c.logs
removed_call n asked reply old new c = absurd c.replies

-- ---- the steps left of jobs

left_of_jobs : (now : Now) (a : actor.Seen) → FitsNow now a → a.state ≡ Unfinished → now_left now a ≡ jobs_left now a + reaps_ahead a.crash a
left_of_jobs (works r) a f u = omega arith
left_of_jobs idles a f u = refl
left_of_jobs (reaps made) a f u = absurd (let c = f.0 in cc)
left_of_jobs over a f u = absurd (f.0 u)

none_left : (now : Now) (a : actor.Seen) → FitsNow now a → (a.state ≡ Unfinished → ⊥) → jobs_left now a ≡ 0
none_left (works r) a f n = absurd (n f.0)
none_left idles a f n = absurd (n f.0)
none_left (reaps made) a f n = refl
none_left over a f n = refl

nears_cancel : (r : Reply) (x y k m n : ℕ) → m ≡ x + k → n ≡ y + k → Nears r m n → Nears r x y
nears_cancel (by_cache (caches.busy holder)) x y k m n e f h = omega (arith, e, f, h)
nears_cancel (by_depot (depots.removed key)) x y k m n e f h = omega (arith, e, f, h)
nears_cancel r x y k m n e f h = omega (arith, e, f, h)

nears_none : (r : Reply) (x y : ℕ) → 1 ≤ x → y ≡ 0 → Nears r x y
nears_none (by_cache (caches.busy holder)) x y h e = omega (arith, h, e)
nears_none (by_depot (depots.removed key)) x y h e = omega (arith, h, e)
nears_none r x y h e = omega (arith, h, e)

-- a reply brings the jobs of an unfinished actor nearer to their end
nears_jobs : (a b : actor.Seen) (r : Reply) → IsActor a → IsActor b → IsSame a b → a.state ≡ Unfinished → Nears r (left a) (left b) → Nears r (jobs_left a.now a) (jobs_left b.now b)
nears_jobs a b r was is same u h = by (is_unfinished b.state)
  where
    at_first : left a ≡ jobs_left a.now a + reaps_ahead a.crash a
    at_first = left_of_jobs a.now a was.now u

    by : (b.state ≡ Unfinished) ⊎ (b.state ≡ Unfinished → ⊥) → Nears r (jobs_left a.now a) (jobs_left b.now b)
    by (inl v) =
        nears_cancel r (jobs_left a.now a) (jobs_left b.now b) (reaps_ahead a.crash a) (left a) (left b) at_first
        (left_of_jobs b.now b is.now v ∙ ap (λ (k : ℕ). jobs_left b.now b + k) (ahead_same a b was is same)) h
    by (inr n) = nears_none r (jobs_left a.now a) (jobs_left b.now b) (omega (arith, least_left a u was, at_first)) (none_left b.now b is.now n)

-- ---- one step

-- what one made and may still make, with the removals of the other's lists
abbrev Within : {O : Type 0} → Seen O → Seen O → actor.Seen → actor.Seen → Type 0
Within old new a b = steps_made b + jobs_left b.now b + removals (own_lists (objects_of old) a.number) ≤ steps_made a + jobs_left a.now a + removals (own_lists (objects_of new) a.number)

add_up : (r : Reply) (made after x y few many : ℕ) (run : Running) → after ≡ made + adds_one (works run) r → Nears r x y → few + removed_by r ≤ many → after + y + few ≤ made + x + many
add_up (by_cache (caches.busy holder)) made after x y few many run e h k = omega (arith, e, h, k)
add_up (by_depot (depots.removed key)) made after x y few many run e h k = omega (arith, e, h, k)
add_up r made after x y few many run e h k = omega (arith, e, h, k)

module _ {O : Type 0} (laws : Laws) (objects : O → Option Stored) (faults : O → ℕ) (context : Context) (hosts : ℕ) (old new : Seen O) (is : IsWorld context hosts old) (i : ℕ) (a : actor.Seen) (got : slice_get old.actors i ≡ Some a) where
  after_is : (x b : actor.Seen) → new.actors ≡ set old.actors i x → slice_get new.actors i ≡ Some b → x ≡ b
  after_is x b e there =
      let s : Some x ≡ Some b = sym (at_same old.actors i x (slice_get_within old.actors i a got)) ∙ ap (λ (l : List actor.Seen). slice_get l i) (sym e) ∙ there in
      cc

  acted : (now : Now) → a.now ≡ now → FitsNow now a → StepsNow objects faults (λ reply. ⊤) now old i a new → (b : actor.Seen) → slice_get new.actors i ≡ Some b → Within old new a b
  acted over e f s b there =
      let same : b ≡ a = same_actor old.actors i b a (ap (λ w. slice_get w.actors i) (sym s) ∙ there) got in
      omega (arith, ap (λ (x : actor.Seen). steps_made x + jobs_left x.now x) same, ap (λ w. removals (own_lists (objects_of w) a.number)) s)
  acted idles e f s b there =
      let same : s.after ≡ b = after_is s.after b (ap (λ w. w.actors) s.kept) there in
      let near : Nears (by_depot depots.nothing) (jobs_left a.now a) (jobs_left s.after.now s.after) = nears_jobs a s.after (by_depot depots.nothing) (is.actors i a got).is s.passed.is s.passed.same f.0 s.passed.nears in
      omega (arith, near, s.passed.made, ap (λ (x : actor.Seen). steps_made x + jobs_left x.now x) same, ap (λ w. removals (own_lists (objects_of w) a.number)) s.kept)
  acted (works r) e f s b there =
      let c = s.2 in
      let same : c.after ≡ b = after_is c.after b c.actors there in
      let nears : Nears (seen_reply s.1) (jobs_left a.now a) (jobs_left c.after.now c.after) =
      nears_jobs a c.after (seen_reply s.1) (is.actors i a got).is c.took.is (same_handed a c.after c.took.same) f.0 (near laws objects faults context hosts old new i a s.0 s.1 is got (λ o. absurd (cc)) c) in
      subst (Within old new a) same
      (add_up (seen_reply s.1) (steps_made a) (steps_made c.after) (jobs_left a.now a) (jobs_left c.after.now c.after) (removals (own_lists (objects_of old) a.number)) (removals (own_lists (objects_of new) a.number)) r
      (subst (λ (n : Now). steps_made c.after ≡ steps_made a + adds_one n (seen_reply s.1)) e c.took.made) nears (removed_call a.number s.0 s.1 (objects_of old) (objects_of new) c.called))
  acted (reaps made) e f s b there =
      let c = s.2 in
      let same : c.after ≡ b = after_is c.after b c.actors there in
      let crashed : c.after.state ≡ Crashed = (subst (λ (n : Now). ReapsOn n c.after) e c.took.reaps).0 in
      let left_none : jobs_left c.after.now c.after ≡ 0 = none_left c.after.now c.after c.took.is.now (λ u. absurd (cc)) in
      let before : jobs_left a.now a ≡ 0 = ap (λ (n : Now). jobs_left n a) e in
      let made : steps_made c.after ≡ steps_made a + 0 = subst (λ (n : Now). steps_made c.after ≡ steps_made a + adds_one n (seen_reply s.1)) e c.took.made in
      subst (Within old new a) same (omega (arith, left_none, before, made, removed_call a.number s.0 s.1 (objects_of old) (objects_of new) c.called))

-- ---- a run

module _ {O : Type 0} (laws : Laws) (objects : O → Option Stored) (faults : O → ℕ) (context : Context) (hosts : ℕ) (old : Seen O) (is : IsWorld context hosts old) (j : ℕ) (a : actor.Seen) (got : slice_get old.actors j ≡ Some a) where
  within_more : (mid new : Seen O) (earlier : List ℕ) (number : ℕ) (b : actor.Seen) → Runs objects faults old earlier mid → Steps objects faults mid number new → slice_get new.actors j ≡ Some b
      → ((m : actor.Seen) → slice_get mid.actors j ≡ Some m → Within old mid a m) → Within old new a b
  within_more mid new earlier number b r s there within = by (same_or_not j s.0)
    where
      world : IsWorld context hosts mid
      world = runs_keep laws objects faults context hosts old mid earlier is r

      known : (m : actor.Seen) × (slice_get mid.actors j ≡ Some m) × (part_of m ≡ part_of a)
      known = still_there old mid j a (runs_leave laws objects faults old mid earlier r).cast got

      number_is : known.0.number ≡ a.number
      number_is = part_number known.0 a known.2

      before : Within old mid a known.0
      before = within known.0 known.1

      on : Within mid new known.0 b → Within old new a b
      on h = omega (arith, before, subst (λ (n : ℕ). steps_made b + jobs_left b.now b + removals (own_lists (objects_of mid) n) ≤ steps_made known.0 + jobs_left known.0.now known.0 + removals (own_lists (objects_of new) n)) number_is h)

      by : (j ≡ s.0) ⊎ (j ≢ s.0) → Within old new a b
      by (inl e) =
          let same : s.1 ≡ known.0 = same_actor mid.actors j s.1 known.0 (ap (slice_get mid.actors) e ∙ s.2) known.1 in
          on (subst (λ (m : actor.Seen). Within mid new m b) same
          (acted laws objects faults context hosts mid new world s.0 s.1 s.2 s.1.now refl (world.actors s.0 s.1 s.2).is.now s.4 b (ap (slice_get new.actors) (sym e) ∙ there)))
      by (inr ne) =
          let at_j : slice_get mid.actors j ≡ Some b = sym (steps_others objects faults (λ reply. ⊤) mid new s.0 s.1 s.1.now s.4 j ne) ∙ there in
          let same : b ≡ known.0 = same_actor mid.actors j b known.0 at_j known.1 in
          let other : known.0.number ≢ s.1.number = λ f. ne (one_number context hosts mid j s.0 known.0 s.1 world known.1 s.2 f) in
          let lists : removals (own_lists (objects_of new) known.0.number) ≡ removals (own_lists (objects_of mid) known.0.number) =
          ap (count_by removes) (others_stay laws objects faults (λ reply. ⊤) mid new s.0 s.1 s.1.now s.4 known.0.number other Depot) in
          on (omega (arith, ap (λ (x : actor.Seen). steps_made x + jobs_left x.now x) same, lists))

  runs_within : (new : Seen O) (steps : List ℕ) → Runs objects faults old steps new → (b : actor.Seen) → slice_get new.actors j ≡ Some b → Within old new a b
  runs_within new steps none b there = omega (arith, ap (λ (x : actor.Seen). steps_made x + jobs_left x.now x) (same_actor old.actors j b a there got))
  runs_within new steps (more {mid = mid} {steps = earlier} r number s) b there = within_more mid new earlier number b r s there (λ m e. runs_within mid earlier r m e)

pub stays_within : {O : Type 0} (laws : Laws) (objects : O → Option Stored) (faults : O → ℕ) (context : Context) (hosts : ℕ) (old new : Seen O) (steps : List ℕ) → IsWorld context hosts old → Runs objects faults old steps new → StaysWithin old new
stays_within laws objects faults context hosts old new steps is r = λ i a b e f. runs_within laws objects faults context hosts old is i a e new steps r b f

-- ---- new actors

new_left : (number : ℕ) (context : Context) (hosts : ℕ) (jobs : List Job) (crash : Option ℕ) (a : actor.Seen) → IsNew number context hosts jobs crash a → jobs_left a.now a ≤ bounds_of jobs
new_left number context hosts jobs crash a new = by (is_unfinished a.state)
  where
    by : (a.state ≡ Unfinished) ⊎ (a.state ≡ Unfinished → ⊥) → jobs_left a.now a ≤ bounds_of jobs
    by (inl u) = omega (arith, left_of_jobs a.now a new.is.now u, new.left, ap (λ (c : Option ℕ). reaps_ahead c a) new.crash)
    by (inr n) = omega (arith, none_left a.now a new.is.now n)

pub are_bounded : {O : Type 0} (old new : Seen O) → StaysWithin old new → AreBounded old new
are_bounded old new within = λ i number context hosts jobs crash a b e f is.
    omega (arith, within i a b e f, is.made, new_left number context hosts jobs crash a is, ap (λ (n : ℕ). removals (own_lists (objects_of new) n)) is.number)
