-- When players may begin, and in which order.
use Rattle.std.proofs.Common.{◌≡◌, ◌≤◌, ◌<◌, ◌+◌, ◌-◌, ℕ, zero, suc, List, [], ◌∷◌, length, map, Option, Some, None, slice_get, refl, sym, ap, subst, ◌∙◌, arith}
use Rattle.std.specs.List.{AllByRecursion}
use Rattle.lr_object.specs.declared.id.ObjectId.{ObjectId}
use Rattle.lr_device.specs.declared.call.DeviceCall.{DeviceCall}
use Rattle.lr_walk.specs.Calls.{DevicePlace}
use Rattle.lr_walk.specs.Jobs.{Context}
use Rattle.lr_script.specs.Seen.{JobSeen, Read, Zero, Write, Close, ScheduleSeen, Serial, Rounds, Pairs, ScriptSeen}
use Rattle.lr_script.specs.Within.{IsOfAfter, ActorJob, AfterJob, IsActor, AfterWithin, ScheduleWithin, IsWithin}
use Rattle.lr_actors.specs.Jobs.{Job, calls, closes, job_of}
use Rattle.lr_actors.specs.Actor as actor
use Rattle.lr_actors.specs.Actor.{IsNew, bounds_of, reaps_ahead}
use Rattle.lr_replies.specs.Objects.{own_lists}
use Rattle.lr_replies.specs.Replies.{AreMade, IsOut}
use Rattle.lr_world.specs.World as world
use Rattle.lr_world.specs.World.{Seen, objects_of, Part, cast_of, IsNumber, HasJob, HasCalls, HasNoClaims, IsCast, MayBegin}
use Rattle.lr_world.specs.Runs.{MaySchedule}
use Rattle.lr_play.specs.Players.{Player, crash_of, actors_from, actors_of, after_by, after_of}
use Rattle.lr_play.specs.Acting.{AreNew}
use Rattle.lr_play.specs.Played.{part_of}
use Rattle.lr_play.proofs.Lists.{zip_at, map_at, at_map, within, all_at}

-- ---- the cast of new actors

part_is : (context : Context) (hosts : ℕ) (p : Player) (a : actor.Seen) → IsNew p.number context hosts p.jobs p.crash a → world.part_of a ≡ part_of context hosts p
part_is context hosts p a new = λ i. record { number = new.number i; context = new.context i; hosts = new.hosts i; jobs = new.jobs i; crash = new.crash i }

pub cast_is : (context : Context) (hosts : ℕ) (players : List Player) (actors : List actor.Seen) → AreNew context hosts players actors → map world.part_of actors ≡ map (part_of context hosts) players
cast_is context hosts [] [] new = refl
cast_is context hosts [] (a ∷ actors) new = absurd new
cast_is context hosts (p ∷ players) [] new = absurd new
cast_is context hosts (p ∷ players) (a ∷ actors) new = λ i. part_is context hosts p a new.0 i ∷ cast_is context hosts players actors new.1 i

-- an actor is new as it is
as_made : (n : ℕ) (context : Context) (hosts : ℕ) (jobs : List Job) (crash : Option ℕ) (a : actor.Seen) → IsNew n context hosts jobs crash a → IsNew a.number a.context a.hosts a.jobs a.crash a
as_made n context hosts jobs crash a h = record {
  number = refl;
  context = refl;
  hosts = refl;
  jobs = refl;
  crash = refl;
  is = h.is;
  steps = h.steps;
  made = h.made;
  out = h.out;
  stands = h.stands;
  left = subst (λ (js : List Job). actor.left a ≤ bounds_of js + reaps_ahead a.crash a) (sym h.jobs) (subst (λ (o : Option ℕ). actor.left a ≤ bounds_of jobs + reaps_ahead o a) (sym h.crash) h.left);
}

-- ---- players

-- Numbers ascend from 1, and closes and device calls are apart.
pub record ArePlayers (players : List Player) : Type 0 where
  pub some : (i : ℕ) (p : Player) → slice_get players i ≡ Some p → 1 ≤ p.number
  pub ascending : (i j : ℕ) (p q : Player) → i < j → slice_get players i ≡ Some p → slice_get players j ≡ Some q → p.number < q.number
  pub apart : (i j k l device closed : ℕ) (asked : DeviceCall) (p q : Player) → slice_get players i ≡ Some p → slice_get players j ≡ Some q → slice_get p.jobs k ≡ Some (calls device asked) → slice_get q.jobs l ≡ Some (closes closed) → ⊥
  pub once : (i j k l device : ℕ) (p q : Player) → slice_get players i ≡ Some p → slice_get players j ≡ Some q → slice_get p.jobs k ≡ Some (closes device) → slice_get q.jobs l ≡ Some (closes device) → (i ≡ j) × (k ≡ l)

module _ (context : Context) (hosts : ℕ) (players : List Player) where
  abbrev parts : List Part
  parts = map (part_of context hosts) players

  player_at : (i : ℕ) (x : Part) → slice_get parts i ≡ Some x → (p : Player) × (slice_get players i ≡ Some p) × (part_of context hosts p ≡ x)
  player_at i x e = map_at (part_of context hosts) players i x e

  with_job : (i k : ℕ) (job : Job) → HasJob parts i k job → (p : Player) × (slice_get players i ≡ Some p) × (slice_get p.jobs k ≡ Some job)
  with_job i k job h = let a = player_at i h.0 h.1 in (a.0, a.1, ap (λ (x : Part). slice_get x.jobs k) a.2 ∙ h.2)

  pub is_cast : ArePlayers players → ((i j : ℕ) (p q : DevicePlace) → slice_get context.devices i ≡ Some p → slice_get context.devices j ≡ Some q → p.lease ≡ q.lease → i ≡ j) → IsCast context hosts parts
  is_cast are leases = record {
    shared = λ i x e. let a = player_at i x e in (
      sym (ap (λ (y : Part). y.context) a.2),
      sym (ap (λ (y : Part). y.hosts) a.2),
      subst (λ (y : Part). 1 ≤ y.number) a.2 (are.some i a.0 a.1),
    );
    ascending = λ i j x y less e f. let a = player_at i x e in let b = player_at j y f in
        subst (λ (z : Part). z.number < y.number) a.2 (subst (λ (z : Part). a.0.number < z.number) b.2 (are.ascending i j a.0 b.0 less a.1 b.1));
    leases = leases;
    apart = λ i j k l device closed asked h c. let a = with_job i k (calls device asked) h in let b = with_job j l (closes closed) c in are.apart i j k l device closed asked a.0 b.0 a.1 b.1 a.2 b.2;
    once = λ i j k l device h c. let a = with_job i k (closes device) h in let b = with_job j l (closes device) c in are.once i j k l device a.0 b.0 a.1 b.1 a.2 b.2;
  }

  -- new actors of these players may begin
  pub may_begin : {O : Type 0} (w : Seen O) → AreNew context hosts players w.actors → ArePlayers players
      → ((i j : ℕ) (p q : DevicePlace) → slice_get context.devices i ≡ Some p → slice_get context.devices j ≡ Some q → p.lease ≡ q.lease → i ≡ j)
      → AreMade (objects_of w) context hosts → ((i : ℕ) (p : Player) → slice_get players i ≡ Some p → (o : ObjectId) → own_lists (objects_of w) p.number o ≡ [])
      → ((device : ℕ) (place : DevicePlace) → slice_get context.devices device ≡ Some place → IsOut (objects_of w) place) → (HasCalls (cast_of w) → HasNoClaims (objects_of w)) → MayBegin context hosts w
  may_begin w new are leases made own out claims = record {
    cast = subst (IsCast context hosts) (sym (cast_is context hosts players w.actors new)) (is_cast are leases);
    made = made;
    new = λ i a e. let p = zip_at (λ (p : Player) (b : actor.Seen). IsNew p.number context hosts p.jobs p.crash b) players w.actors i a new e in as_made p.0.number context hosts p.0.jobs p.0.crash a p.2;
    own = λ i a e o. let p = zip_at (λ (p : Player) (b : actor.Seen). IsNew p.number context hosts p.jobs p.crash b) players w.actors i a new e in
        subst (λ (n : ℕ). own_lists (objects_of w) n o ≡ []) (sym p.2.number) (own i p.0 p.1 o);
    leases = out;
    claims = claims;
  }

-- ---- the players of a script

abbrev Actors : Type 0
Actors = List (List ℕ × List JobSeen)

actor_at : (crashes : List (ℕ × ℕ)) (number : ℕ) (actors : Actors) (i : ℕ) (p : Player) → slice_get (actors_from crashes number actors) i ≡ Some p
    → (p.number ≡ number + i) × ((a : List ℕ × List JobSeen) × (slice_get actors i ≡ Some a) × (p.jobs ≡ map job_of a.1))
actor_at crashes number [] i p e = absurd (cc)
actor_at crashes number (a ∷ actors) zero p e =
    let same : record { number = number; jobs = map job_of a.1; crash = crash_of crashes number } ≡ p = cc in
    let k : number ≡ number + 0 = omega arith in
    (sym (ap (λ (q : Player). q.number) same) ∙ k, (a, refl, sym (ap (λ (q : Player). q.jobs) same)))
actor_at crashes number (a ∷ actors) (suc i) p e =
    let more = actor_at crashes (number + 1) actors i p e in
    let k : (number + 1) + i ≡ number + suc i = omega arith in
    (more.0 ∙ k, more.1)

closed_line : (x : JobSeen) (device : ℕ) → job_of x ≡ closes device → x ≡ Close device
closed_line (Close d) device e = cc
closed_line x device e = absurd (cc)

-- the line of a close in a list of jobs
closed_at : (jobs : List JobSeen) (k device : ℕ) → slice_get (map job_of jobs) k ≡ Some (closes device) → slice_get jobs k ≡ Some (Close device)
closed_at jobs k device e = let a = map_at job_of jobs k (closes device) e in a.1 ∙ ap Some (closed_line a.0 device a.2)

not_after : (x : JobSeen) (device : ℕ) (asked : DeviceCall) → IsOfAfter x → job_of x ≡ calls device asked → ⊥
not_after (Read d offset len) device asked h e = h
not_after (Zero d offset len) device asked h e = h
not_after (Write d offset runs) device asked h e = h
not_after x device asked h e = absurd (cc)

module _ (script : ScriptSeen) (w : IsWithin script) where
  -- no actor closes
  pub actors_close_none : (i k device : ℕ) (p : Player) → slice_get (actors_of script) i ≡ Some p → slice_get p.jobs k ≡ Some (closes device) → ⊥
  actors_close_none i k device p e f =
      let a = actor_at script.crashes 1 script.actors i p e in
      let at = closed_at a.1.0.1 k device (ap (λ (js : List Job). slice_get js k) (sym a.1.2) ∙ f) in
      (all_at (ActorJob script) a.1.0.1 k (Close device) (all_at (λ (b : List ℕ × List JobSeen). AllByRecursion (ActorJob script) b.1) script.actors i a.1.0 w.actors a.1.1) at).1

  pub actors_are : ArePlayers (actors_of script)
  actors_are = record {
    some = λ i p e. let n : p.number ≡ 1 + i = (actor_at script.crashes 1 script.actors i p e).0 in omega (arith, n);
    ascending = λ i j p q less e f. let n : p.number ≡ 1 + i = (actor_at script.crashes 1 script.actors i p e).0 in let m : q.number ≡ 1 + j = (actor_at script.crashes 1 script.actors j q f).0 in omega (arith, n, m, less);
    apart = λ i j k l device closed asked p q e f h c. actors_close_none j l closed q f c;
    once = λ i j k l device p q e f h c. absurd (actors_close_none j l device q f c);
  }

  -- an actor's number is at most their count
  pub actor_number : (i : ℕ) (p : Player) → slice_get (actors_of script) i ≡ Some p → p.number ≤ length script.actors
  actor_number i p e =
      let a = actor_at script.crashes 1 script.actors i p e in
      let n : p.number ≡ 1 + i = a.0 in
      let l : i < length script.actors = within script.actors i a.1.0 a.1.1 in
      omega (arith, n, l)

  after_jobs : (number : ℕ) (after : Option (List JobSeen)) (i : ℕ) (p : Player) → slice_get (after_by number after) i ≡ Some p → (i ≡ 0) × (p.number ≡ number) × ((jobs : List JobSeen) × (after ≡ Some jobs) × (p.jobs ≡ map job_of jobs))
  after_jobs number None i p e = absurd (cc)
  after_jobs number (Some jobs) zero p e =
      let same : record { number = number; jobs = map job_of jobs; crash = None } ≡ p = cc in
      (refl, sym (ap (λ (q : Player). q.number) same), (jobs, refl, sym (ap (λ (q : Player). q.jobs) same)))
  after_jobs number (Some jobs) (suc i) p e = absurd (cc)

  after_fits : (jobs : List JobSeen) → script.after ≡ Some jobs → AfterWithin script (Some jobs)
  after_fits jobs e = subst (AfterWithin script) e w.after

  pub after_calls_none : (i k device : ℕ) (asked : DeviceCall) (p : Player) → slice_get (after_of script) i ≡ Some p → slice_get p.jobs k ≡ Some (calls device asked) → ⊥
  after_calls_none i k device asked p e f =
      let a = after_jobs (length script.actors + 1) script.after i p e in
      let at = map_at job_of a.2.0 k (calls device asked) (ap (λ (js : List Job). slice_get js k) (sym a.2.2) ∙ f) in
      not_after at.0 device asked (all_at (AfterJob script) a.2.0 k at.0 (after_fits a.2.0 a.2.1).0 at.1).1 at.2

  pub after_number : (i : ℕ) (p : Player) → slice_get (after_of script) i ≡ Some p → p.number ≡ length script.actors + 1
  after_number i p e = (after_jobs (length script.actors + 1) script.after i p e).1

  pub after_are : ArePlayers (after_of script)
  after_are = record {
    some = λ i p e. let n : p.number ≡ length script.actors + 1 = after_number i p e in omega (arith, n);
    ascending = λ i j p q less e f. let n : i ≡ 0 = (after_jobs (length script.actors + 1) script.after i p e).0 in let m : j ≡ 0 = (after_jobs (length script.actors + 1) script.after j q f).0 in absurd (omega (arith, n, m, less));
    apart = λ i j k l device closed asked p q e f h c. after_calls_none i k device asked p e h;
    once = λ i j k l device p q e f h c. once_of i j k l device p q (after_jobs (length script.actors + 1) script.after i p e) (after_jobs (length script.actors + 1) script.after j q f) h c;
  }
    where
      once_of : (i j k l device : ℕ) (p q : Player) → (i ≡ 0) × (p.number ≡ length script.actors + 1) × ((jobs : List JobSeen) × (script.after ≡ Some jobs) × (p.jobs ≡ map job_of jobs))
          → (j ≡ 0) × (q.number ≡ length script.actors + 1) × ((jobs : List JobSeen) × (script.after ≡ Some jobs) × (q.jobs ≡ map job_of jobs)) → slice_get p.jobs k ≡ Some (closes device) → slice_get q.jobs l ≡ Some (closes device) → (i ≡ j) × (k ≡ l)
      once_of i j k l device p q a b h c =
          let one : Some a.2.0 ≡ Some b.2.0 = sym a.2.1 ∙ b.2.1 in
          let same : b.2.0 ≡ a.2.0 = cc in
          let first = closed_at a.2.0 k device (ap (λ (js : List Job). slice_get js k) (sym a.2.2) ∙ h) in
          let second = subst (λ (js : List JobSeen). slice_get js l ≡ Some (Close device)) same (closed_at b.2.0 l device (ap (λ (js : List Job). slice_get js l) (sym b.2.2) ∙ c)) in
          (a.0 ∙ sym b.0, (after_fits a.2.0 a.2.1).1 k l device first second)

-- ---- the schedule

numbered : (crashes : List (ℕ × ℕ)) (number : ℕ) (actors : Actors) (i : ℕ) → i < length actors → (p : Player) × (slice_get (actors_from crashes number actors) i ≡ Some p)
numbered crashes number [] i l = absurd (omega arith)
numbered crashes number (a ∷ actors) zero l = (record { number = number; jobs = map job_of a.1; crash = crash_of crashes number }, refl)
numbered crashes number (a ∷ actors) (suc i) l = numbered crashes (number + 1) actors i (omega arith)

pub is_number : (script : ScriptSeen) (context : Context) (hosts n : ℕ) → IsActor script n → IsNumber (map (part_of context hosts) (actors_of script)) n
is_number script context hosts n is =
    let some = is.0 in
    let most = is.1 in
    let a = numbered script.crashes 1 script.actors (n - 1) (omega (arith, some, most)) in
    let number : a.0.number ≡ 1 + (n - 1) = (actor_at script.crashes 1 script.actors (n - 1) a.0 a.1).0 in
    (n - 1, part_of context hosts a.0, at_map (part_of context hosts) (actors_of script) (n - 1) a.0 a.1, omega (arith, number, some))

pub may_schedule : {O : Type 0} (script : ScriptSeen) (context : Context) (hosts : ℕ) (w : Seen O) → IsWithin script → cast_of w ≡ map (part_of context hosts) (actors_of script) → HasNoClaims (objects_of w)
    → (s : ScheduleSeen) → ScheduleWithin script s → MaySchedule s w
may_schedule script context hosts w within cast free Serial h = λ has. free
may_schedule script context hosts w within cast free Rounds h = tt
may_schedule script context hosts w within cast free (Pairs pairs rounds) h = λ i p e.
    subst (λ (parts : List Part). IsNumber parts p.0) (sym cast) (is_number script context hosts p.0 (all_at (λ (q : ℕ × ℕ). IsActor script q.0 × (1 ≤ q.1)) pairs i p h.0 e).0)
