-- a whole actor: what its calls say
use Rattle.std.proofs.Common.{◌≡◌, ◌⊎◌, inl, inr, ◌≤◌, ◌<◌, ℕ, zero, suc, ◌+◌, ◌-◌, List, [], ◌∷◌, ◌++◌, length, take, drop, Bool, true, false, cond, Option, Some, None, refl, sym, ap, subst, ◌∙◌, arith, append-nil, lt-ltb, le-ltb}
use Rattle.std.specs.Prelude.{vec_len, nat_lt, if◌then◌else◌}
use Rattle.std.specs.Arc.{arc_value}
use Rattle.std.specs.List.{AllZip}
use Rattle.std.proofs.lemmas.List.{length-map}
use borrow.Author.Tests.{ltb-true, ltb-false}
use Rattle.lr_spec.specs.Rose.{next_count}
use Rattle.lr_object.specs.declared.id.ObjectId.{ObjectId}
use Rattle.lr_object.specs.declared.id.ObjectId.TheVariants.{Device, Cache, Node, Depot}
use Rattle.lr_walk.specs.declared.trail.Answer.TheVariants.{NoChunk}
use Rattle.lr_walk.specs.declared.trail.JobResult.{JobResult}
use Rattle.lr_walk.specs.Steps.{Call, Reply, by_device, by_cache, by_depot, Step, step, object_of, is_memory}
use Rattle.lr_walk.specs.Cache as caches
use Rattle.lr_walk.specs.Depot as depots
use Rattle.lr_walk.specs.Device as devices
use Rattle.lr_walk.specs.Jobs.{Context}
use Rattle.lr_walk.specs.Trails.{Lists, is_same, places, IsReap, AreReaps}
use Rattle.lr_actors.specs.declared.trail.ActorState.{ActorState}
use Rattle.lr_actors.specs.declared.trail.ActorState.TheVariants.{Ended, Crashed, Unfinished}
use Rattle.lr_actors.specs.declared.running.Running.{Running}
use Rattle.lr_actors.specs.declared.book.Book.{Book}
use Rattle.lr_actors.specs.declared.body.Setting.{Setting}
use Rattle.lr_actors.specs.declared.body.Working.{Working}
use Rattle.lr_actors.specs.declared.body.Stage.{Stage}
use Rattle.lr_actors.specs.declared.body.Stage.TheVariants.{Works, Idles, Reaps, Over}
use Rattle.lr_actors.specs.Running.{steps_left}
use Rattle.lr_actors.specs.Jobs.{Job}
use Rattle.lr_actors.specs.Records.{HasWalk, HasTrail}
use Rattle.lr_actors.specs.Accounts.{Grows, Stands}
use Rattle.lr_actors.specs.Book.{IsNewBook}
use Rattle.lr_actors.specs.Actor.{works, Seen, IsUnreaped, reap_count, reap_at, reap_place, reap_of, StandsReaped, reaps_of, StandsNow, StandsFor, steps_in, steps_made, AreEnded, AreCutOnce, FitsState, FitsCrash, NextJob, FitsNow, IsActor, bounds_of, reaps_ahead, left, IsNew, Fronts, GrowsBy, Gains, adds_one, Nears, Took, Passed}
use Rattle.lr_actors.specs.Actor as actor
use Rattle.lr_actors.specs.Trailed.{IsTrailOf}
use Rattle.lr_actors.specs.Body.{context_of, hosts_of, jobs_of, seen_with, HasEnded, IsBetween, IsWhole, StandsBook, ahead, Prepares, IsCutAt, Fills, EndsJob, steps_of, Takes, after_reap}
use Rattle.lr_actors.proofs.Accounted.{walk_extended, same_is, extends_by, has_trail, stands_new, Extends}
use Rattle.lr_actors.proofs.Going.{take_front, jobs_len, ahead_at, bound_some, no_steps}
use Rattle.lr_actors.proofs.Ending.{ended_once}
use Rattle.lr_actors.proofs.Taking.{cut_at, with_steps}

-- ---- the invariant

pub actor_of : (s : Setting) (b : Book) (st : Stage) → IsWhole s b st → IsActor (seen_with s b st)
actor_of s b st w = record {
  context = w.setting.context;
  hosted = w.setting.hosted;
  jobs = w.setting.jobs;
  state = w.state;
  crash = subst (λ (n : ℕ). FitsCrash s.crash b.trail.state n) w.fits.is.made w.crash;
  now = w.now;
}

pub whole_has : (s : Setting) (b : Book) (st : Stage) → IsWhole s b st → b.trail.state ≡ Unfinished → HasEnded s b
whole_has s b st w e =
    let f = subst (λ (q : ActorState). FitsState q (seen_with s b st)) e w.state in
    record { fits = w.fits; state = e; ended = f.0; few = omega (arith, f.1, jobs_len s) }

pub whole_crash : (s : Setting) (b : Book) (st : Stage) → IsWhole s b st → b.trail.state ≡ Unfinished → FitsCrash s.crash Unfinished b.made
whole_crash s b st w e = subst (λ (q : ActorState). FitsCrash s.crash q b.made) e w.crash

ahead_is : (crash : Option ℕ) (a c : Seen) → a.context ≡ c.context → a.hosts ≡ c.hosts → reaps_ahead crash a ≡ reaps_ahead crash c
ahead_is None a c e h = refl
ahead_is (Some n) a c e h = rw (e, h) refl

pub ahead_same : (s : Setting) (b c : Book) (st su : Stage) (n : ℕ) → ahead s b st n ≡ ahead s c su n
ahead_same s b c st su n = ap (λ (k : ℕ). bounds_of (drop n (jobs_of s)) + k) (ahead_is s.crash (seen_with s b st) (seen_with s c su) refl refl)

-- ---- what is handed out

pub fronts_of : (s : Setting) (b : Book) (st : Stage) → IsWhole s b st → Fronts (seen_with s b st)
fronts_of s b (Works w) h lists reply more stands admits adds =
    let job = h.now.1 in
    let front = job.2.front stands.1.0 more reply admits adds stands.1.2 in
    (stands.1.0, stands.1.1, (job.0, job.1, (front.0, front.1, job.2.task ((stands.1.0 ++ more) ++ front.0) front.1 front.2)))
fronts_of s b Idles h lists reply more stands admits adds = tt
fronts_of s b (Reaps made out) h lists reply more stands admits adds = tt
fronts_of s b Over h lists reply more stands admits adds = tt

-- ---- a reply to a job

adds_is : (r : Running) (reply : Reply) → adds_one (works r) reply ≡ steps_of reply
adds_is r (by_cache (caches.busy holder)) = refl
adds_is r reply = refl

near_of : (reply : Reply) (old old2 new : ℕ) → old ≡ old2 → Nears reply old new → Nears reply old2 new
near_of reply old old2 new e n = rw (← e) n

pub took_job : (s : Setting) (b new : Book) (w : Working) (st : Stage) (reply : Reply) → IsWhole s b (Works w) → Takes s b w.job reply new st → Took (seen_with s b (Works w)) reply (seen_with s new st)
took_job s b new w st reply h k = record {
  same = record { number = refl; context = refl; hosts = refl; jobs = refl; crash = refl };
  is = actor_of s new st k.whole;
  out = k.out;
  reaps = k.reaps;
  steps = rw h.now.0 k.steps;
  made = sym k.whole.fits.is.made ∙ (k.made ∙ (ap (λ (n : ℕ). n + steps_of reply) h.fits.is.made ∙ ap (λ (n : ℕ). (steps_in b.trail.results.items + length b.path.items) + n) (sym (adds_is w.job reply))));
  stands = λ lists later gains stands. k.stands lists later gains.0 gains.1 gains.2 stands.0 stands.1;
  goes = λ steps more stands adds. k.goes steps more stands adds;
  nears = near_of reply _ _ _ (ap (λ (n : ℕ). steps_left w.job + n) (ahead_same s new b st (Works w) (length b.trail.results.items + 1))) k.nears;
}

-- ---- reaps

-- the object of a reap
record IsReapAt (context : Context) (hosts made : ℕ) (o : ObjectId) : Type 0 where
  unreaped : IsUnreaped context hosts made o
  last : IsUnreaped context hosts (made + 1) o → ⊥
  call : IsReap (reap_of o)
  object : object_of (reap_of o) ≡ o

reap_by : (context : Context) (hosts made : ℕ) (x y : Bool) → nat_lt made (length context.devices) ≡ x → nat_lt made (length context.devices + hosts) ≡ y → made < reap_count context hosts
    → IsReapAt context hosts made (if x then Device made else (if y then Cache (made - length context.devices) else Depot))
reap_by context hosts made true y ex ey h = record { unreaped = omega arith; last = λ e. omega arith; call = tt; object = refl }
reap_by context hosts made false true ex ey h =
    let ge : length context.devices ≤ made = ltb-false made (length context.devices) ex in
    record { unreaped = omega arith; last = λ e. omega arith; call = tt; object = refl }
reap_by context hosts made false false ex ey h =
    let ge : length context.devices + hosts ≤ made = ltb-false made (length context.devices + hosts) ey in
    record { unreaped = omega arith; last = λ e. omega arith; call = tt; object = refl }

reap_is : (context : Context) (hosts made : ℕ) → made < reap_count context hosts → IsReapAt context hosts made (reap_at context hosts made)
reap_is context hosts made h = reap_by context hosts made (nat_lt made (length context.devices)) (nat_lt made (length context.devices + hosts)) refl refl h

unreaped_less : (context : Context) (hosts made : ℕ) (o : ObjectId) → IsUnreaped context hosts (made + 1) o → IsUnreaped context hosts made o
unreaped_less context hosts made (Device n) u = omega arith
unreaped_less context hosts made (Cache n) u = omega arith
unreaped_less context hosts made (Node n) u = tt
unreaped_less context hosts made Depot u = omega arith

-- a reap adds nothing, or itself
reaps_one : (call : Call) (reply : Reply) (more : List Step) → actor.Reaps call reply more → (more ≡ []) ⊎ (more ≡ step call reply ∷ [])
reaps_one call (by_device devices.nothing) more e = inl e
reaps_one call (by_cache caches.nothing) more e = inl e
reaps_one call (by_depot depots.nothing) more e = inl e
reaps_one call reply more e = inr e

zip_extended : (context : Context) (old new : Lists) (jobs : List Job) (results : List JobResult) → Extends old new → AllZip (λ (job : Job) (r : JobResult). HasWalk context old job r.path.items r.answer) jobs results
    → AllZip (λ (job : Job) (r : JobResult). HasWalk context new job r.path.items r.answer) jobs results
zip_extended context old new [] [] x z = tt
zip_extended context old new [] (r ∷ results) x z = absurd z
zip_extended context old new (j ∷ jobs) [] x z = absurd z
zip_extended context old new (j ∷ jobs) (r ∷ results) x z = (walk_extended context old new j r.path.items r.answer x z.0, zip_extended context old new jobs results x z.1)

reaped_same : (a : Seen) (lists later : Lists) (made : ℕ) → ((o : ObjectId) → later o ≡ lists o) → StandsReaped a lists made → StandsReaped a later (made + 1)
reaped_same a lists later made same s = record {
  trail = record {
    walks = zip_extended a.context lists later a.jobs a.account.results (λ o. ([], same o ∙ sym (append-nil (lists o)))) s.trail.walks;
    counted = s.trail.counted;
    beyond = λ o. rw (same o) (s.trail.beyond o);
  };
  rest = λ o u. ap length (same o) ∙ s.rest o (unreaped_less a.context a.hosts made o u);
}

drop_front : (xs : List Step) (x : Step) (n : ℕ) → length xs ≡ n → drop n (xs ++ x ∷ []) ≡ x ∷ []
drop_front [] x zero e = refl
drop_front [] x (suc n) e = absurd (omega arith)
drop_front (y ∷ xs) x zero e = absurd (omega arith)
drop_front (y ∷ xs) x (suc n) e = drop_front xs x n (omega arith)

reaped_beyond : (a : Seen) (lists later : Lists) (made : ℕ) (x : Step) (o : ObjectId) (b : Bool) → is_same (object_of x.call) o ≡ b → (is_same (object_of x.call) o ≡ true → length (lists o) ≡ length (places o a.account.results)) → IsReap x.call
    → later o ≡ cond b (lists o ++ x ∷ []) (lists o) → HasTrail a.context lists a.jobs a.account.results → AreReaps (drop (length (places o a.account.results)) (later o))
reaped_beyond a lists later made x o true e whole is later_is t = rw (later_is, drop_front (lists o) x (length (places o a.account.results)) (whole e)) ((is, tt), omega arith)
reaped_beyond a lists later made x o false e whole is later_is t = rw later_is (t.beyond o)

reaped_rest : (a : Seen) (lists later : Lists) (made : ℕ) (x : Step) (o : ObjectId) (b : Bool) → is_same (object_of x.call) o ≡ b → later o ≡ cond b (lists o ++ x ∷ []) (lists o) → (is_same (object_of x.call) o ≡ true → ⊥)
    → length (lists o) ≡ length (places o a.account.results) → length (later o) ≡ length (places o a.account.results)
reaped_rest a lists later made x o true e later_is never whole = absurd (never e)
reaped_rest a lists later made x o false e later_is never whole = ap length later_is ∙ whole

reaped_one : (a : Seen) (lists later : Lists) (made : ℕ) (reply : Reply) (o : ObjectId) → IsReapAt a.context a.hosts made o → (m : Bool) → Grows m lists later (step (reap_of o) reply) → StandsReaped a lists made → StandsReaped a later (made + 1)
reaped_one a lists later made reply o at true g s = reaped_same a lists later made g s
reaped_one a lists later made reply o at false g s =
    let x : Step = step (reap_of o) reply in
    let is : (p : ObjectId) → is_same (object_of (reap_of o)) p ≡ true → p ≡ o = λ p e. sym (same_is (object_of (reap_of o)) p e) ∙ at.object in
    record {
      trail = record {
        walks = zip_extended a.context lists later a.jobs a.account.results (extends_by false lists later x g) s.trail.walks;
        counted = s.trail.counted;
        beyond = λ p. reaped_beyond a lists later made x p (is_same (object_of (reap_of o)) p) refl (λ e. s.rest p (subst (IsUnreaped a.context a.hosts made) (sym (is p e)) at.unreaped)) at.call (g p) s.trail;
      };
      rest = λ p u. reaped_rest a lists later made x p (is_same (object_of (reap_of o)) p) refl (g p) (λ e. at.last (subst (IsUnreaped a.context a.hosts (made + 1)) (is p e) u)) (s.rest p (unreaped_less a.context a.hosts made p u));
    }

-- after a reap one object more is reaped
reaped_more : (a : Seen) (lists later : Lists) (made : ℕ) (reply : Reply) (more : List Step) → made < reap_count a.context a.hosts → actor.Reaps (reap_of (reap_at a.context a.hosts made)) reply more → GrowsBy more lists later
    → StandsReaped a lists made → StandsReaped a later (made + 1)
reaped_more a lists later made reply more h reaps grows s =
    elim (reaps_one (reap_of (reap_at a.context a.hosts made)) reply more reaps) [
      | inl e ↦ reaped_same a lists later made (subst (λ (m : List Step). GrowsBy m lists later) e grows) s
      | inr e ↦ reaped_one a lists later made reply (reap_at a.context a.hosts made) (reap_is a.context a.hosts made h) (is_memory reply) (subst (λ (m : List Step). GrowsBy m lists later) e grows) s
    ]

-- what counts of an actor for its reaps
reaped_as : (a c : Seen) (lists : Lists) (made n : ℕ) → made ≡ n → c.context ≡ a.context → c.hosts ≡ a.hosts → c.jobs ≡ a.jobs → c.account ≡ a.account → StandsReaped a lists made → StandsReaped c lists n
reaped_as a c lists made n e ec eh ej ea s = record {
  trail = rw (ec, ej, ea) s.trail;
  rest = λ o u. rw ea (s.rest o (rw e (rw (ec, eh) at u)));
}

near_reap : (reply : Reply) (left new : ℕ) → new + 1 ≤ left → Nears reply left new
near_reap (by_cache (caches.busy holder)) left new h = omega arith
near_reap (by_depot (depots.removed key)) left new h = omega arith
near_reap reply left new h = h

reaps_whole : (s : Setting) (b : Book) (made : ℕ) (out : Bool) (y : Bool) → nat_lt made (length (context_of s).devices + hosts_of s) ≡ y → IsWhole s b (Reaps made out) → IsWhole s b (if y then Reaps (made + 1) false else Over)
reaps_whole s b made out true e w = record {
  setting = w.setting;
  fits = w.fits;
  state = subst (λ (q : ActorState). FitsState q (seen_with s b (Reaps (made + 1) false))) (sym w.now.0) (subst (λ (q : ActorState). FitsState q (seen_with s b (Reaps made out))) w.now.0 w.state);
  crash = w.crash;
  now = (w.now.0, w.now.1, omega (arith, ltb-true made (length (context_of s).devices + hosts_of s) e));
  stage = tt;
}
reaps_whole s b made out false e w = record {
  setting = w.setting;
  fits = w.fits;
  state = subst (λ (q : ActorState). FitsState q (seen_with s b Over)) (sym w.now.0) (subst (λ (q : ActorState). FitsState q (seen_with s b (Reaps made out))) w.now.0 w.state);
  crash = w.crash;
  now = (λ e. crashed_is (sym w.now.0 ∙ e), w.now.1, refl);
  stage = tt;
}
  where
    crashed_is : Crashed ≡ Unfinished → ⊥
    crashed_is e = cc

pub reaped_whole : (s : Setting) (b : Book) (made : ℕ) (out : Bool) → IsWhole s b (Reaps made out) → IsWhole s b (after_reap (context_of s) (hosts_of s) made)
reaped_whole s b made out w = reaps_whole s b made out (nat_lt made (length (context_of s).devices + hosts_of s)) refl w

reaps_next : (a : Seen) (n : ℕ) (b : Bool) → nat_lt n (reap_count a.context a.hosts) ≡ b → nat_lt n (reap_count a.context a.hosts) ≡ true → actor.reaps n ≡ actor.reaps_from a n
reaps_next a n true e h = rw e refl
reaps_next a n false e h = absurd (cc)

reaps_last : (a : Seen) (n : ℕ) (b : Bool) → nat_lt n (reap_count a.context a.hosts) ≡ b → nat_lt n (reap_count a.context a.hosts) ≡ false → actor.over ≡ actor.reaps_from a n
reaps_last a n true e h = absurd (cc)
reaps_last a n false e h = rw e refl

-- after the last reap it is over
took_by : (s : Setting) (b : Book) (made : ℕ) (out : Bool) (reply : Reply) (y : Bool) → nat_lt made (length (context_of s).devices + hosts_of s) ≡ y → IsWhole s b (Reaps made out) → IsWhole s b (if y then Reaps (made + 1) false else Over)
    → Took (seen_with s b (Reaps made out)) reply (seen_with s b (if y then Reaps (made + 1) false else Over))
took_by s b made out reply true e w new = record {
  same = record { number = refl; context = refl; hosts = refl; jobs = refl; crash = refl };
  is = actor_of s b (Reaps (made + 1) false) new;
  out = refl;
  reaps = (w.now.0, reaps_next (seen_with s b (Reaps (made + 1) false)) (made + 1) (nat_lt (made + 1) (reap_count (context_of s) (hosts_of s))) refl (lt-ltb (made + 1) (reap_count (context_of s) (hosts_of s)) new.now.2));
  steps = rw w.now.0 refl;
  made = omega arith;
  goes = tt;
  stands = λ lists later gains stands.
      reaped_as (seen_with s b (Reaps made out)) (seen_with s b (Reaps (made + 1) false)) later (made + 1) (made + 1) refl refl refl refl refl
      (reaped_more (seen_with s b (Reaps made out)) lists later made reply gains.0 w.now.2 gains.1 gains.2 stands);
  nears = near_reap reply _ _ (omega (arith, w.now.2, new.now.2));
}
took_by s b made out reply false e w new = record {
  same = record { number = refl; context = refl; hosts = refl; jobs = refl; crash = refl };
  is = actor_of s b Over new;
  out = refl;
  reaps = (w.now.0, reaps_last (seen_with s b Over) (made + 1) (nat_lt (made + 1) (reap_count (context_of s) (hosts_of s))) refl (le-ltb (made + 1) (reap_count (context_of s) (hosts_of s)) (let ge : length (context_of s).devices + hosts_of s ≤ made = ltb-false made (length (context_of s).devices + hosts_of s) e in omega arith)));
  steps = rw w.now.0 refl;
  made = omega arith;
  goes = tt;
  stands = λ lists later gains stands.
      let ge : length (context_of s).devices + hosts_of s ≤ made = ltb-false made (length (context_of s).devices + hosts_of s) e in
      let last : made + 1 ≡ reap_count (context_of s) (hosts_of s) = omega (arith, ge, w.now.2) in
      let all : reaps_of b.trail.state (seen_with s b Over) ≡ reap_count (context_of s) (hosts_of s) = rw w.now.0 refl in
      reaped_as (seen_with s b (Reaps made out)) (seen_with s b Over) later (made + 1) (reaps_of b.trail.state (seen_with s b Over)) (last ∙ sym all) refl refl refl refl
      (reaped_more (seen_with s b (Reaps made out)) lists later made reply gains.0 w.now.2 gains.1 gains.2 stands);
  nears = near_reap reply _ _ (omega (arith, w.now.2));
}

pub took_reap : (s : Setting) (b : Book) (made : ℕ) (out : Bool) (reply : Reply) → IsWhole s b (Reaps made out) → Took (seen_with s b (Reaps made out)) reply (seen_with s b (after_reap (context_of s) (hosts_of s) made))
took_reap s b made out reply w = took_by s b made out reply (nat_lt made (length (context_of s).devices + hosts_of s)) refl w (reaped_whole s b made out w)

-- ---- the idle step

pub counted_has : (s : Setting) (b : Book) (n : ℕ) → HasEnded s b → HasEnded s (with_steps b n)
counted_has s b n h = record { fits = record { is = record { counted = h.fits.is.counted; made = h.fits.is.made }; sized = h.fits.sized; room = h.fits.room }; state = h.state; ended = h.ended; few = h.few }

pub passed : (s : Setting) (b new : Book) (n : ℕ) (st : Stage) → IsWhole s b Idles → n ≡ next_count b.trail.steps → EndsJob s (with_steps b n) NoChunk new st → Passed (seen_with s b Idles) (seen_with s new st)
passed s b new n st w e k =
    let job = w.now.3 in
    record {
      same = record { number = refl; context = refl; hosts = refl; jobs = refl; crash = refl };
      is = actor_of s new st k.whole;
      out = k.out;
      reaps = k.reaps;
      steps = k.steps ∙ e;
      made = sym k.whole.fits.is.made ∙ (k.made ∙ w.fits.is.made);
      stands = λ lists stands. k.stands lists [] stands (no_steps lists b.path.items w.now.1) job;
      nears = omega (arith, k.left, ahead_at s b Idles (length b.trail.results.items) job.0 job.1, bound_some job.0, ahead_same s b new Idles st (length b.trail.results.items + 1));
    }

-- ---- a new actor

pub new_between : (s : Setting) (b : Book) (jobs : ℕ) → jobs ≡ vec_len s.jobs → IsNewBook jobs (length (context_of s).devices) (hosts_of s) (context_of s).nodes b → IsBetween s b
new_between s b jobs e n = record {
  has = record {
    fits = record { is = n.is; sized = n.sized; room = omega (arith, n.room) };
    state = n.state;
    ended = rw n.results tt;
    few = rw n.results (omega arith);
  };
  path = n.path;
}

pub new_crash : (crash : Option ℕ) (made : ℕ) → made ≡ 0 → FitsCrash crash Ended made
new_crash None made e = tt
new_crash (Some c) made e = omega arith

pub is_new : (s : Setting) (b new : Book) (jobs : ℕ) (st : Stage) → IsNewBook jobs (length (context_of s).devices) (hosts_of s) (context_of s).nodes b → Prepares s b new st → IsNew s.number (context_of s) (hosts_of s) (jobs_of s) s.crash (seen_with s new st)
is_new s b new jobs st n p = record {
  number = refl;
  context = refl;
  hosts = refl;
  jobs = refl;
  crash = refl;
  is = actor_of s new st p.whole;
  steps = p.steps ∙ n.steps;
  made = sym p.whole.fits.is.made ∙ (p.made ∙ n.made);
  out = p.out;
  stands = p.stands (λ (o : ObjectId). []) (rw (n.results, n.path) (stands_new (context_of s) (jobs_of s)));
  left = rw n.results at p.left;
}

-- ---- its trail

unfinished_is : (s : Setting) (b : Book) (st : Stage) (q : ActorState) → b.trail.state ≡ q → FitsState q (seen_with s b st) → (length b.trail.results.items ≡ vec_len s.jobs → ⊥) → q ≡ Unfinished
unfinished_is s b st Unfinished e f n = refl
unfinished_is s b st Ended e f n = absurd (n (f.1 ∙ jobs_len s))
unfinished_is s b st Crashed e f n = absurd (n (f.1 ∙ jobs_len s))

pub is_unfinished : (s : Setting) (b : Book) (st : Stage) → IsWhole s b st → (length b.trail.results.items ≡ vec_len s.jobs → ⊥) → b.trail.state ≡ Unfinished
is_unfinished s b st w n = unfinished_is s b st b.trail.state refl w.state n

full_cut : (s : Setting) (b : Book) (st : Stage) (q : ActorState) → FitsState q (seen_with s b st) → AreCutOnce b.trail.results.items
full_cut s b st Unfinished f = ended_once b.trail.results.items f.0
full_cut s b st Ended f = ended_once b.trail.results.items f.0
full_cut s b st Crashed f = f.0

-- with all results no job is under way
full_busy : (s : Setting) (b : Book) (st : Stage) → IsWhole s b st → length b.trail.results.items ≡ vec_len s.jobs → b.trail.state ≡ Unfinished → ⊥
full_busy s b st w each e =
    let f = subst (λ (q : ActorState). FitsState q (seen_with s b st)) e w.state in
    let lt : length b.trail.results.items < length (jobs_of s) = f.1 in
    omega (arith, lt, each, jobs_len s)

full_path : (s : Setting) (b : Book) (st : Stage) → IsWhole s b st → length b.trail.results.items ≡ vec_len s.jobs → b.path.items ≡ []
full_path s b (Works r) w each = absurd (full_busy s b (Works r) w each w.now.0)
full_path s b Idles w each = w.now.1
full_path s b (Reaps made out) w each = w.now.1
full_path s b Over w each = w.now.1

full_trail : (s : Setting) (b : Book) (st : Stage) → IsWhole s b st → length b.trail.results.items ≡ vec_len s.jobs → (lists : Lists) → StandsFor (seen_with s b st) lists → HasTrail (context_of s) lists (jobs_of s) b.trail.results.items
full_trail s b (Works r) w each lists stands = absurd (full_busy s b (Works r) w each w.now.0)
full_trail s b Idles w each lists stands = absurd (full_busy s b Idles w each w.now.0)
full_trail s b (Reaps made out) w each lists stands = stands.trail
full_trail s b Over w each lists stands = stands.trail

pub trail_full : (s : Setting) (b : Book) (st : Stage) → IsWhole s b st → length b.trail.results.items ≡ vec_len s.jobs → IsTrailOf (seen_with s b st) b.trail
trail_full s b st w each = record {
  state = refl;
  steps = refl;
  begins = ap (take (length b.trail.results.items)) (sym (append-nil b.trail.results.items)) ∙ take_front b.trail.results.items [];
  each = each ∙ sym (jobs_len s);
  cut = full_cut s b st b.trail.state w.state;
  made = omega (arith, ap length (full_path s b st w each));
  trail = full_trail s b st w each;
}

filled_at : (s : Setting) (b : Book) (st : Stage) → IsWhole s b st → b.trail.state ≡ Unfinished → (lists : Lists) → StandsFor (seen_with s b st) lists → StandsBook s lists b × IsCutAt s lists b
filled_at s b (Works r) w e lists stands = (stands.0, cut_at s lists b w.now.1.0 r.job w.now.1.1 w.now.1.2 stands.1)
filled_at s b Idles w e lists stands = (stands, inl w.now.1)
filled_at s b (Reaps made out) w e lists stands = absurd (crashed_is (sym w.now.0 ∙ e))
  where
    crashed_is : Crashed ≡ Unfinished → ⊥
    crashed_is e = cc
filled_at s b Over w e lists stands = absurd (w.now.0 e)

empty_end : (s : Setting) (b : Book) (lists : Lists) → b.path.items ≡ [] → StandsBook s lists b → Stands (context_of s) lists (jobs_of s) (record { results = b.trail.results.items; path = [] })
empty_end s b lists e stands = rw e at stands

pub trail_filled : (s : Setting) (b new : Book) (st : Stage) → IsWhole s b st → b.trail.state ≡ Unfinished → Fills s b new → IsTrailOf (seen_with s b st) new.trail
trail_filled s b new st w e f = record {
  state = f.state;
  steps = f.steps;
  begins = f.begins;
  each = f.each ∙ sym (jobs_len s);
  cut = f.cut;
  made = omega (arith, f.fits.is.made, f.made, w.fits.is.made, ap length f.path);
  trail = λ lists stands.
      let at = filled_at s b st w e lists stands in
      has_trail (context_of s) lists (jobs_of s) new.trail.results.items (empty_end s new lists f.path (f.stands lists at.0 at.1)) (omega (arith, f.each, jobs_len s));
}

pub book_as : (jobs d e h i n o : ℕ) (b : Book) → d ≡ e → h ≡ i → n ≡ o → IsNewBook jobs d h n b → IsNewBook jobs e i o b
book_as jobs d e h i n o b p q r k = rw (← p, ← q, ← r) k

pub context_len : (s : Setting) → length (context_of s).devices ≡ vec_len (arc_value s.context).devices
context_len s = length-map (arc_value s.context).devices.items _ ∙ sym (arc_value s.context).devices.ok.0
