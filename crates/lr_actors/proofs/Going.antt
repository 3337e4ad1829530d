-- an actor goes on: its jobs one after another, and its crash
use Rattle.std.proofs.Common.{◌≡◌, ◌≤◌, ◌<◌, ℕ, zero, suc, ◌+◌, List, [], ◌∷◌, ◌++◌, length, take, drop, map, Option, Some, None, refl, sym, ap, subst, ◌∙◌, arith, append-nil}
use Rattle.std.specs.Prelude.{slice_get, vec_len, MatchOption}
use Rattle.std.specs.List.{AllByRecursion}
use Rattle.std.proofs.lemmas.List.{length_push}
use Rattle.lr_object.specs.declared.id.ObjectId.{ObjectId}
use Rattle.lr_walk.specs.declared.trail.Answer.{Answer}
use Rattle.lr_walk.specs.declared.trail.Answer.TheVariants.{NoChunk}
use Rattle.lr_walk.specs.declared.trail.Did.{Did}
use Rattle.lr_walk.specs.declared.trail.JobResult.{JobResult}
use Rattle.lr_walk.specs.Steps.{Step}
use Rattle.lr_walk.specs.Jobs.{Context}
use Rattle.lr_walk.specs.Trails.{Lists, Reads, places}
use Rattle.lr_actors.specs.declared.action.ActorCall.{ActorCall}
use Rattle.lr_actors.specs.declared.trail.ActorState.{ActorState}
use Rattle.lr_actors.specs.declared.trail.ActorState.TheVariants.{Ended, Crashed, Unfinished}
use Rattle.lr_actors.specs.declared.running.Running.{Running}
use Rattle.lr_actors.specs.declared.book.Book.{Book}
use Rattle.lr_actors.specs.declared.body.Setting.{Setting}
use Rattle.lr_actors.specs.declared.body.Stage.{Stage}
use Rattle.lr_actors.specs.declared.body.Stage.TheVariants.{Works, Idles, Over}
use Rattle.lr_actors.specs.Asked.{HandsCall, MayCall}
use Rattle.lr_actors.specs.Running.{Walk, task_of, asked, StandsFor, steps_left, IsOut}
use Rattle.lr_actors.specs.Jobs.{Job, WalksJob, bound_of}
use Rattle.lr_actors.specs.Begun.{IsJob, IsBegun}
use Rattle.lr_actors.specs.Accounts.{Stands, StandsAt, IsEnd}
use Rattle.lr_actors.specs.Book.{IsBook, Finished, HasRoom, SameBook}
use Rattle.lr_actors.specs.Actor.{MayBeGiven, FitsState, FitsCrash, IsUnderWay, bounds_of, object_called}
use Rattle.lr_actors.specs.Body.{context_of, hosts_of, jobs_of, seen_with, IsSetting, BookFits, HasEnded, IsBetween, Next, StandsForSome, IsGoing, IsHeld, IsWhole, StandsBook, ahead, Skips, SkipsSome, Prepares}
use Rattle.lr_actors.proofs.Accounted.{has_trail}
use Rattle.lr_actors.proofs.Ended.{job_ends}
use Rattle.lr_actors.proofs.UnderWay.{all_at, slice_get_lt, under_way, held, object_handed}
use Rattle.lr_actors.proofs.Keeping.{finished_stands, ended_walk}

-- ---- lists

pub all_push : {X : Type 0} (P : X → Type 0) (xs : List X) (x : X) → AllByRecursion P xs → P x → AllByRecursion P (xs ++ x ∷ [])
all_push P [] x a p = (p, tt)
all_push P (y ∷ xs) x a p = (a.0, all_push P xs x a.1 p)

bounds_drop : (n : ℕ) (jobs : List Job) → bounds_of (drop n jobs) ≤ bounds_of jobs
bounds_drop zero jobs = omega arith
bounds_drop (suc n) [] = omega arith
bounds_drop (suc n) (j ∷ jobs) = omega (arith, bounds_drop n jobs)

bounds_le : (jobs : List Job) (n m : ℕ) → n ≤ m → bounds_of (drop m jobs) ≤ bounds_of (drop n jobs)
bounds_le jobs zero m h = bounds_drop m jobs
bounds_le jobs (suc n) zero h = absurd (omega arith)
bounds_le [] (suc n) (suc m) h = omega arith
bounds_le (j ∷ jobs) (suc n) (suc m) h = bounds_le jobs n m (omega arith)

job_is : (x y : Job) → Some x ≡ Some y → x ≡ y
job_is x y e = cc

bounds_at : (jobs : List Job) (n : ℕ) (job : Job) → slice_get jobs n ≡ Some job → bounds_of (drop n jobs) ≡ bound_of job + bounds_of (drop (n + 1) jobs)
bounds_at [] n job e = cc
bounds_at (j ∷ jobs) zero job e = ap (λ (x : Job). bound_of x + bounds_of jobs) (job_is j job e)
bounds_at (j ∷ jobs) (suc n) job e =
    let m : suc n + 1 ≡ suc (n + 1) = omega arith in
    rw m (bounds_at jobs n job e)

-- every job may make a step
pub bound_some : (job : Job) → 1 ≤ bound_of job
bound_some job = grind arith

slice_get_some : {X : Type 0} (xs : List X) (n : ℕ) → n < length xs → (x : X) × (slice_get xs n ≡ Some x)
slice_get_some [] n h = absurd (omega arith)
slice_get_some (x ∷ xs) zero h = (x, refl)
slice_get_some (x ∷ xs) (suc n) h = slice_get_some xs n (omega arith)

pub take_front : {X : Type 0} (xs ys : List X) → take (length xs) (xs ++ ys) ≡ xs
take_front [] ys = refl
take_front (x ∷ xs) ys = ap (λ (l : List _). x ∷ l) (take_front xs ys)

length_jobs : {A B : Type 0} (f : A → B) (xs : List A) → length (map f xs) ≡ length xs
length_jobs f [] = refl
length_jobs f (x ∷ xs) = omega (arith, length_jobs f xs)

pub jobs_len : (s : Setting) → length (jobs_of s) ≡ vec_len s.jobs
jobs_len s = length_jobs _ s.jobs.items ∙ sym s.jobs.ok.0

pub next_lt : (s : Setting) (b : Book) (job : Job) → slice_get (jobs_of s) (length b.trail.results.items) ≡ Some job → length b.trail.results.items < vec_len s.jobs
next_lt s b job e = omega (arith, slice_get_lt (jobs_of s) (length b.trail.results.items) job e, jobs_len s)

pub next_of : (s : Setting) (b : Book) → length b.trail.results.items < vec_len s.jobs → (job : Job) × (slice_get (jobs_of s) (length b.trail.results.items) ≡ Some job)
next_of s b h = slice_get_some (jobs_of s) (length b.trail.results.items) (omega (arith, jobs_len s))

pub ahead_le : (s : Setting) (b : Book) (st : Stage) (n m : ℕ) → n ≤ m → ahead s b st m ≤ ahead s b st n
ahead_le s b st n m h = omega (arith, bounds_le (jobs_of s) n m h)

pub ahead_at : (s : Setting) (b : Book) (st : Stage) (n : ℕ) (job : Job) → slice_get (jobs_of s) n ≡ Some job → ahead s b st n ≡ bound_of job + ahead s b st (n + 1)
ahead_at s b st n job e = omega (arith, bounds_at (jobs_of s) n job e)

-- ---- the same book

pub book_same : (old new : Book) → SameBook old new → IsBook old → IsBook new
book_same old new e is = record {
  counted = λ o. rw (e.tally, e.trail, e.path) (is.counted o);
  made = rw (e.made, e.trail, e.path) is.made;
}

pub fits_same : (s : Setting) (old new : Book) → SameBook old new → BookFits s old → BookFits s new
fits_same s old new e f = record { is = book_same old new e f.is; sized = rw e.tally f.sized; room = rw e.trail f.room }

pub has_same : (s : Setting) (old new : Book) → SameBook old new → HasEnded s old → HasEnded s new
has_same s old new e h = record { fits = fits_same s old new e h.fits; state = rw e.trail h.state; ended = rw e.trail h.ended; few = rw e.trail h.few }

pub between_same : (s : Setting) (old new : Book) → SameBook old new → IsBetween s old → IsBetween s new
between_same s old new e b = record { has = has_same s old new e b.has; path = e.path ∙ b.path }

pub stands_as : (s : Setting) (lists : Lists) (old new : Book) → SameBook old new → StandsBook s lists old → StandsBook s lists new
stands_as s lists old new e stands = rw (e.trail, e.path) stands

pub at_as : (lists : Lists) (r : Running) (old new : Book) → SameBook old new → StandsAt lists old.path.items r → StandsAt lists new.path.items r
at_as lists r old new e at = rw e.path at

-- ---- a job ended

pub has_more : (s : Setting) (old new : Book) (answer : Answer) → HasEnded s old → length old.trail.results.items < vec_len s.jobs → IsEnd answer → Finished old answer new → HasEnded s new
has_more s old new answer h lt end f = record {
  fits = record { is = f.is; sized = rw f.tally h.fits.sized; room = rw f.room h.fits.room };
  state = f.state ∙ h.state;
  ended = rw f.results (all_push (λ (r : JobResult). IsEnd r.answer) old.trail.results.items f.result h.ended (rw f.answer end));
  few = omega (arith, ap length f.results, length_push old.trail.results.items f.result);
}

pub between_more : (s : Setting) (old new : Book) (answer : Answer) → HasEnded s old → length old.trail.results.items < vec_len s.jobs → IsEnd answer → Finished old answer new → IsBetween s new
between_more s old new answer h lt end f = record { has = has_more s old new answer h lt end f; path = f.path }

pub results_more : (old new : Book) (answer : Answer) → Finished old answer new → length new.trail.results.items ≡ length old.trail.results.items + 1
results_more old new answer f = omega (arith, ap length f.results, length_push old.trail.results.items f.result)

pub no_steps : (lists : Lists) (path : List Did) → path ≡ [] → Reads lists path []
no_steps lists path e = rw e tt

pub skipped : (s : Setting) (old new : Book) (answer : Answer) → IsBetween s old → Next s old (λ (job : Job). WalksJob (context_of s) job [] answer) → Finished old answer new → Skips s old new
skipped s old new answer b w f =
    let end : IsEnd answer = job_ends (context_of s) w.0 [] answer w.2 in
    record {
      is = between_more s old new answer b.has (next_lt s old w.0 w.1) end f;
      results = results_more old new answer f;
      made = f.made;
      steps = f.steps;
      stands = λ lists stands. finished_stands s lists old new answer w.0 f w.1 (ended_walk (context_of s) lists w.0 old.path.items answer [] end (no_steps lists old.path.items b.path) w.2) stands;
    }

-- ---- whole stages

pub idle_prepared : (s : Setting) (b : Book) → IsSetting s → IsBetween s b → FitsCrash s.crash Unfinished b.made → Next s b (λ (job : Job). WalksJob (context_of s) job [] NoChunk) → Prepares s b b Idles
idle_prepared s b is h crash w = record {
  whole = record {
    setting = is;
    fits = h.has.fits;
    state = subst (λ (q : ActorState). FitsState q (seen_with s b Idles)) (sym h.has.state) (h.has.ended, omega (arith, next_lt s b w.0 w.1, jobs_len s));
    crash = subst (λ (q : ActorState). FitsCrash s.crash q b.made) (sym h.has.state) crash;
    now = (h.has.state, h.path, refl, w);
    stage = tt;
  };
  out = refl;
  reaps = λ q. let u : b.trail.state ≡ Unfinished = h.has.state in absurd (cc);
  made = refl;
  steps = refl;
  left = omega arith;
  stands = λ lists stands. stands;
}

pub works_whole : (s : Setting) (b : Book) (job : Job) (r : Running) (c : ActorCall) → IsSetting s → HasEnded s b → FitsCrash s.crash Unfinished b.made → slice_get (jobs_of s) (length b.trail.results.items) ≡ Some job
    → IsUnderWay (context_of s) job r → IsHeld (context_of s) (hosts_of s) job r c → StandsForSome r → HasRoom (steps_left r) b
    → IsWhole s b (Works (record { job = r; object = object_called c; call = Some c }))
works_whole s b job r c is h crash at under has some room = record {
  setting = is;
  fits = h.fits;
  state = subst (λ (q : ActorState). FitsState q (seen_with s b (Works (record { job = r; object = object_called c; call = Some c })))) (sym h.state) (h.ended, omega (arith, next_lt s b job at, jobs_len s));
  crash = subst (λ (q : ActorState). FitsCrash s.crash q b.made) (sym h.state) crash;
  now = (h.state, (job, at, under));
  stage = record { some = some; object = object_handed c (asked r) has.asked; prepared = (job, at, has); room = room };
}

pub going_of : (context : Context) (job : Job) (r : Running) → IsBegun context job r → IsGoing context job r
going_of context job r b = record { is = b.is; task = b.task; home = b.home; bound = b.bound }

pub given_at : (s : Setting) (n : ℕ) (job : Job) → IsSetting s → slice_get (jobs_of s) n ≡ Some job → MayBeGiven (context_of s) (hosts_of s) job
given_at s n job is e = all_at (MayBeGiven (context_of s) (hosts_of s)) (jobs_of s) n job is.jobs e

pub started : (s : Setting) (b : Book) (old new : Running) (c : ActorCall) → IsSetting s → IsBetween s b → FitsCrash s.crash Unfinished b.made → Next s b (λ (j : Job). IsBegun (context_of s) j old) → HasRoom (steps_left old) b
    → IsOut old new → HandsCall c (asked old) → MayCall c → Prepares s b b (Works (record { job = new; object = object_called c; call = Some c }))
started s b old new c is h crash begun room out hands may =
    let going = going_of (context_of s) begun.0 old begun.2 in
    let under = under_way (context_of s) begun.0 old new c going out hands in
    let has = held (context_of s) (hosts_of s) begun.0 old new c is.context is.hosted (given_at s (length b.trail.results.items) begun.0 is begun.1) going out hands may in
    let st : Stage = Works (record { job = new; object = object_called c; call = Some c }) in
    record {
      whole = works_whole s b begun.0 new c is h.has crash begun.1 under has ([], out.stands [] begun.2.stands) (rw out.left room);
      out = refl;
      reaps = λ q. let u : b.trail.state ≡ Unfinished = h.has.state in absurd (cc);
      made = refl;
      steps = refl;
      left = omega (arith, ahead_at s b st (length b.trail.results.items) begun.0 begun.1, out.left, begun.2.bound);
      stands = λ lists stands. (stands, ([], no_steps lists b.path.items h.path, out.stands [] begun.2.stands, out.knows [] begun.2.knows));
    }

pub begun_ends : (s : Setting) (b : Book) (r : Running) (answer : Answer) → Next s b (λ (j : Job). IsBegun (context_of s) j r) → ((steps : List Step) → StandsFor r steps → Walk (task_of r) steps answer)
    → Next s b (λ (job : Job). WalksJob (context_of s) job [] answer)
begun_ends s b r answer begun ends = (begun.0, begun.1, begun.2.task [] answer (ends [] begun.2.stands))

-- ---- jobs begin

pub next_same : (s : Setting) (old new : Book) (P : Job → Type 0) → SameBook old new → Next s old P → Next s new P
next_same s old new P e n = rw e.trail n

pub may_job : (context : Context) (hosts : ℕ) (job : Job) → MayBeGiven context hosts job → IsJob context job
may_job context hosts job m = grind arith

pub skips_as : (s : Setting) (old mid new : Book) → SameBook old mid → Skips s mid new → Skips s old new
skips_as s old mid new e k = record {
  is = k.is;
  results = rw (← e.trail) k.results;
  made = k.made ∙ e.made;
  steps = k.steps ∙ ap (λ (t : _). t.steps) e.trail;
  stands = λ lists stands. k.stands lists (stands_as s lists old mid e stands);
}

pub prepares_as : (s : Setting) (old mid new : Book) (st : Stage) → SameBook old mid → Prepares s mid new st → Prepares s old new st
prepares_as s old mid new st e p = record {
  whole = p.whole;
  out = p.out;
  reaps = p.reaps;
  made = p.made ∙ e.made;
  steps = p.steps ∙ ap (λ (t : _). t.steps) e.trail;
  left = rw (← e.trail) p.left;
  stands = λ lists stands. p.stands lists (stands_as s lists old mid e stands);
}

pub outcome_as : (s : Setting) (old mid new : Book) (r : Option Stage) → SameBook old mid → MatchOption r (Skips s mid new) (Prepares s mid new) → MatchOption r (Skips s old new) (Prepares s old new)
outcome_as s old mid new None e k = skips_as s old mid new e k
outcome_as s old mid new (Some st) e p = prepares_as s old mid new st e p

pub skip_none : (s : Setting) (b : Book) → IsBetween s b → SkipsSome s b b
skip_none s b is = record { is = is; results = omega arith; made = refl; steps = refl; stands = λ lists stands. stands }

pub skip_more : (s : Setting) (old mid new : Book) → SkipsSome s old mid → Skips s mid new → SkipsSome s old new
skip_more s old mid new a b = record {
  is = b.is;
  results = omega (arith, a.results, b.results);
  made = b.made ∙ a.made;
  steps = b.steps ∙ a.steps;
  stands = λ lists stands. b.stands lists (a.stands lists stands);
}

pub prepared_after : (s : Setting) (old mid new : Book) (st : Stage) → SkipsSome s old mid → Prepares s mid new st → Prepares s old new st
prepared_after s old mid new st a p = record {
  whole = p.whole;
  out = p.out;
  reaps = p.reaps;
  made = p.made ∙ a.made;
  steps = p.steps ∙ a.steps;
  left = omega (arith, p.left, ahead_le s new st (length old.trail.results.items) (length mid.trail.results.items) a.results);
  stands = λ lists stands. p.stands lists (a.stands lists stands);
}

pub crash_fits : (crash : Option ℕ) (made n : ℕ) → n ≡ made → FitsCrash crash Unfinished made → FitsCrash crash Unfinished n
crash_fits crash made n e f = rw e f

-- made fewer steps than it crashes after, or not more
pub before_crash : (crash : Option ℕ) (made : ℕ) → FitsCrash crash Unfinished made → FitsCrash crash Ended made
before_crash None made h = h
before_crash (Some c) made h = omega arith

pub ended_differs : Ended ≡ Unfinished → ⊥
ended_differs e = cc

pub crashed_differs : Crashed ≡ Unfinished → ⊥
crashed_differs e = cc

pub empty_path : (s : Setting) (lists : Lists) (results : List JobResult) (path : List Did) → path ≡ [] → Stands (context_of s) lists (jobs_of s) (record { results = results; path = path })
    → Stands (context_of s) lists (jobs_of s) (record { results = results; path = [] })
empty_path s lists results path e stands = subst (λ (p : List Did). Stands (context_of s) lists (jobs_of s) (record { results = results; path = p })) e stands

pub rest_whole : (s : Setting) (lists : Lists) (results : List JobResult) → Stands (context_of s) lists (jobs_of s) (record { results = results; path = [] }) → (o : ObjectId) → length (lists o) ≡ length (places o results)
rest_whole s lists results stands o = stands.whole o ∙ ap length (append-nil (places o results))

pub closed : (s : Setting) (old : Book) (new : Book) → IsSetting s → IsBetween s old → FitsCrash s.crash Ended old.made → length old.trail.results.items ≡ vec_len s.jobs
    → new ≡ record { trail = record { state = Ended; results = old.trail.results; steps = old.trail.steps }; path = old.path; tally = old.tally; made = old.made } → Prepares s old new Over
closed s old new is b crash each e = rw e (record {
  whole = record {
    setting = is;
    fits = record { is = record { counted = b.has.fits.is.counted; made = b.has.fits.is.made }; sized = b.has.fits.sized; room = b.has.fits.room };
    state = (b.has.ended, omega (arith, each, jobs_len s));
    crash = crash;
    now = (ended_differs, b.path, refl);
    stage = tt;
  };
  out = refl;
  reaps = λ q. absurd (cc);
  made = refl;
  steps = refl;
  left = omega arith;
  stands = λ lists stands.
      let st = empty_path s lists old.trail.results.items old.path.items b.path stands in
      record {
        trail = has_trail (context_of s) lists (jobs_of s) old.trail.results.items st (omega (arith, each, jobs_len s));
        rest = λ o u. rest_whole s lists old.trail.results.items st o;
      };
})
