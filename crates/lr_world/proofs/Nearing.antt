-- How an actor comes nearer to its end, job by job.
use Rattle.std.proofs.Common.{◌≡◌, ◌<◌, ◌≤◌, ◌+◌, ℕ, zero, suc, List, [], ◌∷◌, length, drop, Option, Some, None, slice_get, refl, ap, sym, subst, arith}
use Rattle.std.specs.Prelude.{◌≢◌, ◌⊎◌}
use Rattle.std.proofs.Common.{inl, inr}
use Rattle.std.proofs.lemmas.Bool.{cases_lt}
use Rattle.lr_collector.specs.Progress as collections
use Rattle.lr_migrator.specs.Progress as migrations
use Rattle.lr_creator.specs.Progress as creations
use Rattle.lr_collector.specs.declared.collect.CollectJob.{CollectJob}
use Rattle.lr_actors.specs.declared.single.Single.{Single}
use Rattle.lr_actors.specs.declared.trail.ActorState.{ActorState}
use Rattle.lr_actors.specs.declared.trail.ActorState.TheVariants.{Unfinished, Ended, Crashed}
use Rattle.lr_actors.specs.declared.running.Running.{Running}
use Rattle.lr_actors.specs.declared.running.Running.TheVariants.{Serves, Makes, Forges, Collects, Migrates, Creates}
use Rattle.lr_actors.specs.Running as running
use Rattle.lr_actors.specs.Running.{steps_left}
use Rattle.lr_actors.specs.Serving as serving
use Rattle.lr_actors.specs.Singles as singles
use Rattle.lr_actors.specs.Forging as forging
use Rattle.lr_actors.specs.Collecting as collecting
use Rattle.lr_actors.specs.Migrating as migrating
use Rattle.lr_actors.specs.Creating as creating
use Rattle.lr_actors.specs.Bounds.{collects_left, moves_ahead, puts_left}
use Rattle.lr_actors.specs.Jobs.{Job, calls, creates, migrates, collects, closes, evicts, drops_stripe, flips_stripe, forges, loses, bound_of}
use Rattle.lr_actors.specs.Actor.{Seen, Now, works, idles, reaps, over, IsCall, IsActor, IsSame, FitsNow, FitsState, ReapsOn, bounds_of, reaps_ahead, now_left, left, reap_count}

-- ---- a call that is asked is a step to make

serves_left : (w : serving.Work) (n : serving.Need) → IsCall (serving.asked w n) → 1 ≤ serving.steps_left n
serves_left w serving.planning c = omega arith
serves_left w (serving.loading chunk need more) c = omega arith
serves_left w (serving.committing pages pieces) c = omega arith
serves_left w (serving.dropping answer) c = omega arith
serves_left w (serving.ended answer) c = absurd c

makes_left : (s : Single) (n : singles.Need) → IsCall (singles.asked s n) → 1 ≤ singles.steps_left n
makes_left s singles.asking c = omega arith
makes_left s (singles.ended answer) c = absurd c

forges_left : (t : forging.Target) (n : forging.Need) → IsCall (forging.asked t n) → 1 ≤ forging.steps_left n
forges_left t (forging.putting stripe more answer) c = omega arith
forges_left t (forging.ended answer) c = absurd c

gathers_left : (j : CollectJob) (n : collections.Need) → IsCall (collecting.asked_by (collections.asked j n)) → 1 ≤ collects_left n
gathers_left j (collections.asking count) c = omega arith
gathers_left j (collections.ended end) c = absurd c

copies_left : (image : List ℕ) (n : migrations.Need) → IsCall (migrating.asked_by (migrations.asked image n)) → 1 ≤ moves_ahead n
copies_left image migrations.beginning c = omega arith
copies_left image (migrations.copying session index more) c = omega arith
copies_left image (migrations.putting session index more name) c = omega arith
copies_left image (migrations.finishing session) c = omega arith
copies_left image (migrations.leaving session end) c = omega arith
copies_left image (migrations.ended end) c = absurd c

gives_left : (n : creations.Need) (more : ℕ) → IsCall (creating.asked_by (creations.asked n)) → 1 ≤ puts_left n more
gives_left (creations.beginning image) more c = omega arith
gives_left (creations.wanting place parts) more c = absurd c
gives_left (creations.putting place parts name) more c = omega arith
gives_left (creations.finishing place fields) more c = omega arith
gives_left (creations.leaving session end) more c = omega arith
gives_left (creations.ended end) more c = absurd c

call_left : (r : Running) → IsCall (running.asked r) → 1 ≤ steps_left r
call_left (Serves device p) c = serves_left p.work p.need c
call_left (Makes p) c = makes_left p.single p.need c
call_left (Forges p) c = forges_left p.target p.need c
call_left (Collects p) c = gathers_left p.job p.need c
call_left (Migrates p) c = copies_left p.image p.need c
call_left (Creates p) c = gives_left p.create.need _ c

-- ---- the bounds of the jobs ahead

bound_one : (job : Job) → 1 ≤ bound_of job
bound_one (calls device call) = omega arith
bound_one (creates image tenant raw) = omega arith
bound_one (migrates image) = omega arith
bound_one (collects job) = omega arith
bound_one (closes device) = omega arith
bound_one (evicts host) = omega arith
bound_one (drops_stripe index device chunk) = omega arith
bound_one (flips_stripe index device chunk at) = omega arith
bound_one (forges device chunk) = omega arith
bound_one (loses node) = omega arith

bounds_at : (jobs : List Job) (n : ℕ) (job : Job) → slice_get jobs n ≡ Some job → bounds_of (drop n jobs) ≡ bound_of job + bounds_of (drop (suc n) jobs)
bounds_at [] n job e = absurd (cc)
bounds_at (x ∷ xs) zero job e = let same : x ≡ job = cc in ap (λ (j : Job). bound_of j + bounds_of xs) same
bounds_at (x ∷ xs) (suc n) job e = bounds_at xs n job e

bounds_nil : (n : ℕ) → bounds_of (drop n []) ≡ 0
bounds_nil zero = refl
bounds_nil (suc n) = refl

bounds_drop : (jobs : List Job) (m : ℕ) → bounds_of (drop m jobs) ≤ bounds_of jobs
bounds_drop [] m = omega (arith, bounds_nil m)
bounds_drop (x ∷ xs) zero = omega arith
bounds_drop (x ∷ xs) (suc m) = omega (arith, bounds_drop xs m)

bounds_less : (jobs : List Job) (n m : ℕ) → n ≤ m → bounds_of (drop m jobs) ≤ bounds_of (drop n jobs)
bounds_less jobs zero m h = bounds_drop jobs m
bounds_less [] (suc n) m h = omega (arith, bounds_nil m)
bounds_less (x ∷ xs) (suc n) zero h = absurd (omega arith)
bounds_less (x ∷ xs) (suc n) (suc m) h = bounds_less xs n m (omega arith)

pub next_bounds : (jobs : List Job) (n : ℕ) → bounds_of (drop (n + 1) jobs) ≡ bounds_of (drop (suc n) jobs)
next_bounds jobs n = let e : n + 1 ≡ suc n = omega arith in ap (λ (k : ℕ). bounds_of (drop k jobs)) e

-- ---- an unfinished actor

module _ (a : Seen) (unfinished : a.state ≡ Unfinished) where
  -- it has a step to make, and all jobs behind
  least_now : (now : Now) → FitsNow now a → 1 + bounds_of (drop (suc (length a.account.results)) a.jobs) + reaps_ahead a.crash a ≤ now_left now a
  least_now (works r) f = omega (arith, call_left r f.1.2.calls, next_bounds a.jobs (length a.account.results))
  least_now idles f = omega (arith, bounds_at a.jobs (length a.account.results) f.3.0 f.3.1, bound_one f.3.0)
  least_now (reaps made) f = absurd (let c = f.0 in cc)
  least_now over f = absurd (f.0 unfinished)

  -- at most the bounds of this job and those behind
  most_now : (now : Now) → FitsNow now a → now_left now a ≤ bounds_of (drop (length a.account.results) a.jobs) + reaps_ahead a.crash a
  most_now (works r) f = omega (arith, f.1.2.bound, next_bounds a.jobs (length a.account.results), bounds_at a.jobs (length a.account.results) f.1.0 f.1.1)
  most_now idles f = omega arith
  most_now (reaps made) f = absurd (let c = f.0 in cc)
  most_now over f = absurd (f.0 unfinished)

pub least_left : (a : Seen) → a.state ≡ Unfinished → IsActor a → 1 + bounds_of (drop (suc (length a.account.results)) a.jobs) + reaps_ahead a.crash a ≤ left a
least_left a u is = least_now a u a.now is.now

pub most_left : (a : Seen) → a.state ≡ Unfinished → IsActor a → left a ≤ bounds_of (drop (length a.account.results) a.jobs) + reaps_ahead a.crash a
most_left a u is = most_now a u a.now is.now

-- ---- from one step to the next

-- it has no more results than jobs
results_few : (a : Seen) → (s : ActorState) → FitsState s a → length a.account.results ≤ length a.jobs
results_few a Unfinished f = omega (arith, f.1)
results_few a Ended f = omega (arith, f.1)
results_few a Crashed f = omega (arith, f.1)

-- one that has ended or crashed has a result of each job
results_full : (a : Seen) → (s : ActorState) → (s ≡ Unfinished → ⊥) → FitsState s a → length a.account.results ≡ length a.jobs
results_full a Unfinished n f = absurd (n refl)
results_full a Ended n f = f.1
results_full a Crashed n f = f.1

pub is_unfinished : (s : ActorState) → (s ≡ Unfinished) ⊎ (s ≡ Unfinished → ⊥)
is_unfinished Unfinished = inl refl
is_unfinished Ended = inr (λ e. absurd (cc))
is_unfinished Crashed = inr (λ e. absurd (cc))

-- while it makes steps of its jobs it is unfinished
pub works_unfinished : (a : Seen) (now : Now) → FitsNow now a → (now ≢ over) → ((made : ℕ) → now ≢ reaps made) → a.state ≡ Unfinished
works_unfinished a (works r) f o r' = f.0
works_unfinished a idles f o r' = f.0
works_unfinished a (reaps made) f o r' = absurd (r' made refl)
works_unfinished a over f o r' = absurd (o refl)

cases_le : (m n : ℕ) → (m ≤ n) ⊎ (n < m)
cases_le m n = swap (cases_lt n m)
  where
    swap : (n < m) ⊎ (m ≤ n) → (m ≤ n) ⊎ (n < m)
    swap (inl h) = inr h
    swap (inr h) = inl h

module _ (old new : Seen) (was : IsActor old) (is : IsActor new) (same : IsSame old new) where
  pub ahead_same : reaps_ahead new.crash new ≡ reaps_ahead old.crash old
  ahead_same =
      subst (λ (c : Option ℕ). reaps_ahead c new ≡ reaps_ahead old.crash old) (sym same.crash) (by old.crash)
    where
      by : (c : Option ℕ) → reaps_ahead c new ≡ reaps_ahead c old
      by None = refl
      by (Some c) = λ i. reap_count (same.context i) (same.hosts i)

  jobs_same : (n : ℕ) → bounds_of (drop n new.jobs) ≡ bounds_of (drop n old.jobs)
  jobs_same n = ap (λ (jobs : List Job). bounds_of (drop n jobs)) same.jobs

  -- of an unfinished actor
  module _ (unfinished : old.state ≡ Unfinished) where
    grows_by : (length old.account.results ≤ length new.account.results) ⊎ (length new.account.results < length old.account.results) → left new ≤ left old → (new.state ≡ Unfinished) ⊎ (new.state ≡ Unfinished → ⊥)
        → length old.account.results ≤ length new.account.results
    grows_by (inl h) less s = h
    grows_by (inr h) less (inl u) =
        absurd (omega (
          arith,
          least_left new u is,
          most_left old unfinished was,
          ahead_same,
          jobs_same (suc (length new.account.results)),
          bounds_less old.jobs (suc (length new.account.results)) (length old.account.results) (omega (arith, h)),
          less,
        ))
    grows_by (inr h) less (inr n) =
        absurd (omega (arith, results_full new new.state n is.state, results_few old old.state was.state, ap length same.jobs, h))

    pub grows : left new ≤ left old → length old.account.results ≤ length new.account.results
    grows less = grows_by (cases_le (length old.account.results) (length new.account.results)) less (is_unfinished new.state)

    -- where it had one step left of its job, that job has ended
    ends_by : (length old.account.results < length new.account.results) ⊎ (length new.account.results ≤ length old.account.results) → left new + 1 ≤ 1 + bounds_of (drop (suc (length old.account.results)) old.jobs) + reaps_ahead old.crash old
        → length old.account.results < length old.jobs → (new.state ≡ Unfinished) ⊎ (new.state ≡ Unfinished → ⊥) → length old.account.results < length new.account.results
    ends_by (inl h) less some s = h
    ends_by (inr h) less some (inl u) =
        absurd (omega (
          arith,
          least_left new u is,
          ahead_same,
          jobs_same (suc (length new.account.results)),
          bounds_less old.jobs (suc (length new.account.results)) (suc (length old.account.results)) (omega (arith, h)),
          less,
        ))
    ends_by (inr h) less some (inr n) = omega (arith, results_full new new.state n is.state, ap length same.jobs, some)

    pub ends : left new + 1 ≤ 1 + bounds_of (drop (suc (length old.account.results)) old.jobs) + reaps_ahead old.crash old → length old.account.results < length old.jobs → length old.account.results < length new.account.results
    ends less some = ends_by (cases_lt (length old.account.results) (length new.account.results)) less some (is_unfinished new.state)

  -- the results of an actor never become fewer
  pub results_stay : ReapsOn old.now new → (old.now ≢ over) → left new ≤ left old → length old.account.results ≤ length new.account.results
  results_stay goes going less = by old.now refl was.now goes going
    where
      by : (now : Now) → old.now ≡ now → FitsNow now old → ReapsOn now new → (now ≢ over) → length old.account.results ≤ length new.account.results
      by (works r) e f g o = grows f.0 less
      by idles e f g o = grows f.0 less
      by (reaps made) e f g o =
          let crashed = g.0 in
          omega (arith, results_full new new.state (λ u. absurd (cc)) is.state, results_few old old.state was.state, ap length same.jobs)
      by over e f g o = absurd (o refl)
