-- the results of an actor that crashed, or whose trail is taken
use Rattle.std.proofs.Common.{◌≡◌, inl, inr, ◌≤◌, ◌<◌, ℕ, ◌+◌, ◌-◌, List, [], ◌∷◌, ◌++◌, length, Bool, true, false, Option, Some, None, refl, sym, ap, subst, ◌∙◌, arith, append-nil, eqb-true}
use Rattle.std.specs.Prelude.{slice_get, vec_len, ◌==◌}
use Rattle.std.proofs.lemmas.Bool.{false≢true}
use Rattle.std.specs.List.{AllByRecursion}
use Rattle.std.proofs.lemmas.List.{append_assoc}
use Rattle.lr_walk.specs.declared.trail.Answer.{Answer}
use Rattle.lr_walk.specs.declared.trail.Answer.TheVariants.{Cut, Unbegun}
use Rattle.lr_walk.specs.declared.trail.Did.{Did}
use Rattle.lr_walk.specs.declared.trail.JobResult.{JobResult}
use Rattle.lr_walk.specs.Jobs.{Context}
use Rattle.lr_walk.specs.Trails.{Lists}
use Rattle.lr_actors.specs.declared.trail.ActorState.TheVariants.{Crashed}
use Rattle.lr_actors.specs.declared.book.Book.{Book}
use Rattle.lr_actors.specs.declared.body.Setting.{Setting}
use Rattle.lr_actors.specs.declared.body.Stage.{Stage}
use Rattle.lr_actors.specs.declared.body.Stage.TheVariants.{Reaps}
use Rattle.lr_actors.specs.Jobs.{Job}
use Rattle.lr_actors.specs.Records.{HasWalk}
use Rattle.lr_actors.specs.Book.{Finished}
use Rattle.lr_actors.specs.Actor.{AreEnded, AreCutOnce, FitsCrash, reap_count}
use Rattle.lr_actors.specs.Body.{context_of, hosts_of, jobs_of, IsSetting, BookFits, HasEnded, IsBetween, ahead, Prepares, IsCutAt, Fills, AddsUnbegun, Crashes, CutsOne}
use Rattle.lr_actors.proofs.Accounted.{has_trail}
use Rattle.lr_actors.proofs.Keeping.{finished_stands}
use Rattle.lr_actors.proofs.Going.{all_push, take_front, jobs_len, next_of, ahead_le, empty_path, rest_whole}

-- ---- results

no_items : (path : List Did) → length path ≡ 0 → path ≡ []
no_items [] e = refl
no_items (d ∷ path) e = absurd (omega arith)

-- the path is empty
pub empty_items : (b : Book) (t : Bool) → t ≡ (vec_len b.path == 0) → t ≡ true → b.path.items ≡ []
empty_items b t e h = no_items b.path.items (sym b.path.ok.0 ∙ eqb-true (vec_len b.path) 0 (sym e ∙ h))

-- .. or not
pub some_items : (b : Book) (t : Bool) → t ≡ (vec_len b.path == 0) → t ≡ false → b.path.items ≡ [] → ⊥
some_items b t e h path =
    let zero : vec_len b.path ≡ 0 = b.path.ok.0 ∙ ap length path in
    let true_is : t ≡ true = e ∙ ap (λ (n : ℕ). n == 0) zero in
    false≢true (sym h ∙ true_is)

fits_more : (s : Setting) (old new : Book) (answer : Answer) → BookFits s old → Finished old answer new → BookFits s new
fits_more s old new answer h f = record { is = f.is; sized = rw f.tally h.sized; room = rw f.room h.room }

unbegun_walk : (context : Context) (lists : Lists) (job : Job) (path : List Did) → path ≡ [] → HasWalk context lists job path Unbegun
unbegun_walk context lists job path e = rw e ([], tt, refl)

pub left_unbegun : (s : Setting) (old new : Book) → HasEnded s old → length old.trail.results.items < vec_len s.jobs → old.path.items ≡ [] → Finished old Unbegun new → CutsOne s old new
left_unbegun s old new h lt path f =
    let next = next_of s old lt in
    record {
      fits = fits_more s old new Unbegun h.fits f;
      result = f.result;
      results = f.results;
      path = f.path;
      state = f.state;
      steps = f.steps;
      made = f.made;
      cut = inr f.answer;
      stands = λ lists stands cut. finished_stands s lists old new Unbegun next.0 f next.1 (unbegun_walk (context_of s) lists next.0 old.path.items path) stands;
    }

cut_job : (s : Setting) (lists : Lists) (old : Book) → (old.path.items ≡ [] → ⊥) → IsCutAt s lists old → (job : Job) × (slice_get (jobs_of s) (length old.trail.results.items) ≡ Some job) × HasWalk (context_of s) lists job old.path.items Cut
cut_job s lists old some (inl e) = absurd (some e)
cut_job s lists old some (inr n) = n

pub cut_off : (s : Setting) (old new : Book) → HasEnded s old → (old.path.items ≡ [] → ⊥) → Finished old Cut new → CutsOne s old new
cut_off s old new h some f = record {
  fits = fits_more s old new Cut h.fits f;
  result = f.result;
  results = f.results;
  path = f.path;
  state = f.state;
  steps = f.steps;
  made = f.made;
  cut = inl f.answer;
  stands = λ lists stands cut. let n = cut_job s lists old some cut in finished_stands s lists old new Cut n.0 f n.1 n.2 stands;
}

pub none_unbegun : (s : Setting) (b : Book) → BookFits s b → b.path.items ≡ [] → AddsUnbegun s b b
none_unbegun s b fits path = record { fits = fits; later = []; unbegun = tt; results = sym (append-nil b.trail.results.items); path = path; state = refl; steps = refl; made = refl; stands = λ lists stands. stands }

pub one_unbegun : (s : Setting) (old mid new : Book) → AddsUnbegun s old mid → length mid.trail.results.items < vec_len s.jobs → Finished mid Unbegun new → AddsUnbegun s old new
one_unbegun s old mid new a lt f =
    let next = next_of s mid lt in
    record {
      fits = fits_more s mid new Unbegun a.fits f;
      later = a.later ++ f.result ∷ [];
      unbegun = all_push (λ (r : JobResult). r.answer ≡ Unbegun) a.later f.result a.unbegun f.answer;
      results = f.results ∙ (ap (λ (l : List JobResult). l ++ f.result ∷ []) a.results ∙ append_assoc old.trail.results.items a.later (f.result ∷ []));
      path = f.path;
      state = f.state ∙ a.state;
      steps = f.steps ∙ a.steps;
      made = f.made ∙ a.made;
      stands = λ lists stands. finished_stands s lists mid new Unbegun next.0 f next.1 (unbegun_walk (context_of s) lists next.0 mid.path.items a.path) (a.stands lists stands);
    }

cut_once : (xs : List JobResult) (r : JobResult) (later : List JobResult) → AreEnded xs → AllByRecursion (λ (q : JobResult). q.answer ≡ Unbegun) later → AreCutOnce (xs ++ r ∷ later)
cut_once [] r later a u = inr u
cut_once (x ∷ xs) r later a u = inl (a.0, cut_once xs r later a.1 u)

pub ended_once : (xs : List JobResult) → AreEnded xs → AreCutOnce xs
ended_once [] a = tt
ended_once (x ∷ xs) a = inl (a.0, ended_once xs a.1)

pub filled : (s : Setting) (old mid new : Book) → HasEnded s old → CutsOne s old mid → AddsUnbegun s mid new → length new.trail.results.items ≡ vec_len s.jobs → Fills s old new
filled s old mid new h one rest each =
    let results : new.trail.results.items ≡ old.trail.results.items ++ one.result ∷ rest.later =
    rest.results ∙ (ap (λ (l : List JobResult). l ++ rest.later) one.results ∙ append_assoc old.trail.results.items (one.result ∷ []) rest.later) in
    record {
      fits = rest.fits;
      each = each;
      cut = rw results (cut_once old.trail.results.items one.result rest.later h.ended rest.unbegun);
      begins = rw results (take_front old.trail.results.items (one.result ∷ rest.later));
      path = rest.path;
      state = rest.state ∙ one.state;
      steps = rest.steps ∙ one.steps;
      made = rest.made ∙ one.made;
      stands = λ lists stands cut. rest.stands lists (one.stands lists stands cut);
    }

-- ---- a crash

minus_zero : (n m : ℕ) → n ≤ m → n - 0 ≤ m
minus_zero n m h = omega arith

pub crashed : (s : Setting) (old mid : Book) (new : Book) → IsSetting s → FitsCrash s.crash Crashed old.made → Fills s old mid
    → new ≡ record { trail = record { state = Crashed; results = mid.trail.results; steps = mid.trail.steps }; path = mid.path; tally = mid.tally; made = mid.made } → Crashes s old new (Reaps 0 false)
crashed s old mid new is crash f e = rw e (record {
  whole = record {
    setting = is;
    fits = record { is = record { counted = f.fits.is.counted; made = f.fits.is.made }; sized = f.fits.sized; room = f.fits.room };
    state = (f.cut, omega (arith, f.each, jobs_len s));
    crash = rw f.made crash;
    now = (refl, f.path, omega arith);
    stage = tt;
  };
  state = refl;
  out = refl;
  reaps = λ q. refl;
  made = f.made;
  steps = f.steps;
  left = minus_zero _ _ (by (record { trail = record { state = Crashed; results = mid.trail.results; steps = mid.trail.steps }; path = mid.path; tally = mid.tally; made = mid.made }) s.crash refl crash);
  stands = λ lists stands cut.
      let st = empty_path s lists mid.trail.results.items mid.path.items f.path (f.stands lists stands cut) in
      record {
        trail = has_trail (context_of s) lists (jobs_of s) mid.trail.results.items st (omega (arith, f.each, jobs_len s));
        rest = λ o u. rest_whole s lists mid.trail.results.items st o;
      };
})
  where
    by : (b : Book) (k : Option ℕ) → s.crash ≡ k → FitsCrash s.crash Crashed old.made → reap_count (context_of s) (hosts_of s) ≤ ahead s b (Reaps 0 false) (length old.trail.results.items + 1)
    by b None e c = absurd (subst (λ (q : Option ℕ). FitsCrash q Crashed old.made) e c)
    by b (Some n) e c = rw e (omega arith)

pub crash_prepares : (s : Setting) (old new : Book) (st : Stage) → IsBetween s old → Crashes s old new st → Prepares s old new st
crash_prepares s old new st b c = record {
  whole = c.whole;
  out = c.out;
  reaps = c.reaps;
  made = c.made;
  steps = c.steps;
  left = omega (arith, c.left, ahead_le s new st (length old.trail.results.items) (length old.trail.results.items + 1) (omega arith));
  stands = λ lists stands. c.stands lists stands (inl b.path);
}
