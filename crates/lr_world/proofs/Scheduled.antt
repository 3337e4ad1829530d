-- Each schedule is a run, and the steps of an unfinished actor are counted.
use Rattle.std.proofs.Common.{◌≡◌, ◌<◌, ◌≤◌, ◌+◌, ℕ, zero, suc, List, [], ◌∷◌, ◌++◌, Bool, true, false, cond, Option, Some, slice_get, refl, ap, sym, subst, ◌∙◌, inl, inr, arith, eqb-true, eq-eqb, lt-ltb}
use Rattle.std.specs.Prelude.{◌≢◌, ◌⊎◌, ◌==◌, ⊤, replicate, nat_lt, if◌then◌else◌}
use Rattle.std.proofs.Math.ListN.{set}
use Rattle.std.proofs.lemmas.Option.{slice_get_within}
use Rattle.lr_spec.specs.Rose.{last_count, next_count}
use Rattle.lr_origin.specs.Objects.{Objects as Stored}
use Rattle.lr_walk.specs.Steps.{Reply}
use Rattle.lr_walk.specs.Jobs.{Context}
use Rattle.lr_script.specs.Seen.{ScheduleSeen, Serial, Rounds, Pairs}
use Rattle.lr_actors.specs.declared.trail.ActorState.{ActorState}
use Rattle.lr_actors.specs.declared.trail.ActorState.TheVariants.{Unfinished, Crashed}
use Rattle.lr_actors.specs.Actor as actor
use Rattle.lr_actors.specs.Actor.{Now, works, idles, reaps, over, FitsNow, ReapsOn, counted}
use Rattle.lr_world.specs.Laws.{Laws}
use Rattle.lr_replies.specs.Objects.{Objects}
use Rattle.lr_world.specs.World.{Seen, objects_of, Part, part_of, cast_of, numbers_of, HasSessions, HoldsNothing, LetsGo, IsInPlace, IsWorld, StepsNow, Steps, IsFree}
use Rattle.lr_world.specs.Runs.{Runs, none, more, Works, InTurn, Round, InRounds, listed, IsScheduled, Ends, HaveLetGo, steps_for, AreCounted}
use Rattle.lr_world.specs.Runs as order
use Rattle.lr_world.proofs.Places.{at_same}
use Rattle.lr_world.proofs.Leases.{same_or_not}
use Rattle.lr_world.proofs.Kept.{steps_others}
use Rattle.lr_world.proofs.Alone.{still_there, part_number}
use Rattle.lr_world.proofs.Found.{one_number, same_actor}
use Rattle.lr_world.proofs.Running.{runs_on}
use Rattle.lr_world.proofs.Leaving.{runs_keep, runs_leave}

-- ---- a schedule is a run

freely : {O : Type 0} (objects : O → Option Stored) (faults : O → ℕ) (old new : Seen O) (i : ℕ) (a : actor.Seen) (now : Now) → StepsNow objects faults IsFree now old i a new → StepsNow objects faults (λ reply. ⊤) now old i a new
freely objects faults old new i a over s = s
freely objects faults old new i a idles s = s
freely objects faults old new i a (works r) s = (s.0, s.1, s.2, tt)
freely objects faults old new i a (reaps made) s = (s.0, s.1, s.2, tt)

module _ {O : Type 0} (objects : O → Option Stored) (faults : O → ℕ) where
  works_run : (number : ℕ) (old new : Seen O) (steps : List ℕ) → Works objects faults number old steps new → Runs objects faults old steps new
  works_run number old new steps order.Works.begun = none
  works_run number old new steps (order.Works.goes {mid = mid} {steps = earlier} w going s) =
      more (works_run number old mid earlier w) number (s.0, s.1, s.2, s.3, freely objects faults mid new s.0 s.1 s.1.now s.4)

  turns_run : (old new : Seen O) (numbers steps : List ℕ) → InTurn objects faults old numbers steps new → Runs objects faults old steps new
  turns_run old new numbers steps order.InTurn.begun = none
  turns_run old new numbers steps (order.InTurn.next {mid = mid} {numbers = earlier} {steps = before} {work = work} t number w ended) =
      runs_on objects faults (turns_run old mid earlier before t) (works_run number mid new work w)

  round_run : (old new : Seen O) (numbers steps : List ℕ) → Round objects faults old numbers steps new → Runs objects faults old steps new
  round_run old new numbers steps order.Round.begun = none
  round_run old new numbers steps (order.Round.goes {mid = mid} {numbers = earlier} {steps = before} t number going s) = more (round_run old mid earlier before t) number s
  round_run old new numbers steps (order.Round.rests {numbers = earlier} t number ended) = round_run old new earlier steps t

  rounds_run : (numbers : List ℕ) (old new : Seen O) (steps : List ℕ) → InRounds objects faults numbers old steps new → Runs objects faults old steps new
  rounds_run numbers old new steps order.InRounds.begun = none
  rounds_run numbers old new steps (order.InRounds.next {mid = mid} {steps = before} {round = round} t r) =
      runs_on objects faults (rounds_run numbers old mid before t) (round_run mid new numbers round r)

  pub scheduled_run : (numbers : List ℕ) (schedule : ScheduleSeen) (old new : Seen O) (steps : List ℕ) → IsScheduled objects faults numbers schedule old steps new → Runs objects faults old steps new
  scheduled_run numbers Serial old new steps s = turns_run old new numbers steps s
  scheduled_run numbers Rounds old new steps s = rounds_run numbers old new steps s
  scheduled_run numbers (Pairs pairs false) old new steps s = subst (λ (l : List ℕ). Runs objects faults old l new) (sym s.0) s.1
  scheduled_run numbers (Pairs pairs true) old new steps s =
      subst (λ (l : List ℕ). Runs objects faults old l new) (sym s.2) (runs_on objects faults s.3 (rounds_run numbers s.0 new s.1 s.4))

-- ---- steps are counted

times : ℕ → List ℕ → ℕ
times n [] = 0
times n (m ∷ steps) = cond (m == n) 1 0 + times n steps

times_none : (n : ℕ) → times n [] ≡ 0
unfolding times
times_none n = refl

times_append : (n : ℕ) (xs ys : List ℕ) → times n (xs ++ ys) ≡ times n xs + times n ys
unfolding times
times_append n [] ys = omega arith
times_append n (x ∷ xs) ys = omega (arith, times_append n xs ys)

times_one : (n m : ℕ) → times n (m ∷ []) ≡ cond (m == n) 1 0
unfolding times
times_one n m = omega arith

times_replicate : (n m k : ℕ) → times n (replicate k m) ≡ cond (m == n) k 0
unfolding times
times_replicate n m zero = by (m == n)
  where
    by : (b : Bool) → ◌≡◌ {A = ℕ} 0 (cond b 0 0)
    by true = refl
    by false = refl
times_replicate n m (suc k) = by (m == n) (times_replicate n m k)
  where
    by : (b : Bool) → times n (replicate k m) ≡ cond b k 0 → cond b 1 0 + times n (replicate k m) ≡ cond b (suc k) 0
    by true e = omega (arith, e)
    by false e = omega (arith, e)

times_listed : (n : ℕ) (pairs : List (ℕ × ℕ)) → times n (listed pairs) ≡ steps_for n pairs
times_listed n [] = times_none n
times_listed n (p ∷ pairs) = times_append n (replicate p.1 p.0) (listed pairs) ∙ (λ t. times_replicate n p.0 p.1 t + times_listed n pairs t)

next_of : (n : ℕ) → n < last_count → next_count n ≡ n + 1
next_of n h = by (nat_lt n last_count) (lt-ltb n last_count h)
  where
    by : (b : Bool) → b ≡ true → (if b then n + 1 else n) ≡ n + 1
    by true e = refl
    by false e = absurd (cc)

-- the step of an actor that is unfinished afterwards
module _ {O : Type 0} (objects : O → Option Stored) (faults : O → ℕ) (allows : Reply → Type 0) (old new : Seen O) (i : ℕ) (a b : actor.Seen) (got : slice_get old.actors i ≡ Some a) (there : slice_get new.actors i ≡ Some b) (unfinished : b.state ≡ Unfinished) where
  the_after : (xs : List actor.Seen) (x : actor.Seen) → new.actors ≡ set old.actors i x → x ≡ b
  the_after xs x e =
      let s : Some x ≡ Some b = sym (at_same old.actors i x (slice_get_within old.actors i a got)) ∙ ap (λ (l : List actor.Seen). slice_get l i) (sym e) ∙ there in
      cc

  step_by : (now : Now) → a.now ≡ now → FitsNow now a → StepsNow objects faults allows now old i a new → (a.state ≡ Unfinished) × (b.steps ≡ next_count a.steps)
  step_by over n f s =
      let same : b ≡ a = same_actor old.actors i b a (ap (λ w. slice_get w.actors i) (sym s) ∙ there) got in
      absurd (f.0 (ap (λ (x : actor.Seen). x.state) (sym same) ∙ unfinished))
  step_by idles n f s =
      let same : s.after ≡ b = the_after old.actors s.after (ap (λ w. w.actors) s.kept) in
      (f.0, ap (λ (x : actor.Seen). x.steps) (sym same) ∙ s.passed.steps)
  step_by (works r) n f s =
      let same : s.2.after ≡ b = the_after old.actors s.2.after s.2.actors in
      (f.0, ap (λ (x : actor.Seen). x.steps) (sym same) ∙ s.2.took.steps ∙ ap (λ (st : ActorState). counted st a.steps) f.0)
  step_by (reaps made) n f s =
      let same : s.2.after ≡ b = the_after old.actors s.2.after s.2.actors in
      let crashed : s.2.after.state ≡ Crashed = (subst (λ (k : Now). ReapsOn k s.2.after) n s.2.took.reaps).0 in
      let state : s.2.after.state ≡ b.state = ap (λ (x : actor.Seen). x.state) same in
      absurd (cc)

module _ {O : Type 0} (laws : Laws) (objects : O → Option Stored) (faults : O → ℕ) (context : Context) (hosts : ℕ) (old : Seen O) (is : IsWorld context hosts old) (j : ℕ) (a : actor.Seen) (got : slice_get old.actors j ≡ Some a) where
  counted_more : (mid new : Seen O) (earlier : List ℕ) (number : ℕ) (b : actor.Seen) → Runs objects faults old earlier mid → Steps objects faults mid number new → slice_get new.actors j ≡ Some b → b.state ≡ Unfinished
      → ((m : actor.Seen) → slice_get mid.actors j ≡ Some m → m.state ≡ Unfinished → a.steps + times a.number earlier ≤ last_count → m.steps ≡ a.steps + times a.number earlier)
      → a.steps + times a.number (earlier ++ number ∷ []) ≤ last_count → b.steps ≡ a.steps + times a.number (earlier ++ number ∷ [])
  counted_more mid new earlier number b r s there unfinished earlier_counted few = by (same_or_not j s.0)
    where
      whole : times a.number (earlier ++ number ∷ []) ≡ times a.number earlier + cond (number == a.number) 1 0
      whole = times_append a.number earlier (number ∷ []) ∙ ap (λ (k : ℕ). times a.number earlier + k) (times_one a.number number)

      world : IsWorld context hosts mid
      world = runs_keep laws objects faults context hosts old mid earlier is r

      known : (m : actor.Seen) × (slice_get mid.actors j ≡ Some m) × (part_of m ≡ part_of a)
      known = still_there old mid j a (runs_leave laws objects faults old mid earlier r).cast got

      same_number : (j ≡ s.0) → number ≡ a.number
      same_number e =
          let same : s.1 ≡ known.0 = same_actor mid.actors j s.1 known.0 (ap (slice_get mid.actors) e ∙ s.2) known.1 in
          sym s.3 ∙ ap (λ (x : actor.Seen). x.number) same ∙ part_number known.0 a known.2

      other_number : (j ≢ s.0) → number ≢ a.number
      other_number ne e = ne (one_number context hosts mid j s.0 known.0 s.1 world known.1 s.2 (part_number known.0 a known.2 ∙ sym e ∙ sym s.3))

      one : (q : Bool) → (number == a.number) ≡ q → number ≡ a.number → ◌≡◌ {A = ℕ} (cond q 1 0) 1
      one true e n = refl
      one false e n = absurd (let t = eq-eqb number a.number n in cc)

      no_one : (q : Bool) → (number == a.number) ≡ q → number ≢ a.number → ◌≡◌ {A = ℕ} (cond q 1 0) 0
      no_one true e n = absurd (n (eqb-true number a.number e))
      no_one false e n = refl

      by : (j ≡ s.0) ⊎ (j ≢ s.0) → b.steps ≡ a.steps + times a.number (earlier ++ number ∷ [])
      by (inl e) =
          let there_i : slice_get new.actors s.0 ≡ Some b = ap (slice_get new.actors) (sym e) ∙ there in
          let step = step_by objects faults (λ reply. ⊤) mid new s.0 s.1 b s.2 there_i unfinished s.1.now refl (world.actors s.0 s.1 s.2).is.now s.4 in
          let at_j : slice_get mid.actors j ≡ Some s.1 = ap (slice_get mid.actors) e ∙ s.2 in
          let k : cond (number == a.number) 1 0 ≡ 1 = one (number == a.number) refl (same_number e) in
          let before : s.1.steps ≡ a.steps + times a.number earlier = earlier_counted s.1 at_j step.0 (omega (arith, few, whole, k)) in
          let next : next_count s.1.steps ≡ s.1.steps + 1 = next_of s.1.steps (omega (arith, few, whole, k, before)) in
          step.1 ∙ next ∙ omega (arith, before, whole, k)
      by (inr ne) =
          let at_j : slice_get mid.actors j ≡ Some b = sym (steps_others objects faults (λ reply. ⊤) mid new s.0 s.1 s.1.now s.4 j ne) ∙ there in
          let k : cond (number == a.number) 1 0 ≡ 0 = no_one (number == a.number) refl (other_number ne) in
          let before : b.steps ≡ a.steps + times a.number earlier = earlier_counted b at_j unfinished (omega (arith, few, whole, k)) in
          omega (arith, before, whole, k)

  runs_counted : (new : Seen O) (steps : List ℕ) → Runs objects faults old steps new → (b : actor.Seen) → slice_get new.actors j ≡ Some b → b.state ≡ Unfinished → a.steps + times a.number steps ≤ last_count → b.steps ≡ a.steps + times a.number steps
  runs_counted new steps none b there unfinished few =
      let nothing : a.steps ≡ a.steps + times a.number [] = omega (arith, times_none a.number) in
      ap (λ (x : actor.Seen). x.steps) (same_actor old.actors j b a there got) ∙ nothing
  runs_counted new steps (more {mid = mid} {steps = earlier} r number s) b there unfinished few =
      counted_more mid new earlier number b r s there unfinished (λ m e u f. runs_counted mid earlier r m e u f) few

pub are_counted : {O : Type 0} (laws : Laws) (objects : O → Option Stored) (faults : O → ℕ) (context : Context) (hosts : ℕ) (numbers : List ℕ) (schedule : ScheduleSeen) (old new : Seen O) (steps : List ℕ) → IsWorld context hosts old → IsScheduled objects faults numbers schedule old steps new → AreCounted schedule old new
are_counted laws objects faults context hosts numbers Serial old new steps is s = tt
are_counted laws objects faults context hosts numbers Rounds old new steps is s = tt
are_counted laws objects faults context hosts numbers (Pairs pairs true) old new steps is s = tt
are_counted laws objects faults context hosts numbers (Pairs pairs false) old new steps is s =
    λ i a b e f unfinished few.
    let same : times a.number (listed pairs) ≡ steps_for a.number pairs = times_listed a.number pairs in
    let whole : b.steps ≡ a.steps + times a.number (listed pairs) = runs_counted laws objects faults context hosts old is i a e new (listed pairs) s.1 b f unfinished (omega (arith, few, same)) in
    whole ∙ ap (λ (n : ℕ). a.steps + n) same

-- ---- who has ended holds nothing

nothing_held : (w : Objects) (a : actor.Seen) → IsInPlace w a → a.now ≡ over → HoldsNothing w a.number
nothing_held w a place now = record {
  lists = λ o. place.gone o (subst (λ (n : Now). LetsGo n a o) (sym now) tt);
  sessions = subst (λ (n : Now). HasSessions n w a.number) now place.sessions;
}

pub have_let_go : {O : Type 0} (context : Context) (hosts : ℕ) (schedule : ScheduleSeen) (w : Seen O) → IsWorld context hosts w → Ends schedule w → HaveLetGo schedule w
have_let_go context hosts Serial w is ends = λ i a e. nothing_held (objects_of w) a (is.actors i a e) (ends i a e)
have_let_go context hosts Rounds w is ends = λ i a e. nothing_held (objects_of w) a (is.actors i a e) (ends i a e)
have_let_go context hosts (Pairs pairs true) w is ends = λ i a e. nothing_held (objects_of w) a (is.actors i a e) (ends i a e)
have_let_go context hosts (Pairs pairs false) w is ends = tt

-- ---- pairs, and rounds behind them

pub pairs_alone : {O : Type 0} (objects : O → Option Stored) (faults : O → ℕ) (numbers : List ℕ) (pairs : List (ℕ × ℕ)) (rounds : Bool) (old new : Seen O) → rounds ≡ false → Runs objects faults old (listed pairs) new
    → (steps : List ℕ) × IsScheduled objects faults numbers (Pairs pairs rounds) old steps new
pairs_alone objects faults numbers pairs true old new e r = absurd (cc)
pairs_alone objects faults numbers pairs false old new e r = (listed pairs, (refl, r))

pub pairs_rounds : {O : Type 0} (objects : O → Option Stored) (faults : O → ℕ) (pairs : List (ℕ × ℕ)) (rounds : Bool) (old mid new : Seen O) → rounds ≡ true → Runs objects faults old (listed pairs) mid → cast_of mid ≡ cast_of old
    → (later : List ℕ) × InRounds objects faults (numbers_of (cast_of mid)) mid later new → (steps : List ℕ) × IsScheduled objects faults (numbers_of (cast_of old)) (Pairs pairs rounds) old steps new
pairs_rounds objects faults pairs false old mid new e r cast l = absurd (cc)
pairs_rounds objects faults pairs true old mid new e r cast l =
    (listed pairs ++ l.0, (mid, l.0, refl, r, subst (λ (c : List Part). InRounds objects faults (numbers_of c) mid l.0 new) cast l.1))
