-- Plans by their callers.
use Rattle.std.proofs.Common.{◌≡◌, ◌≢◌, ℕ, suc, ◌+◌, List, [], ◌∷◌, ◌++◌, take, drop, Bool, true, false, cond, Option, Some, None, find, refl, ap, sym, ◌∙◌, arith, subst}
use Rattle.std.specs.Prelude.{not}
use Rattle.std.specs.List.{position_or_len}
use Rattle.std.specs.Option.{is_some}
use Rattle.std.specs.Arc.{arc_value}
use Rattle.std.proofs.lemmas.Bool.{ne_eqb, eqb-true, eq-eqb}
use Rattle.std.proofs.lemmas.List.Folds.{find-append}
use Rattle.lr_object.specs.Grown.{Grown, same, more}
use Rattle.lr_object.specs.Finds.{without_first}
use Rattle.lr_device.specs.declared.step.DeviceStep.{DeviceStep}
use Rattle.lr_device.specs.declared.step.DeviceStep.TheVariants as Step
use Rattle.lr_device.specs.declared.step.DeviceNoted.{DeviceNoted}
use Rattle.lr_device.specs.declared.step.DeviceNoted.TheVariants as Noted
use Rattle.lr_device.specs.declared.step.DeviceAnswer.{DeviceAnswer}
use Rattle.lr_device.specs.declared.step.DeviceAnswer.TheVariants.{HasPlan, Planned, NoPlan, Lacking, Small, Committed, Dropped, Reaped, Nothing, OutOfMemory}
use Rattle.lr_device.specs.Machine.{LogEntry, OpenPlan, State, run, state_after, plan_of, is_of, plan_gone}
use Rattle.lr_device.specs.Answers.{Answers}
use Rattle.lr_device.specs.Enters.{Enters, Notes}
use Rattle.lr_device.proofs.Histories.{run_push}

without_by : {X : Type 0} (p : X → Bool) (x : X) (xs : List X) (b : Bool) → p x ≡ b → take (cond (not b) (1 + position_or_len p xs) 0) (x ∷ xs) ++ drop (cond (not b) (1 + position_or_len p xs) 0 + 1) (x ∷ xs) ≡ cond b xs (x ∷ without_first p xs)
without_by p x xs true e = refl
without_by p x xs false e =
    let n : ℕ = position_or_len p xs in
    let a : 1 + n ≡ suc n = omega arith in
    let b : 1 + n + 1 ≡ suc (n + 1) = omega arith in
    (λ i. take (a i) (x ∷ xs) ++ drop (b i) (x ∷ xs))

without_cons : {X : Type 0} (p : X → Bool) (x : X) (xs : List X) → without_first p (x ∷ xs) ≡ cond (p x) xs (x ∷ without_first p xs)
without_cons p x xs = without_by p x xs (p x) refl

-- no two plans have one caller
Apart : List OpenPlan → Type 0
Apart [] = Unit {0}
Apart (plan ∷ plans) = (find (is_of plan.caller) plans ≡ None) × Apart plans

module _ (caller : ℕ) where
  find_gone_by : (plan : OpenPlan) (plans : List OpenPlan) (b : Bool) → is_of caller plan ≡ b → find (is_of plan.caller) plans ≡ None → (find (is_of caller) (without_first (is_of caller) plans) ≡ None)
      → find (is_of caller) (cond b plans (plan ∷ without_first (is_of caller) plans)) ≡ None
  find_gone_by plan plans true e apart rest = let at : plan.caller ≡ caller = eqb-true plan.caller caller e in rw at at apart
  find_gone_by plan plans false e apart rest = rw e rest

  -- the caller's plan ended, and there was no other
  find_gone : (plans : List OpenPlan) → Apart plans → find (is_of caller) (without_first (is_of caller) plans) ≡ None
  unfolding Apart
  find_gone [] apart = refl
  find_gone (plan ∷ plans) apart = rw without_cons (find_gone_by plan plans (is_of caller plan) refl apart.0 (find_gone plans apart.1))

not_both : (other caller : ℕ) (plan : OpenPlan) (b : Bool) → other ≢ caller → is_of caller plan ≡ true → is_of other plan ≡ b → b ≡ false
not_both other caller plan true ne e f = absurd (ne (sym (eqb-true plan.caller other f) ∙ eqb-true plan.caller caller e))
not_both other caller plan false ne e f = refl

other_by : (other caller : ℕ) (plan : OpenPlan) (plans : List OpenPlan) (b : Bool) → other ≢ caller → is_of caller plan ≡ b → find (is_of other) (without_first (is_of caller) plans) ≡ find (is_of other) plans
    → find (is_of other) (cond b plans (plan ∷ without_first (is_of caller) plans)) ≡ find (is_of other) (plan ∷ plans)
other_by other caller plan plans true ne e rest = let out : is_of other plan ≡ false = not_both other caller plan (is_of other plan) ne e refl in rw out refl
other_by other caller plan plans false ne e rest = ap (λ r. cond (is_of other plan) (Some plan) r) rest

-- another caller's plan stays
other_stays : (other caller : ℕ) (plans : List OpenPlan) → other ≢ caller → find (is_of other) (without_first (is_of caller) plans) ≡ find (is_of other) plans
other_stays other caller [] ne = refl
other_stays other caller (plan ∷ plans) ne = rw without_cons (other_by other caller plan plans (is_of caller plan) ne refl (other_stays other caller plans ne))

none_parts : (p : OpenPlan → Bool) (plan : OpenPlan) (r : Option OpenPlan) (t : Bool) → cond t (Some plan) r ≡ None → (t ≡ false) × (r ≡ None)
none_parts p plan r true e = absurd (cc e)
none_parts p plan r false e = (refl, e)

still_by : (x caller : ℕ) (plan : OpenPlan) (plans : List OpenPlan) (b : Bool) → is_of x plan ≡ false → find (is_of x) plans ≡ None → find (is_of x) (without_first (is_of caller) plans) ≡ None → find (is_of x) (cond b plans (plan ∷ without_first (is_of caller) plans)) ≡ None
still_by x caller plan plans true e rest left = rest
still_by x caller plan plans false e rest left = rw e left

still_none : (x caller : ℕ) (plans : List OpenPlan) → find (is_of x) plans ≡ None → find (is_of x) (without_first (is_of caller) plans) ≡ None
still_none x caller [] e = refl
still_none x caller (plan ∷ plans) e =
    let parts = none_parts (is_of x) plan (find (is_of x) plans) (is_of x plan) e in
    rw without_cons (still_by x caller plan plans (is_of caller plan) parts.0 parts.1 (still_none x caller plans parts.1))

apart_by : (caller : ℕ) (plan : OpenPlan) (plans : List OpenPlan) (b : Bool) → find (is_of plan.caller) plans ≡ None → Apart plans → Apart (without_first (is_of caller) plans) → Apart (cond b plans (plan ∷ without_first (is_of caller) plans))
unfolding Apart
apart_by caller plan plans true none apart rest = apart
apart_by caller plan plans false none apart rest = (still_none plan.caller caller plans none, rest)

apart_gone : (caller : ℕ) (plans : List OpenPlan) → Apart plans → Apart (without_first (is_of caller) plans)
unfolding Apart
apart_gone caller [] apart = tt
apart_gone caller (plan ∷ plans) apart = rw without_cons (apart_by caller plan plans (is_of caller plan) apart.0 apart.1 (apart_gone caller plans apart.1))

none_push : (p : OpenPlan → Bool) (plans : List OpenPlan) (new : OpenPlan) → find p plans ≡ None → p new ≡ false → find p (plans ++ new ∷ []) ≡ None
none_push p plans new none f = rw (find-append, none) (rw f refl)

caller_differs : (plan new : OpenPlan) (plans : List OpenPlan) → find (is_of new.caller) (plan ∷ plans) ≡ None → is_of plan.caller new ≡ false
caller_differs plan new plans none =
    ne_eqb new.caller plan.caller (λ e. differs (is_of new.caller plan) (eq-eqb plan.caller new.caller (sym e)) none)
  where
    differs : (b : Bool) → b ≡ true → cond b (Some plan) (find (is_of new.caller) plans) ≡ None → ⊥
    differs true t e = cc e
    differs false t e = cc t

rest_none : (p : OpenPlan → Bool) (plan : OpenPlan) (plans : List OpenPlan) → find p (plan ∷ plans) ≡ None → find p plans ≡ None
rest_none p plan plans e = by_test (p plan) e
  where
    by_test : (b : Bool) → cond b (Some plan) (find p plans) ≡ None → find p plans ≡ None
    by_test true e = absurd (cc e)
    by_test false e = e

apart_push : (plans : List OpenPlan) (new : OpenPlan) → Apart plans → find (is_of new.caller) plans ≡ None → Apart (plans ++ new ∷ [])
unfolding Apart
apart_push [] new apart none = (refl, tt)
apart_push (plan ∷ plans) new apart none =
    (none_push (is_of plan.caller) plans new apart.0 (caller_differs plan new plans none), apart_push plans new apart.1 (rest_none (is_of new.caller) plan plans none))

pub is_none : (o : Option OpenPlan) → is_some o ≡ false → o ≡ None
is_none None e = refl
is_none (Some x) e = absurd (cc e)

entry_apart : (size : ℕ) (log : List LogEntry) (caller : ℕ) (noted : DeviceNoted) (answer : DeviceAnswer) (step : DeviceStep) → Answers size log caller step answer → Notes size (run size log) caller step answer noted
    → Apart (run size log).plans → Apart (state_after size (run size log) caller noted answer).plans
entry_apart size log caller (Noted.Plan kept) (Planned needs pages) (Step.Plan call) a n apart = apart_push (run size log).plans (record { caller = caller; call = arc_value kept; pages = pages }) apart (is_none (plan_of caller (run size log)) a.0)
entry_apart size log caller (Noted.Plan kept) (Planned needs pages) (Step.Commit pieces room) a n apart = absurd a
entry_apart size log caller (Noted.Plan kept) (Planned needs pages) Step.Drop a n apart = absurd a
entry_apart size log caller (Noted.Plan kept) (Planned needs pages) Step.Reap a n apart = absurd a
entry_apart size log caller (Noted.Plan kept) HasPlan step a n apart = apart
entry_apart size log caller (Noted.Plan kept) NoPlan step a n apart = apart
entry_apart size log caller (Noted.Plan kept) (Lacking i) step a n apart = apart
entry_apart size log caller (Noted.Plan kept) Small step a n apart = apart
entry_apart size log caller (Noted.Plan kept) (Committed reply) step a n apart = apart
entry_apart size log caller (Noted.Plan kept) Dropped step a n apart = apart
entry_apart size log caller (Noted.Plan kept) Reaped step a n apart = apart
entry_apart size log caller (Noted.Plan kept) Nothing step a n apart = apart
entry_apart size log caller (Noted.Plan kept) OutOfMemory step a n apart = apart
entry_apart size log caller (Noted.Commit None used) answer step a n apart = apart
entry_apart size log caller (Noted.Commit (Some call) used) (Committed reply) step a n apart = apart_gone caller (run size log).plans apart
entry_apart size log caller (Noted.Commit (Some call) used) HasPlan step a n apart = apart
entry_apart size log caller (Noted.Commit (Some call) used) (Planned needs pages) step a n apart = apart
entry_apart size log caller (Noted.Commit (Some call) used) NoPlan step a n apart = apart
entry_apart size log caller (Noted.Commit (Some call) used) (Lacking i) step a n apart = apart
entry_apart size log caller (Noted.Commit (Some call) used) Small step a n apart = apart
entry_apart size log caller (Noted.Commit (Some call) used) Dropped step a n apart = apart
entry_apart size log caller (Noted.Commit (Some call) used) Reaped step a n apart = apart
entry_apart size log caller (Noted.Commit (Some call) used) Nothing step a n apart = apart
entry_apart size log caller (Noted.Commit (Some call) used) OutOfMemory step a n apart = apart
entry_apart size log caller Noted.Drop Dropped step a n apart = apart_gone caller (run size log).plans apart
entry_apart size log caller Noted.Drop HasPlan step a n apart = apart
entry_apart size log caller Noted.Drop (Planned needs pages) step a n apart = apart
entry_apart size log caller Noted.Drop NoPlan step a n apart = apart
entry_apart size log caller Noted.Drop (Lacking i) step a n apart = apart
entry_apart size log caller Noted.Drop Small step a n apart = apart
entry_apart size log caller Noted.Drop (Committed reply) step a n apart = apart
entry_apart size log caller Noted.Drop Reaped step a n apart = apart
entry_apart size log caller Noted.Drop Nothing step a n apart = apart
entry_apart size log caller Noted.Drop OutOfMemory step a n apart = apart
entry_apart size log caller Noted.Reap Reaped step a n apart = apart_gone caller (run size log).plans apart
entry_apart size log caller Noted.Reap HasPlan step a n apart = apart
entry_apart size log caller Noted.Reap (Planned needs pages) step a n apart = apart
entry_apart size log caller Noted.Reap NoPlan step a n apart = apart
entry_apart size log caller Noted.Reap (Lacking i) step a n apart = apart
entry_apart size log caller Noted.Reap Small step a n apart = apart
entry_apart size log caller Noted.Reap (Committed reply) step a n apart = apart
entry_apart size log caller Noted.Reap Dropped step a n apart = apart
entry_apart size log caller Noted.Reap Nothing step a n apart = apart
entry_apart size log caller Noted.Reap OutOfMemory step a n apart = apart

grown_apart : (size : ℕ) (log : List LogEntry) → Grown Answers Enters size [] log → Apart (run size log).plans
unfolding Apart
grown_apart size log same = tt
grown_apart size log (more {log = before} g step answer e a n) =
    subst (λ (st : State). Apart st.plans) (sym (run_push size before e))
    (subst (λ r. Apart (state_after size (run size before) e.caller e.call r).plans) (sym n.told) (entry_apart size before e.caller e.call answer step a n.noted (grown_apart size before g)))

-- a caller whose plan ended has none
pub ended : (size : ℕ) (log : List LogEntry) → Grown Answers Enters size [] log → (caller : ℕ) → plan_of caller (plan_gone caller (run size log)) ≡ None
ended size log g caller = find_gone caller (run size log).plans (grown_apart size log g)

pub others : (st : State) (caller other : ℕ) → other ≢ caller → plan_of other (plan_gone caller st) ≡ plan_of other st
others st caller other ne = other_stays other caller st.plans ne

-- a caller that had none has the plan that it made
pub begun : (plans : List OpenPlan) (plan : OpenPlan) → find (is_of plan.caller) plans ≡ None → find (is_of plan.caller) (plans ++ plan ∷ []) ≡ Some plan
begun plans plan none = let own : is_of plan.caller plan ≡ true = eq-eqb plan.caller plan.caller refl in rw (find-append, none) (rw own refl)
