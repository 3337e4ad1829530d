-- What a caller has planned rests on its own entries.
use Rattle.std.proofs.Common.{◌≡◌, ℕ, List, [], ◌∷◌, ◌++◌, Bool, true, false, cond, fold, Option, Some, None, find, refl, sym, ◌∙◌, ap, subst}
use Rattle.std.specs.Prelude.{◌==◌, option_map}
use Rattle.std.specs.Arc.{arc_value}
use Rattle.std.specs.Option.{option_or}
use Rattle.std.proofs.lemmas.Bool.{eqb-true, eq-eqb}
use Rattle.std.proofs.lemmas.List.Folds.{find-append}
use Rattle.std.proofs.lemmas.List.Sums.{fold-append}
use Rattle.lr_object.specs.Own.{own_entries}
use Rattle.lr_object.specs.Grown.{Grown, same, more}
use Rattle.lr_device.specs.declared.call.DeviceCall.{DeviceCall}
use Rattle.lr_device.specs.declared.step.DeviceStep.{DeviceStep}
use Rattle.lr_device.specs.declared.step.DeviceStep.TheVariants as Step
use Rattle.lr_device.specs.declared.step.DeviceNoted.{DeviceNoted}
use Rattle.lr_device.specs.declared.step.DeviceNoted.TheVariants as Noted
use Rattle.lr_device.specs.declared.step.DeviceAnswer.{DeviceAnswer}
use Rattle.lr_device.specs.declared.step.DeviceAnswer.TheVariants.{Planned, Committed, Dropped, Reaped}
use Rattle.lr_device.specs.Machine.{LogEntry, OpenPlan, State, run, state_after, plan_of, is_of, plan_gone}
use Rattle.lr_device.specs.Answers.{Answers}
use Rattle.lr_device.specs.Enters.{Enters, Notes}
use Rattle.lr_device.specs.Plans.{planned_after, planned_then, planned}
use Rattle.lr_device.proofs.Histories.{run_push}
use Rattle.lr_device.proofs.Plans.{ended, others, begun, is_none}

from_plan : (caller : ℕ) (log : List LogEntry) (plan : Option DeviceCall) → fold (planned_then caller) plan log ≡ fold (planned_then caller) plan (own_entries caller log)
from_plan caller [] plan = refl
from_plan caller (e ∷ log) plan = by (λ p. from_plan caller log p) (e.caller == caller) refl
  where
    by : ((p : Option DeviceCall) → fold (planned_then caller) p log ≡ fold (planned_then caller) p (own_entries caller log)) → (b : Bool) → (e.caller == caller) ≡ b
        → fold (planned_then caller) (cond b (planned_after plan e.call e.reply) plan) log ≡ fold (planned_then caller) plan (cond b (e ∷ own_entries caller log) (own_entries caller log))
    by later true t =
        later (planned_after plan e.call e.reply)
        ∙ ap (λ (b : Bool). fold (planned_then caller) (cond b (planned_after plan e.call e.reply) plan) (own_entries caller log)) (sym t)
    by later false t = later plan

pub ones_own : (caller : ℕ) (log : List LogEntry) → planned caller log ≡ planned caller (own_entries caller log)
ones_own caller log = from_plan caller log None

-- the call of a plan
abbrev call_of : Option OpenPlan → Option DeviceCall
call_of = option_map (λ plan. plan.call)

quiet : (b : Bool) (p : Option DeviceCall) → p ≡ cond b p p
quiet true p = refl
quiet false p = refl

module _ (size : ℕ) (log : List LogEntry) (g : Grown Answers Enters size [] log) (who : ℕ) where
  -- a plan that is made
  made_by : (caller : ℕ) (plan : OpenPlan) (b : Bool) → plan.caller ≡ caller → (caller == who) ≡ b → plan_of caller (run size log) ≡ None
      → call_of (find (is_of who) ((run size log).plans ++ plan ∷ [])) ≡ cond b (Some plan.call) (call_of (plan_of who (run size log)))
  made_by caller plan true by t none =
      let at : plan.caller ≡ who = by ∙ eqb-true caller who t in
      let free : find (is_of plan.caller) (run size log).plans ≡ None = ap (λ c. find (is_of c) (run size log).plans) by ∙ none in
      ap call_of (subst (λ c. find (is_of c) ((run size log).plans ++ plan ∷ []) ≡ Some plan) at (begun (run size log).plans plan free))
  made_by caller plan false by t none =
      let out : is_of who plan ≡ false = ap (λ c. c == who) by ∙ t in
      let tail : find (is_of who) (plan ∷ []) ≡ None = rw out refl in
      ap call_of (find-append (is_of who) (run size log).plans (plan ∷ []) ∙ rest (find (is_of who) (run size log).plans) tail)
    where
      rest : (o : Option OpenPlan) → find (is_of who) (plan ∷ []) ≡ None → option_or o (find (is_of who) (plan ∷ [])) ≡ o
      rest None e = e
      rest (Some x) e = refl

  -- a plan that ended
  gone_by : (caller : ℕ) (b : Bool) → (caller == who) ≡ b → call_of (plan_of who (plan_gone caller (run size log))) ≡ cond b None (call_of (plan_of who (run size log)))
  gone_by caller true t = ap call_of (subst (λ c. plan_of c (plan_gone caller (run size log)) ≡ None) (eqb-true caller who t) (ended size log g caller))
  gone_by caller false t = ap call_of (others (run size log) caller who (λ e. absurd (cc (eq-eqb caller who (sym e), t))))

  entry_planned : (caller : ℕ) (noted : DeviceNoted) (answer : DeviceAnswer) (step : DeviceStep) → Answers size log caller step answer → Notes size (run size log) caller step answer noted → (b : Bool) → (caller == who) ≡ b
      → call_of (plan_of who (state_after size (run size log) caller noted answer)) ≡ cond b (planned_after (call_of (plan_of who (run size log))) noted answer) (call_of (plan_of who (run size log)))
  entry_planned caller (Noted.Plan kept) (Planned needs pages) (Step.Plan call) a n b t = made_by caller (record { caller = caller; call = arc_value kept; pages = pages }) b refl t (is_none (plan_of caller (run size log)) a.0)
  entry_planned caller (Noted.Plan kept) (Planned needs pages) (Step.Commit pieces room) a n b t = absurd a
  entry_planned caller (Noted.Plan kept) (Planned needs pages) Step.Drop a n b t = absurd a
  entry_planned caller (Noted.Plan kept) (Planned needs pages) Step.Reap a n b t = absurd a
  entry_planned caller (Noted.Commit (Some call) used) (Committed reply) step a n b t = gone_by caller b t
  entry_planned caller Noted.Drop Dropped step a n b t = gone_by caller b t
  entry_planned caller Noted.Reap Reaped step a n b t = gone_by caller b t
  entry_planned caller noted answer step a n b t = quiet b (call_of (plan_of who (run size log)))

push : (who : ℕ) (log : List LogEntry) (e : LogEntry) → planned who (log ++ e ∷ []) ≡ planned_then who (planned who log) e
push who log e = fold-append (planned_then who) None log (e ∷ [])

-- what the machine has of a caller's plan
pub planned_is : (size : ℕ) (log : List LogEntry) → Grown Answers Enters size [] log → (who : ℕ) → call_of (plan_of who (run size log)) ≡ planned who log
planned_is size log same who = refl
planned_is size log (more {log = before} g step answer e a n) who =
    let was = planned_is size before g who in
    let one : call_of (plan_of who (state_after size (run size before) e.caller e.call answer)) ≡ cond (e.caller == who) (planned_after (call_of (plan_of who (run size before))) e.call answer) (call_of (plan_of who (run size before)))
    = entry_planned size before g who e.caller e.call answer step a n.noted (e.caller == who) refl in
    ap (λ (st : State). call_of (plan_of who st)) (run_push size before e ∙ ap (λ r. state_after size (run size before) e.caller e.call r) n.told)
    ∙ one ∙ (λ i. cond (e.caller == who) (planned_after (was i) e.call (sym n.told i)) (was i)) ∙ sym (push who before e)
