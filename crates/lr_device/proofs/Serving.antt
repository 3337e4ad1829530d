-- Logs that keep a call.
use Rattle.std.proofs.Common.{◌≡◌, ℕ, [], ◌∷◌, ◌++◌, true, refl, sym, subst}
use Rattle.std.specs.Prelude.{MatchBool}
use Rattle.std.specs.Bool.{OnFalse}
use Rattle.lr_object.specs.Kept.{Keeps}
use Rattle.lr_device.specs.declared.held.Refusal.{Refusal}
use Rattle.lr_device.specs.declared.held.Refusal.TheVariants as Why
use Rattle.lr_device.specs.declared.step.DeviceStep.{DeviceStep}
use Rattle.lr_device.specs.declared.step.DeviceNoted.{DeviceNoted}
use Rattle.lr_device.specs.declared.step.DeviceAnswer.{DeviceAnswer}
use Rattle.lr_device.specs.Machine.{LogEntry, run}
use Rattle.lr_device.specs.Enters.{is_logged, Notes, Enters}
use Rattle.lr_device.specs.Held.{Seen, Serves, Refuses, refused}

-- an entry is kept of a logged answer
pub keeps_entry : (old new : Seen) (caller : ℕ) (step : DeviceStep) (answer : DeviceAnswer) (e : LogEntry) → is_logged answer ≡ true → new.capacity ≡ old.capacity → new.log ≡ old.log ++ e ∷ [] → e.caller ≡ caller
    → Notes old.capacity (run old.capacity old.log) caller step answer e.call → e.reply ≡ answer → Keeps (is_logged answer) (λ e. Enters old.capacity old.log caller step answer e) old new caller
keeps_entry old new caller step answer e t fixed grown by noted told = record {
  fixed = fixed;
  logged = subst (λ b. MatchBool b ((e : LogEntry) × (new.log ≡ old.log ++ e ∷ []) × (e.caller ≡ caller) × Enters old.capacity old.log caller step answer e × (Unit {0} → Unit {0})) (new.log ≡ old.log)) (sym t)
      (e, grown, by, record { logged = t; noted = noted; told = told }, λ u. u);
  unlogged = subst (λ b. OnFalse b (new ≡ old)) (sym t) tt;
}

refused_logged : (why : Refusal) → is_logged (refused why) ≡ true
refused_logged Why.NoPlan = refl
refused_logged (Why.Lacking i) = refl
refused_logged Why.Small = refl

-- a refused call is kept
pub serves_refused : (old new : Seen) (caller : ℕ) (step : DeviceStep) (noted : DeviceNoted) (why : Refusal) (answer : DeviceAnswer) → answer ≡ refused why → new.capacity ≡ old.capacity
    → new.log ≡ old.log ++ record { caller = caller; call = noted; reply = refused why } ∷ [] → Refuses old caller step noted why → Serves old new caller step answer
serves_refused old new caller step noted why answer e fixed grown may =
    subst (λ (a : DeviceAnswer). Serves old new caller step a) (sym e) (record {
      answered = may.answered;
      kept = keeps_entry old new caller step (refused why) (record { caller = caller; call = noted; reply = refused why }) (refused_logged why) fixed grown refl may.noted refl;
    })
