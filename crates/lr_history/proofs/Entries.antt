-- What the entries of a device's log keep, since calls made them.
use Rattle.std.proofs.Common.{◌≡◌, ℕ, List, [], ◌∷◌, ◌++◌, Some, None, option_map, Option, refl, sym, ap, subst, ◌∙◌}
use Rattle.std.specs.List.{AllByRecursion}
use Rattle.lr_convergent.specs.declared.piece.KeptPiece.{KeptPiece}
use Rattle.lr_object.specs.Grown.{Grown, same, more}
use Rattle.lr_device.specs.declared.step.DeviceStep.{DeviceStep}
use Rattle.lr_device.specs.declared.step.DeviceStep.TheVariants as asks
use Rattle.lr_device.specs.declared.step.DeviceNoted.{DeviceNoted}
use Rattle.lr_device.specs.declared.step.DeviceNoted.TheVariants.{Plan, Commit, Drop, Reap}
use Rattle.lr_device.specs.declared.step.DeviceAnswer.{DeviceAnswer}
use Rattle.lr_device.specs.declared.step.DeviceAnswer.TheVariants.{Committed}
use Rattle.lr_device.specs.Machine.{LogEntry, OpenPlan, plan_of, run as made_by, history, AgreesWith}
use Rattle.lr_device.specs.Machine as machine
use Rattle.lr_device.specs.Answers.{Answers}
use Rattle.lr_device.specs.Enters.{Enters, Notes}
use Rattle.lr_device.specs.Base.{Agrees}
use Rattle.lr_history.specs.Strings.{used_by, used_pieces}
use Rattle.lr_history.specs.Run.{Run}
use Rattle.lr_history.specs.Premises.{AreDeviceLogs, size_of}
use Rattle.lr_history.specs.Histories.{HasPlan, CommitsArePlanned}
use Rattle.lr_history.proofs.Facts.{all_append, all_weaker}

-- the entry has its planned call where it is committed, and keeps pieces only there
pub record IsKept (e : LogEntry) : Type 0 where
  pub planned : HasPlan e.call e.reply
  pub used : machine.used_by e.call ≡ used_by e.call e.reply

no_plan : {P : Type 0} (plan : OpenPlan) (o : Option OpenPlan) → o ≡ Some plan → None ≡ option_map (λ (p : OpenPlan). p.call) o → P
no_plan plan None e n = absurd (cc)
no_plan plan (Some p) e n = absurd (cc)

planned : (size : ℕ) (log : List LogEntry) (caller : ℕ) (step : DeviceStep) (answer : DeviceAnswer) (noted : DeviceNoted) → Answers size log caller step answer → Notes size (made_by size log) caller step answer noted → HasPlan noted answer
planned size log caller step (Committed reply) (Commit (Some call) used) a n = tt
planned size log caller (asks.Commit pieces room) (Committed reply) (Commit None used) a n = no_plan a.0 (plan_of caller (made_by size log)) a.1 n.0
planned size log caller step (Committed reply) (Commit None used) a n = absurd n
planned size log caller (asks.Plan call) (Committed reply) (Plan kept) a n = absurd a
planned size log caller step (Committed reply) (Plan kept) a n = absurd n
planned size log caller asks.Drop (Committed reply) Drop a n = absurd a
planned size log caller step (Committed reply) Drop a n = absurd n
planned size log caller asks.Reap (Committed reply) Reap a n = absurd a
planned size log caller step (Committed reply) Reap a n = absurd n
planned size log caller step answer (Commit (Some call) used) a n = tt
planned size log caller step answer (Commit None used) a n = tt
planned size log caller step answer (Plan kept) a n = tt
planned size log caller step answer Drop a n = tt
planned size log caller step answer Reap a n = tt

as_used : (size : ℕ) (log : List LogEntry) (caller : ℕ) (step : DeviceStep) (answer : DeviceAnswer) (noted : DeviceNoted) → Answers size log caller step answer → Notes size (made_by size log) caller step answer noted → machine.used_by noted ≡ used_by noted answer
as_used size log caller step answer (Plan kept) a n = refl
as_used size log caller step answer Drop a n = refl
as_used size log caller step answer Reap a n = refl
as_used size log caller step (Committed reply) (Commit (Some call) used) a n = refl
as_used size log caller (asks.Commit pieces room) (Committed reply) (Commit None used) a n = no_plan a.0 (plan_of caller (made_by size log)) a.1 n.0
as_used size log caller (asks.Commit pieces room) answer (Commit (Some call) used) a n = n.1
as_used size log caller (asks.Commit pieces room) answer (Commit None used) a n = n.1
as_used size log caller step answer (Commit plan used) a n = absurd n

pub all_kept : (size : ℕ) (log : List LogEntry) → Grown Answers Enters size [] log → AllByRecursion IsKept log
all_kept size log same = tt
all_kept size log (more {log = before} g step answer e a n) =
    all_append IsKept before (e ∷ []) (all_kept size before g) (
      record {
        planned = subst (HasPlan e.call) (sym n.told) (planned size before e.caller step answer e.call a n.noted);
        used = as_used size before e.caller step answer e.call a n.noted ∙ ap (used_by e.call) (sym n.told);
      },
      tt,
    )

front : (base : List ℕ) (xs ys : List KeptPiece) → Agrees base (xs ++ ys) → Agrees base xs × Agrees base ys
front base [] ys h = (tt, h)
front base (x ∷ xs) ys h = let r = front base xs ys h.1 in ((h.0, r.0), r.1)

agrees : (base : List ℕ) (log : List LogEntry) → AllByRecursion IsKept log → Agrees base (used_pieces log) → AgreesWith base log
agrees base [] k h = tt
agrees base (e ∷ log) k h =
    let r = front base (used_by e.call e.reply) (used_pieces log) h in
    (subst (Agrees base) (sym k.0.used) r.0, agrees base log k.1 r.1)

pub agrees_with : (base : List ℕ) (size : ℕ) (log : List LogEntry) → Grown Answers Enters size [] log → Agrees base (used_pieces log) → AgreesWith base log
agrees_with base size log g h = agrees base log (all_kept size log g) h

pub all_planned : (size : ℕ) (log : List LogEntry) → Grown Answers Enters size [] log → AllByRecursion (λ (e : LogEntry). HasPlan e.call e.reply) log
all_planned size log g = all_weaker IsKept (λ (e : LogEntry). HasPlan e.call e.reply) (λ e k. k.planned) log (all_kept size log g)

pub planned_commits : (run : Run) → AreDeviceLogs run → CommitsArePlanned run
planned_commits run grown i d at = all_planned (size_of d) d.log (grown i d at)
