-- A commit that is refused.
use Rattle.std.proofs.Common.{◌≡◌, ℕ, List, [], map, get_or, Option, Some, None, refl, ap, sym, ◌∙◌, Global, Vec}
use Rattle.std.specs.Prelude.{option_map}
use Rattle.std.specs.Arc.{arc_value}
use Rattle.std.specs.declared.sync.Arc.{Arc}
use Rattle.std.proofs.lemmas.Option.{same_Some}
use Rattle.lr_object.specs.Finds.{IsFirst}
use Rattle.lr_overlay.specs.Pages.{Pages, is_written}
use Rattle.lr_convergent.specs.declared.piece.Piece.{Piece}
use Rattle.lr_convergent.specs.declared.piece.KeptPiece.{KeptPiece}
use Rattle.lr_device.specs.declared.held.HeldPlan.{HeldPlan}
use Rattle.lr_device.specs.declared.held.Refusal.{Refusal}
use Rattle.lr_device.specs.declared.held.Refusal.TheVariants.{NoPlan, Lacking, Small}
use Rattle.lr_device.specs.declared.commit.Verdict.TheVariants.{Refused}
use Rattle.lr_device.specs.declared.call.DeviceCall.{DeviceCall}
use Rattle.lr_device.specs.declared.step.DeviceStep.TheVariants as Step
use Rattle.lr_device.specs.declared.step.DeviceNoted.TheVariants.{Commit}
use Rattle.lr_device.specs.declared.step.DeviceAnswer.TheVariants.{OutOfMemory}
use Rattle.lr_device.specs.Demand.{demand}
use Rattle.lr_device.specs.Room.{RoomSeen}
use Rattle.lr_device.specs.Machine.{OpenPlan, run, plan_of, is_of}
use Rattle.lr_device.specs.Answers.{Answers, lacking, is_small, needs_of}
use Rattle.lr_device.specs.Held.{Holds, plan_seen, Seen, Refuses, refused}
use Rattle.lr_device.specs.Judged.{Judges}
use Rattle.lr_device.proofs.Keeping.{plan_found}

-- no plan, no commit
pub refuses_none : (old : Seen) (caller : ℕ) (pieces : Vec Piece Global) (room : RoomSeen) (used : Vec KeptPiece Global) → plan_of caller (run old.capacity old.log) ≡ None → used.items ≡ []
    → Refuses old caller (Step.Commit pieces room) (Commit None used) NoPlan
refuses_none old caller pieces room used none empty = record {
  noted = (sym (ap (option_map (λ (p : OpenPlan). p.call)) none), empty);
  answered = rw none refl;
  memory = λ plan found. absurd (cc (none, found));
}

module _ (old : Seen) (pages : Pages) (held : List HeldPlan) (caller at : ℕ) (plan : HeldPlan) (pieces : Vec Piece Global) (room : RoomSeen)
    (h : Holds old.capacity pages held old.log) (first : IsFirst (is_of caller) (map plan_seen held) at) (read : plan ≡ get_or held at plan) where
  found : plan_of caller (run old.capacity old.log) ≡ Some (plan_seen plan)
  found = plan_found old.capacity pages held old.log caller at plan h first read

  needs : needs_of old.capacity (run old.capacity old.log) (plan_seen plan) ≡ demand old.capacity (is_written pages) (arc_value plan.call)
  needs = λ i. demand old.capacity (sym h.written i) (arc_value plan.call)

  lacks : (o : Option ℕ) → lacking (demand old.capacity (is_written pages) (arc_value plan.call)) pieces.items ≡ o → lacking (needs_of old.capacity (run old.capacity old.log) (plan_seen plan)) pieces.items ≡ o
  lacks o e = ap (λ l. lacking l pieces.items) needs ∙ e

  answers : (why : Refusal) → Judges old.capacity (is_written pages) (plan_seen plan) pieces.items room (Refused why) → Answers old.capacity old.log caller (Step.Commit pieces room) (refused why)
  answers NoPlan j = absurd j
  answers (Lacking i) j = (plan_seen plan, found, lacks (Some i) j)
  answers Small j = (plan_seen plan, found, lacks None j.0, j.1)

  -- where the call is refused, it may find no memory
  pub memory : (why : Refusal) → Judges old.capacity (is_written pages) (plan_seen plan) pieces.items room (Refused why) → Answers old.capacity old.log caller (Step.Commit pieces room) OutOfMemory
  memory NoPlan j = absurd j
  memory (Lacking i) j = λ other e none.
      let same : plan_seen plan ≡ other = same_Some (plan_seen plan) other (sym found ∙ e) in
      absurd (cc (lacks (Some i) j, ap (λ (p : OpenPlan). lacking (needs_of old.capacity (run old.capacity old.log) p) pieces.items) same, none))
  memory Small j = λ other e none.
      let same : plan_seen plan ≡ other = same_Some (plan_seen plan) other (sym found ∙ e) in
      ap (λ p. is_small old.capacity p room) (sym same) ∙ j.1

  pub refuses_commit : (planned : Arc DeviceCall Global) (used : Vec KeptPiece Global) (why : Refusal) → arc_value planned ≡ arc_value plan.call → used.items ≡ []
      → Judges old.capacity (is_written pages) (plan_seen plan) pieces.items room (Refused why) → Refuses old caller (Step.Commit pieces room) (Commit (Some planned) used) why
  refuses_commit planned used NoPlan same empty j = absurd j
  refuses_commit planned used (Lacking i) same empty j = record {
    noted = (ap Some same ∙ sym (ap (option_map (λ (p : OpenPlan). p.call)) found), empty);
    answered = answers (Lacking i) j;
    memory = memory (Lacking i) j;
  }
  refuses_commit planned used Small same empty j = record {
    noted = (ap Some same ∙ sym (ap (option_map (λ (p : OpenPlan). p.call)) found), empty);
    answered = answers Small j;
    memory = memory Small j;
  }
