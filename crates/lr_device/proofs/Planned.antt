-- A call that is planned and made.
use Rattle.std.proofs.Common.{◌≡◌, ℕ, List, [], ◌∷◌, ◌++◌, Some, None, refl, ap, sym, ◌∙◌, Vec, Global, subst}
use Rattle.std.specs.Prelude.{option_map}
use Rattle.std.specs.Arc.{arc_value}
use Rattle.std.specs.declared.sync.Arc.{Arc}
use Rattle.lr_convergent.specs.declared.piece.Piece.{Piece}
use Rattle.lr_convergent.specs.declared.piece.KeptPiece.{KeptPiece}
use Rattle.lr_device.specs.declared.call.DeviceCall.{DeviceCall}
use Rattle.lr_device.specs.declared.call.DeviceReply.{DeviceReply}
use Rattle.lr_device.specs.declared.step.DeviceStep.TheVariants as Step
use Rattle.lr_device.specs.declared.step.DeviceNoted.{DeviceNoted}
use Rattle.lr_device.specs.declared.step.DeviceNoted.TheVariants as Noted
use Rattle.lr_device.specs.declared.step.DeviceAnswer.{DeviceAnswer}
use Rattle.lr_device.specs.declared.step.DeviceAnswer.TheVariants.{Planned, Committed}
use Rattle.lr_device.specs.PlainDevice.{Answered}
use Rattle.lr_device.specs.Base.{Agrees}
use Rattle.lr_device.specs.Room.{RoomSeen}
use Rattle.lr_device.specs.Machine.{LogEntry, OpenPlan, State, run, state_after, plan_of, answered, history, used_by, AgreesWith}
use Rattle.lr_device.specs.Answers.{Answers, used_of}
use Rattle.lr_device.specs.Enters.{Notes, Enters, needs_now}
use Rattle.lr_device.proofs.Histories.{run_push, history_push}
use Rattle.lr_device.proofs.Plans.{begun, is_none}
use Rattle.lr_device.proofs.Agreeing.{agrees_used}

-- what is kept of a plan
kept_plan : (size : ℕ) (st : State) (caller : ℕ) (call : Arc DeviceCall Global) (answer : DeviceAnswer) (noted : DeviceNoted) → Notes size st caller (Step.Plan call) answer noted → noted ≡ Noted.Plan call
kept_plan size st caller call answer (Noted.Plan kept) n = ap Noted.Plan n
kept_plan size st caller call answer (Noted.Commit planned used) n = absurd n
kept_plan size st caller call answer Noted.Drop n = absurd n
kept_plan size st caller call answer Noted.Reap n = absurd n

-- what is kept of a commit of a plan
record KeptCommit (noted : DeviceNoted) (call : DeviceCall) (pieces : List KeptPiece) : Type 0 where
  planned : Arc DeviceCall Global
  used : Vec KeptPiece Global
  needs : List ℕ
  is : noted ≡ Noted.Commit (Some planned) used
  same : arc_value planned ≡ call
  taken : used.items ≡ used_of needs pieces

kept_commit : (size : ℕ) (st : State) (caller : ℕ) (plan : OpenPlan) (pieces : Vec Piece Global) (room : RoomSeen) (reply : DeviceReply) (noted : DeviceNoted) → plan_of caller st ≡ Some plan
    → Notes size st caller (Step.Commit pieces room) (Committed reply) noted → KeptCommit noted plan.call pieces.items
kept_commit size st caller plan pieces room reply (Noted.Plan kept) found n = absurd n
kept_commit size st caller plan pieces room reply (Noted.Commit None used) found n = absurd (cc (n.0 ∙ ap (option_map (λ (p : OpenPlan). p.call)) found))
kept_commit size st caller plan pieces room reply (Noted.Commit (Some planned) used) found n = record {
  planned = planned;
  used = used;
  needs = needs_now size st caller;
  is = refl;
  same = cc (n.0 ∙ ap (option_map (λ (p : OpenPlan). p.call)) found);
  taken = n.1;
}
kept_commit size st caller plan pieces room reply Noted.Drop found n = absurd n
kept_commit size st caller plan pieces room reply Noted.Reap found n = absurd n

pub AgreesWith_more : (base : List ℕ) (log : List LogEntry) (e : LogEntry) → AgreesWith base log → Agrees base (used_by e.call) → AgreesWith base (log ++ e ∷ [])
AgreesWith_more base [] e h k = (k, tt)
AgreesWith_more base (f ∷ log) e h k = (h.0, AgreesWith_more base log e h.1 k)

-- A call that one caller plans and then makes is the history's next; where the pieces agree with a base, all used ones do.
pub record IsMade (before after : List LogEntry) (caller : ℕ) (call : DeviceCall) (pieces : List KeptPiece) (reply : DeviceReply) : Type 0 where
  pub made : history after ≡ history before ++ record { caller = caller; call = call; reply = reply } ∷ []
  pub agrees : (base : List ℕ) → Agrees base pieces → AgreesWith base before → AgreesWith base after

pub is_made : (size : ℕ) (log : List LogEntry) (caller : ℕ) (call : Arc DeviceCall Global) (needs : List ℕ) (pages : ℕ) (pieces : Vec Piece Global) (room : RoomSeen) (reply : DeviceReply) (e f : LogEntry)
    → Answers size log caller (Step.Plan call) (Planned needs pages) → e.caller ≡ caller → Enters size log caller (Step.Plan call) (Planned needs pages) e
    → f.caller ≡ caller → Enters size (log ++ e ∷ []) caller (Step.Commit pieces room) (Committed reply) f
    → IsMade log ((log ++ e ∷ []) ++ f ∷ []) caller (arc_value call) pieces.items reply
is_made size log caller call needs pages pieces room reply e f a by n then m =
    let plan : OpenPlan = record { caller = caller; call = arc_value call; pages = pages } in
    let kept : e.call ≡ Noted.Plan call = kept_plan size (run size log) caller call (Planned needs pages) e.call n.noted in
    let now : run size (log ++ e ∷ []) ≡ state_after size (run size log) caller (Noted.Plan call) (Planned needs pages) =
    run_push size log e ∙ (λ i. state_after size (run size log) (by i) (kept i) (n.told i)) in
    let found : plan_of caller (run size (log ++ e ∷ [])) ≡ Some plan = ap (plan_of caller) now ∙ begun (run size log).plans plan (is_none (plan_of caller (run size log)) a.0) in
    let commit = kept_commit size (run size (log ++ e ∷ [])) caller plan pieces room reply f.call found m.noted in
    let first : history (log ++ e ∷ []) ≡ history log = history_push log e ∙ (λ i. history log ++ answered e.caller (kept i) e.reply) ∙ nil (history log) in
    let second : answered f.caller f.call f.reply ≡ record { caller = caller; call = arc_value call; reply = reply } ∷ [] =
    (λ i. answered (then i) (commit.is i) (m.told i)) ∙ ap (λ (c : DeviceCall). record { caller = caller; call = c; reply = reply } ∷ []) commit.same in
    record {
      made = history_push (log ++ e ∷ []) f ∙ (λ i. first i ++ second i);
      agrees = λ base each before.
          AgreesWith_more base (log ++ e ∷ []) f
          (AgreesWith_more base log e before (subst (λ (k : DeviceNoted). Agrees base (used_by k)) (sym kept) tt))
          (subst (λ (k : DeviceNoted). Agrees base (used_by k)) (sym commit.is) (subst (λ (l : List KeptPiece). Agrees base l) (sym commit.taken) (agrees_used base commit.needs pieces.items each)));
    }
  where
    nil : (l : List Answered) → l ++ [] ≡ l
    nil [] = refl
    nil (x ∷ l) = ap (λ (m : List Answered). x ∷ m) (nil l)
