-- A commit that is made.
use Rattle.std.proofs.Common.{◌≡◌, ℕ, List, [], ◌∷◌, ◌++◌, length, map, get_or, false, Option, Some, None, refl, ap, sym, ◌∙◌, subst, arith, Global, Vec}
use Rattle.std.specs.Prelude.{remove, not, option_map, unwrap_or}
use Rattle.std.specs.Arc.{arc_value}
use Rattle.std.specs.declared.sync.Arc.{Arc}
use Rattle.std.proofs.lemmas.Bool.{or_left}
use Rattle.std.proofs.lemmas.List.Elements.{All-weaker}
use Rattle.lr_object.specs.Finds.{IsFirst}
use Rattle.lr_overlay.specs.Pages.{Pages, is_written, over}
use Rattle.lr_convergent.specs.declared.piece.KeptPiece.{KeptPiece}
use Rattle.lr_device.specs.declared.held.HeldPlan.{HeldPlan}
use Rattle.lr_device.specs.declared.call.DeviceCall.{DeviceCall}
use Rattle.lr_device.specs.declared.call.DeviceReply.{DeviceReply}
use Rattle.lr_device.specs.declared.step.DeviceNoted.TheVariants.{Commit}
use Rattle.lr_device.specs.declared.step.DeviceAnswer.TheVariants.{Committed}
use Rattle.lr_device.specs.PlainDevice.{is_in_range, is_range, reply_length, plain_reply, plain_after}
use Rattle.lr_device.specs.Base.{Agrees}
use Rattle.lr_device.specs.Demand.{demand, reply_size}
use Rattle.lr_convergent.specs.declared.piece.Piece.{Piece}
use Rattle.lr_device.specs.declared.step.DeviceStep.TheVariants as Step
use Rattle.lr_device.specs.Room.{RoomSeen}
use Rattle.lr_device.specs.Machine.{LogEntry, OpenPlan, run, is_of, plan_of, written_after, changes}
use Rattle.lr_device.specs.Answers.{used_of, lacking, is_small, needs_of}
use Rattle.lr_device.specs.Held.{Holds, IsReady, plan_seen, Seen, Serves}
use Rattle.lr_device.proofs.Demands.{buffers_shrink}
use Rattle.lr_device.proofs.Keeping.{holds_more, plans_left, all_remove, plan_found}
use Rattle.lr_device.proofs.Serving.{keeps_entry}

-- What a call did over pages: which pages are written then, the reply, and what is shown, on every base that agrees with
-- these pieces.
pub record Performs (size : ℕ) (pages new : Pages) (call : DeviceCall) (used : List KeptPiece) (reply : DeviceReply) : Type 0 where
  pub count : length new ≡ length pages
  pub marks : (page : ℕ) → is_written new page ≡ written_after size (is_written pages) call page
  pub replied : (base : List ℕ) → length base ≡ size → Agrees base used → reply ≡ plain_reply (over 4096 pages base) call
  pub ranged : is_range reply ≡ not (is_in_range size call)
  pub sized : reply_length reply ≡ reply_size size call
  pub left : (base : List ℕ) → length base ≡ size → Agrees base used → over 4096 new base ≡ plain_after (over 4096 pages base) call

still_ready : (size : ℕ) (pages new : Pages) (call : DeviceCall) → ((page : ℕ) → is_written new page ≡ written_after size (is_written pages) call page) → (plan : HeldPlan) → IsReady size (is_written pages) plan → IsReady size (is_written new) plan
still_ready size pages new call marks plan h = record {
  small = h.small;
  enough = omega (arith, h.enough, buffers_shrink size (is_written pages) (is_written new) (arc_value plan.call) (λ page was. marks page ∙ or_left (is_written pages page) (changes size call page) was));
  empty = h.empty;
  room = h.room;
}

pub holds_commit : (size : ℕ) (pages new : Pages) (held : List HeldPlan) (log : List LogEntry) (caller at : ℕ) (planned : Arc DeviceCall Global) (used : Vec KeptPiece Global) (reply : DeviceReply)
    → Holds size pages held log → IsFirst (is_of caller) (map plan_seen held) at → Performs size pages new (arc_value planned) used.items reply
    → Holds size new (remove held at) (log ++ record { caller = caller; call = Commit (Some planned) used; reply = Committed reply } ∷ [])
holds_commit size pages new held log caller at planned used reply h first done =
    holds_more size pages new held (remove held at) log (record { caller = caller; call = Commit (Some planned) used; reply = Committed reply }) h
    done.count
    ((λ i page. done.marks page i) ∙ (λ i. written_after size (h.written i) (arc_value planned)))
    (plans_left size pages held log caller at h first)
    (All-weaker (IsReady size (is_written pages)) (IsReady size (is_written new)) (still_ready size pages new (arc_value planned) done.marks) (remove held at) (all_remove (IsReady size (is_written pages)) held at h.ready))
    (λ base long agrees now shown. (
      (done.replied base long now ∙ ap (λ l. plain_reply l (arc_value planned)) shown, tt),
      done.left base long now ∙ ap (λ l. plain_after l (arc_value planned)) shown,
    ))

-- a commit that is made, as it is kept
pub serves_commit : (old new : Seen) (pages after : Pages) (held : List HeldPlan) (caller at : ℕ) (plan : HeldPlan) (pieces : Vec Piece Global) (room : RoomSeen) (planned : Arc DeviceCall Global) (used : Vec KeptPiece Global) (reply : DeviceReply)
    → Holds old.capacity pages held old.log → IsFirst (is_of caller) (map plan_seen held) at → plan ≡ get_or held at plan → arc_value planned ≡ arc_value plan.call
    → lacking (demand old.capacity (is_written pages) (arc_value plan.call)) pieces.items ≡ None
    → is_small old.capacity (plan_seen plan) room ≡ false
    → used.items ≡ used_of (demand old.capacity (is_written pages) (arc_value plan.call)) pieces.items
    → Performs old.capacity pages after (arc_value plan.call) used.items reply
    → new.capacity ≡ old.capacity → new.log ≡ old.log ++ record { caller = caller; call = Commit (Some planned) used; reply = Committed reply } ∷ []
    → Serves old new caller (Step.Commit pieces room) (Committed reply)
serves_commit old new pages after held caller at plan pieces room planned used reply h first read same none enough took done fixed grown =
    let found : plan_of caller (run old.capacity old.log) ≡ Some (plan_seen plan) = plan_found old.capacity pages held old.log caller at plan h first read in
    let needs : demand old.capacity (is_written pages) (arc_value plan.call) ≡ demand old.capacity (run old.capacity old.log).written (arc_value plan.call) = λ i. demand old.capacity (h.written i) (arc_value plan.call) in
    record {
      answered = (
        plan_seen plan,
        found,
        record {
          whole = ap (λ l. lacking l pieces.items) (sym needs) ∙ none;
          enough = enough;
          ranged = done.ranged;
          sized = done.sized;
          plain = λ base long agrees now.
              done.replied base long (subst (λ l. Agrees base l) (sym (took ∙ ap (λ l. used_of l pieces.items) needs)) now) ∙ ap (λ l. plain_reply l (arc_value plan.call)) (h.shows base long agrees);
        },
      );
      kept = keeps_entry old new caller (Step.Commit pieces room) (Committed reply) (record { caller = caller; call = Commit (Some planned) used; reply = Committed reply }) refl fixed grown refl (
        ap Some same ∙ sym (ap (option_map (λ (p : OpenPlan). p.call)) found),
        took ∙ ap (λ l. used_of l pieces.items) (needs ∙ sym (ap (λ (o : Option OpenPlan). unwrap_or (option_map (needs_of old.capacity (run old.capacity old.log)) o) []) found)),
      )
          refl;
    }
