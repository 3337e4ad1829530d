use Rattle.std.proofs.Common.{◌≡◌, List, ℕ, refl, ap, sym, ◌∙◌, arith, subst, true, length, ◌*◌, ◌≤◌}
use Rattle.std.specs.Prelude.{not}
use Rattle.std.specs.Arc.{arc_value}
use Rattle.std.proofs.lemmas.Bool.{or_parts, ltb-false}
use Rattle.lr_overlay.specs.Pages.{is_written, over}
use Rattle.lr_device.specs.declared.commit.Verdict.TheVariants.{Made}
use Rattle.lr_device.specs.PlainDevice.{is_read, is_in_range, plain_reply, plain_after}
use Rattle.lr_device.specs.Base.{Agrees}
use Rattle.lr_device.specs.Demand.{demand, buffers, reply_size, AgreesFor}
use Rattle.lr_device.specs.Answers.{lacking, used_of}
use Rattle.lr_device.specs.Machine.{written_after}
use Rattle.lr_device.specs.Held.{seen, plan_seen, IsReady, HasPlace}
use Rattle.lr_device.specs.Judged.{Judges}
use Rattle.lr_device.proofs.Demands.{has_pieces, agrees_for, demand_ascends}
use Rattle.lr_device.proofs.Committing.{Performs, holds_commit, serves_commit}
use Rattle.lr_device.proofs.Keeping.{all_remove, ready_at, placed_at}
use Rattle.lr_device.proofs.commit.make.Goals as goal
use Rattle.lr_device.proofs.commit.make.Goals.{After-deref, After-drop-pages}

pub judged : (c : After-deref) → Judges c.args.held.now.size (is_written c.args.held.now.overlay.pages) (plan_seen c.remove-call.result) c.args.pieces.items c.args.room (Made c.args.needs)
judged c = c.requires.judged c.remove-call.result c.remove-call.ensures.value

pub demand_is : (c : After-deref) → demand (4096 * length c.args.held.now.overlay.pages) (is_written c.args.held.now.overlay.pages) c.deref.result.now ≡ demand c.args.held.now.size (is_written c.args.held.now.overlay.pages) (arc_value c.remove-call.result.call)
demand_is c = λ i. demand (c.requires.whole.state.fits i) (is_written c.args.held.now.overlay.pages) (c.deref.ensures i)

pub ready : (c : After-deref) → IsReady c.args.held.now.size (is_written c.args.held.now.overlay.pages) c.remove-call.result
ready c = ready_at _ _ _ _ c.args.caller c.args.at c.remove-call.result c.requires.whole.state c.requires.first c.remove-call.ensures.value

pub perform-reply-requires-clause-pieces : goal.perform-reply-requires-clause-pieces
perform-reply-requires-clause-pieces c =
    rw c.as_slice.ensures.value
    (has_pieces (4096 * length c.args.held.now.overlay.pages) (is_written c.args.held.now.overlay.pages) c.deref.result.now c.args.pieces.items (ap (λ l. lacking l c.args.pieces.items) (demand_is c) ∙ (judged c).1))

pub perform-reply-requires-clause-room : goal.perform-reply-requires-clause-room
perform-reply-requires-clause-room c =
    let same : buffers (4096 * length c.args.held.now.overlay.pages) (is_written c.args.held.now.overlay.pages) c.deref.result.now ≡ buffers c.args.held.now.size (is_written c.args.held.now.overlay.pages) (arc_value c.remove-call.result.call) =
    λ i. buffers (c.requires.whole.state.fits i) (is_written c.args.held.now.overlay.pages) (c.deref.ensures i) in
    let enough : c.remove-call.result.pages ≤ c.args.room.pages = ltb-false c.args.room.pages c.remove-call.result.pages (or_parts _ _ (judged c).2).0 in
    omega (arith, (ready c).enough)

pub perform-reply-requires-clause-placed : goal.perform-reply-requires-clause-placed
perform-reply-requires-clause-placed c =
    let p : HasPlace c.args.held.now.size c.args.held.now.overlay.leaves c.remove-call.result = placed_at c.args.held.now.size c.args.held.now.overlay.leaves c.args.held.now.plans.items c.args.caller c.args.at c.remove-call.result c.requires.first c.remove-call.ensures.value c.requires.whole.placed in
    λ inside change.
    rw c.deref.ensures (p.within (sym (λ i. is_in_range (c.requires.whole.state.fits i) (c.deref.ensures i)) ∙ inside) (ap is_read (sym c.deref.ensures) ∙ change))

pub take_used-used-requires-clause-distinct : goal.take_used-used-requires-clause-distinct
take_used-used-requires-clause-distinct c = λ i j h k same.
    let needs = (judged (goal.at.take_used-used-requires-clause-distinct c).After-deref).0 in
    let low = demand_ascends c.args.held.now.size (is_written c.args.held.now.overlay.pages) (arc_value c.remove-call.result.call) i j h (rw needs at k) in
    absurd (omega (arith, rw (← needs) at low, same))

pub took : (c : After-drop-pages) → c.take_used-used.result.items ≡ used_of (demand c.args.held.now.size (is_written c.args.held.now.overlay.pages) (arc_value c.remove-call.result.call)) c.args.pieces.items
took c = c.take_used-used.ensures ∙ ap (λ l. used_of l c.args.pieces.items) (c.requires.judged c.remove-call.result c.remove-call.ensures.value).0

pub agrees : (c : After-drop-pages) → (base : List ℕ) → Agrees base c.take_used-used.result.items → is_in_range (4096 * length c.args.held.now.overlay.pages) c.deref.result.now ≡ true → AgreesFor base c.as_slice.result.now (is_written c.args.held.now.overlay.pages) c.deref.result.now
agrees c base used inside =
    let needs : demand (4096 * length c.args.held.now.overlay.pages) (is_written c.args.held.now.overlay.pages) c.deref.result.now ≡ demand c.args.held.now.size (is_written c.args.held.now.overlay.pages) (arc_value c.remove-call.result.call) =
    λ i. demand (c.requires.whole.state.fits i) (is_written c.args.held.now.overlay.pages) (c.deref.ensures i) in
    rw c.as_slice.ensures.value
    (agrees_for base (4096 * length c.args.held.now.overlay.pages) (is_written c.args.held.now.overlay.pages) c.deref.result.now c.args.pieces.items
    (subst (λ l. Agrees base l) (took c ∙ ap (λ l. used_of l c.args.pieces.items) (sym needs)) used) inside)

pub performs : (c : After-drop-pages) → Performs c.args.held.now.size c.args.held.now.overlay.pages c.perform-reply.new.pages.pages (arc_value c.remove-call.result.call) c.take_used-used.result.items c.perform-reply.result
performs c = record {
  count = c.perform-reply.ensures.count;
  marks = λ page. c.perform-reply.ensures.marks page ∙ (λ i. written_after (c.requires.whole.state.fits i) (is_written c.args.held.now.overlay.pages) (c.deref.ensures i) page);
  replied = λ base long used. c.perform-reply.ensures.reply base (agrees c base used) (long ∙ sym c.requires.whole.state.fits) ∙ ap (λ call. plain_reply (over 4096 c.args.held.now.overlay.pages base) call) c.deref.ensures;
  ranged = c.perform-reply.ensures.range ∙ (λ i. not (is_in_range (c.requires.whole.state.fits i) (c.deref.ensures i)));
  sized = c.perform-reply.ensures.size ∙ (λ i. reply_size (c.requires.whole.state.fits i) (c.deref.ensures i));
  left = λ base long used. c.perform-reply.ensures.after base (agrees c base used) (long ∙ sym c.requires.whole.state.fits) ∙ ap (λ call. plain_after (over 4096 c.args.held.now.overlay.pages base) call) c.deref.ensures;
}

pub returns-clause-whole : goal.returns-clause-whole
returns-clause-whole c = record {
  state = rw (c.push_reserved.ensures.items, c.remove-call.ensures.items, c.copy_of-copy.ensures)
      (holds_commit _ _ _ _ _ c.args.caller c.args.at c.remove-call.result.call c.take_used-used.result c.perform-reply.result c.requires.whole.state c.requires.first (performs c));
  places = omega arith;
  placed = rw (c.remove-call.ensures.items, c.perform-reply.ensures.place) (all_remove (HasPlace c.args.held.now.size c.args.held.now.overlay.leaves) c.args.held.now.plans.items c.args.at c.requires.whole.placed);
}

pub returns-clause-served : goal.returns-clause-served
returns-clause-served c =
    let j = c.requires.judged c.remove-call.result c.remove-call.ensures.value in
    serves_commit (seen c.args.held.now) _ c.args.held.now.overlay.pages c.perform-reply.new.pages.pages c.args.held.now.plans.items c.args.caller c.args.at c.remove-call.result c.args.pieces c.args.room c.remove-call.result.call c.take_used-used.result c.perform-reply.result
    c.requires.whole.state c.requires.first c.remove-call.ensures.value refl j.1 j.2 (took c) (performs c) refl
    (rw (c.push_reserved.ensures.items, c.copy_of-copy.ensures) refl)
