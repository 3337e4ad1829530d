use Rattle.std.proofs.Common.{◌≡◌, List, ℕ, None, refl, ap, sym, ◌∙◌, arith, subst, length, ◌*◌}
use Rattle.std.specs.Arc.{arc_value}
use Rattle.std.proofs.lemmas.List.Elements.{All-push}
use Rattle.std.proofs.lemmas.Grind.{common_steps}
use Rattle.lr_overlay.specs.Pages.{Pages, HasPlaces, is_written}
use Rattle.lr_device.specs.declared.call.DeviceCall.{DeviceCall}
use Rattle.lr_device.specs.declared.step.DeviceStep.TheVariants.{Plan}
use Rattle.lr_device.specs.declared.step.DeviceNoted.TheVariants as Noted
use Rattle.lr_device.specs.declared.step.DeviceAnswer.TheVariants.{Planned}
use Rattle.lr_device.specs.PlainDevice.{is_in_range, is_read}
use Rattle.lr_device.specs.Machine.{run, plan_of}
use Rattle.lr_device.specs.Demand.{demand, buffers, first_page, page_count}
use Rattle.lr_device.specs.Held.{HasPlace, seen}
use Rattle.lr_device.proofs.Keeping.{holds_plan, no_plan, places_stay, on_success}
use Rattle.lr_device.proofs.Serving.{keeps_entry}
use Rattle.lr_device.proofs.device.plan.Goals as goal

pub returns-clause-whole : goal.returns-clause-whole
returns-clause-whole c =
    let same : arc_value c.in-Ok.kept ≡ arc_value c.args.call = cc (c.in-Ok.ensures) in
    let state = c.requires.whole.state in
    let kept : c.reserve_for.new.overlay.pages ≡ c.args.held.now.overlay.pages = c.reserve_for.ensures.kept in
    record {
      state = rw (c.push_reserved-2.ensures.items, c.reserve-else-is_err.ensures.items, c.push_reserved.ensures.items, c.reserve.ensures.items, c.reserve_for.ensures.kept)
          (holds_plan _ _ _ _ c.args.caller c.buffers_of-pages.result c.args.call c.copy.result _ state (λ i. record { caller = c.args.caller; call = same i; pages = c.buffers_of-pages.result })
          (record {
            small = rw same c.requires.small;
            enough =
                let told : c.buffers_of-pages.result ≡ buffers c.args.held.now.size (is_written c.args.held.now.overlay.pages) (arc_value c.in-Ok.kept) =
                c.buffers_of-pages.ensures ∙ (λ i. buffers ((ap (λ (l : Pages). 4096 * length l) kept ∙ state.fits) i) (is_written (kept i)) ((c.deref-3.ensures ∙ sym same) i)) in
                omega arith;
            empty = c.in-Ok-with_capacity.ensures.items;
            room = omega (arith, c.in-Ok-with_capacity.ensures.exact);
          }));
      places = grind (arith, common_steps);
      placed = rw (c.push_reserved.ensures.items, c.reserve.ensures.items)
          (All-push (HasPlace c.args.held.now.size c.reserve_for.new.overlay.leaves) c.args.held.now.plans.items _ (places_stay c.args.held.now.size c.args.held.now.overlay.leaves c.reserve_for.new.overlay.leaves c.args.held.now.plans.items c.reserve_for.ensures.grows c.requires.whole.placed)
          (record {
            within = λ inside change.
                let both : c.deref.result.now ≡ arc_value c.in-Ok.kept = c.deref.ensures ∙ sym same in
                let placed = on_success c.reserve_for.result (sym c.is_err-2.ensures.value ∙ c.if-is_err-3.false) c.reserve_for.ensures.ok
                ((λ i. is_in_range (state.fits i) (both i)) ∙ inside) (ap is_read both ∙ change) in
                subst (λ (call : DeviceCall). HasPlaces c.reserve_for.new.overlay.leaves (first_page call) (page_count call)) both placed;
          }));
    }

pub returns-clause-served : goal.returns-clause-served
returns-clause-served c =
    let state = c.requires.whole.state in
    let kept : c.reserve_for.new.overlay.pages ≡ c.args.held.now.overlay.pages = c.reserve_for.ensures.kept in
    let at : c.deref-2.result.now ≡ arc_value c.args.call = c.deref-2.ensures in
    let at2 : c.deref-3.result.now ≡ arc_value c.args.call = c.deref-3.ensures in
    let needs : c.demand_of-needs.result ≡ demand c.args.held.now.size (run c.args.held.now.size c.args.held.now.log.items).written (arc_value c.args.call) =
    c.demand_of-needs.ensures ∙ (λ i. demand ((ap (λ (l : Pages). 4096 * length l) kept ∙ state.fits) i) ((ap is_written kept ∙ state.written) i) (at i)) in
    let pages : c.buffers_of-pages.result ≡ buffers c.args.held.now.size (run c.args.held.now.size c.args.held.now.log.items).written (arc_value c.args.call) =
    c.buffers_of-pages.ensures ∙ (λ i. buffers ((ap (λ (l : Pages). 4096 * length l) kept ∙ state.fits) i) ((ap is_written kept ∙ state.written) i) (at2 i)) in
    let none : plan_of c.args.caller (run c.args.held.now.size c.args.held.now.log.items) ≡ None = no_plan _ _ _ _ c.args.caller c.plan_at.result state (rw c.as_slice.ensures.value at c.plan_at.ensures) (sym c.is_some.ensures ∙ c.if-is_some.false) in
    record {
      answered = (rw none refl, needs, pages);
      kept = keeps_entry (seen c.args.held.now) _ c.args.caller (Plan c.args.call) (Planned c.demand_of-needs.result c.buffers_of-pages.result)
          (record { caller = c.args.caller; call = Noted.Plan c.args.call; reply = Planned c.copy.result c.buffers_of-pages.result }) refl refl
          (rw (c.push_reserved-2.ensures.items, c.reserve-else-is_err.ensures.items) refl) refl refl (ap (λ (l : List ℕ). Planned l c.buffers_of-pages.result) c.copy.ensures);
    }

pub returns-then-is_err-3-clause-whole : goal.returns-then-is_err-3-clause-whole
returns-then-is_err-3-clause-whole c = record {
  state = rw (c.reserve-else-is_err.ensures.items, c.reserve.ensures.items, c.reserve_for.ensures.kept) c.requires.whole.state;
  places = grind (arith, common_steps);
  placed = rw c.reserve.ensures.items (places_stay c.args.held.now.size c.args.held.now.overlay.leaves c.reserve_for.new.overlay.leaves c.args.held.now.plans.items c.reserve_for.ensures.grows c.requires.whole.placed);
}
