use Rattle.lr_depot.specs.Doubts.{without_keys}
use Rattle.std.proofs.Common.{refl, ap, ◌∙◌}
use Rattle.std.specs.FinMap as map
use Rattle.lr_rules.proofs.Parts.{safe_parts}
use Rattle.lr_depot.proofs.Did.{whole_safe}
use Rattle.lr_depot.proofs.Closing.{stored_end}
use Rattle.lr_depot.proofs.Followed.{closing_sound}
use Rattle.lr_depot.proofs.depot.Depot.end.Goals as goal

pub returns : goal.returns
returns g c = rw (← c.self.view_is) (record {
  ended = record {
    store = refl;
    log = refl;
    doubts = ap map.keys (c.keep_puts.ensures ∙ (λ i. without_keys (c.self.invariant.held.view i) (c.self.invariant.held.doubts i)));
    view = c.self.invariant.held.view;
    aside = c.self.invariant.held.aside;
    start = c.self.invariant.begun;
    legal = c.self.invariant.legal;
    leads = c.self.invariant.leads;
    counted = c.self.invariant.counted;
    kept = safe_parts _ (whole_safe g.O.Origin.objects g.O.Origin.faults _ c.self.inside.body c.self.invariant);
    stored = stored_end g.O.Origin.objects g.O.Origin.faults _ c.self.inside.body c.self.invariant;
    sound = λ m told chunks.
        let l = c.self.invariant.leads m told in
        (l.0, l.1, closing_sound _ _ m c.self.inside.body.log.items l.0 c.self.invariant.begun.may (c.self.invariant.begun.mirrors m told) chunks l.2);
  };
})
