use Rattle.std.proofs.Common.{◌≡◌, ◌+◌, List, [], ◌∷◌, ◌++◌, map, true, sym, ap, subst, ◌∙◌}
use Rattle.std.specs.Arc.{arc_value}
use Rattle.std.proofs.lemmas.List.{map-append}
use Rattle.lr_stripe.specs.declared.stripe.Stripe.{Stripe}
use Rattle.lr_walk.specs.Stripes.{is_good}
use Rattle.lr_loader.specs.Held.{AreHeld}
use Rattle.lr_loader.proofs.Rebuilding.{held_more}
use Rattle.lr_loader.proofs.stage.hold_one.Goals as goal

pub returns-clause-good : goal.returns-clause-good
returns-clause-good c =
    let e : map arc_value c.push_reserved.new.self.items ≡ map arc_value c.args.held.items ++ arc_value c.args.stripe ∷ [] =
    ap (λ l. map arc_value l) c.push_reserved.ensures.items ∙ map-append arc_value c.args.held.items (c.args.stripe ∷ []) in
    let good : is_good c.args.place.now.name c.args.index (arc_value c.args.stripe) ≡ true =
    ap (is_good c.args.place.now.name c.args.index) (sym c.deref.ensures) ∙ sym c.is_good.ensures ∙ c.if-not-is_good.false in
    subst (λ (l : List Stripe). AreHeld c.args.place.now.name (c.args.index + 1) l) (sym e)
    (held_more c.args.place.now.name c.args.index (map arc_value c.args.held.items) (arc_value c.args.stripe) c.requires.good good)
