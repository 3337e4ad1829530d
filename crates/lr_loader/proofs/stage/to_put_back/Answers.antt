use Rattle.std.proofs.Common.{ℕ, List, inl, map, subst}
use Rattle.std.specs.Arc.{arc_value}
use Rattle.lr_stripe.specs.declared.stripe.Stripe.{Stripe}
use Rattle.lr_walk.specs.Stripes.{AreStripesOf}
use Rattle.lr_loader.proofs.stage.to_put_back.Goals as goal

pub returns-clause-next : goal.returns-clause-next
returns-clause-next c =
    inl (
      arc_value c.in-Some.stripe,
      map arc_value c.take_first.new.stripes.items,
      subst (λ (l : List Stripe). AreStripesOf (arc_value c.args.chunk) l) c.in-Some.ensures.first
          (subst (λ (x : List ℕ). AreStripesOf x (map arc_value c.in-Ok-make_stripes.stripes.items)) c.deref.ensures c.in-Ok-make_stripes.ensures),
      c.to_put.ensures.need,
    )
