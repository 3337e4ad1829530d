use Rattle.std.proofs.Common.{List, [], ◌∷◌, inl, map, subst}
use Rattle.std.specs.Arc.{arc_value}
use Rattle.std.specs.List.{AllZip}
use Rattle.lr_stripe.specs.declared.stripe.Stripe.{Stripe}
use Rattle.lr_walk.specs.Damage.{IsForged}
use Rattle.lr_actors.proofs.forge.to_begin.Goals as goal

pub returns-clause-begins : goal.returns-clause-begins
returns-clause-begins c =
    inl (
      arc_value c.in-Some.stripe,
      map arc_value c.take_first.new.stripes.items,
      subst (λ (l : List Stripe). AllZip (IsForged c.args.name.now) (0 ∷ 1 ∷ 2 ∷ 3 ∷ 4 ∷ []) l) c.in-Some.ensures.first c.in-Ok.ensures,
      c.to_put.ensures.need,
    )
