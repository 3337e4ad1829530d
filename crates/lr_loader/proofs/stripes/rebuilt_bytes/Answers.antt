use Rattle.std.proofs.Common.{◌≡◌, ℕ, List, [], ◌∷◌, length, take, drop, ◌++◌, sym, ap, subst, ◌∙◌, arith}
use Rattle.lr_stripe.specs.declared.stripe.Stripe.{Stripe}
use Rattle.lr_walk.specs.Stripes.{IsRebuilt}
use Rattle.lr_loader.proofs.Rebuilding.{written}
use Rattle.lr_loader.proofs.stripes.rebuilt_bytes.Goals as goal

pub returns-clause-rebuilt : goal.returns-clause-rebuilt
returns-clause-rebuilt c =
    let held : List Stripe = c.args.first.now ∷ c.args.second.now ∷ c.args.third.now ∷ c.args.last.now ∷ [] in
    subst (λ (l : List ℕ). IsRebuilt held l)
    (sym (written c.rebuild_into.new.out c.in_ok-bytes.bytes.items c.in_ok-bytes.bytes.len (omega arith) (omega arith)))
    c.rebuild_into.ensures.rebuilt

pub returns-clause-only : goal.returns-clause-only
returns-clause-only c = λ chunk is.
    written c.rebuild_into.new.out c.in_ok-bytes.bytes.items c.in_ok-bytes.bytes.len (omega arith) (omega arith) ∙ c.rebuild_into.ensures.only chunk is
