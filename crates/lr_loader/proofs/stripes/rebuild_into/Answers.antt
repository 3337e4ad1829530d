use Rattle.std.proofs.Common.{◌≡◌, ◌*◌, ◌%◌, ℕ, List, [], ◌∷◌, length, refl, sym, ap, ◌∙◌, lit<, lit≤, arith}
use Rattle.lr_field.specs.Polynomial.{AreBytes}
use Rattle.lr_field.proofs.Public.{AreBytes_from}
use Rattle.lr_stripe.specs.declared.stripe.Stripe.{Stripe}
use Rattle.lr_loader.proofs.Rebuilding.{whole, index_at, rebuilt, only}
use Rattle.lr_loader.proofs.stripes.rebuild_into.Goals as goal

pub rebuild-requires : goal.rebuild-requires
rebuild-requires c =
    let held : List Stripe = c.args.first.now ∷ c.args.second.now ∷ c.args.third.now ∷ c.args.last.now ∷ [] in
    let long : length c.args.stripes.now ≡ 4 * 131072 = ap (λ (l : List ℕ). length l) c.requires.same ∙ whole held c.requires.whole refl in (
      lit< tt,
      (
        lit< tt,
        (
          lit< tt,
          (
            lit≤ tt,
            (
              index_at c.args.first.now c.args.second.now c.args.third.now c.args.last.now c.requires.whole,
              (c.requires.whole.apart, (ap (λ (n : ℕ). n % 4) long, long ∙ sym c.requires.room)),
            ),
          ),
        ),
      ),
    )

pub returns-clause-rebuilt : goal.returns-clause-rebuilt
returns-clause-rebuilt c =
    let held : List Stripe = c.args.first.now ∷ c.args.second.now ∷ c.args.third.now ∷ c.args.last.now ∷ [] in
    let small : AreBytes c.args.stripes.now = AreBytes_from c.args.stripes.now (λ k lt. omega (arith, c.type_inv.stripes k)) in
    rebuilt held c.args.stripes.now c.rebuild.new.out c.requires.same c.requires.whole refl small c.rebuild.ensures

pub returns-clause-only : goal.returns-clause-only
returns-clause-only c = λ chunk is.
    let held : List Stripe = c.args.first.now ∷ c.args.second.now ∷ c.args.third.now ∷ c.args.last.now ∷ [] in
    only held c.args.stripes.now c.rebuild.new.out c.requires.same c.requires.whole refl c.rebuild.ensures chunk is
