use Rattle.std.proofs.Common.{sym, subst, ◌∙◌, List, ℕ}
use Rattle.std.proofs.lemmas.Bool.{false≢true}
use Rattle.lr_roots.specs.Names.{IsOneOf}
use Rattle.lr_depot.proofs.Added.{adds_one}
use Rattle.lr_depot.proofs.images.add_image.Goals as goal

pub returns : goal.returns
returns c =
    adds_one c.args.catalog.now.view c.args.image.now c.args.others.now.items c.push.new.self.items c.in_ok-push.ensures.items
    (λ named. false≢true (sym c.if-is_named.false ∙ c.is_named.ensures.1 named))
    (λ one. false≢true (sym c.if-is_among.false ∙ c.is_among.ensures.1 (subst (λ (l : List (List ℕ)). IsOneOf l c.args.image.now) (sym c.deref.ensures.value) one)))
