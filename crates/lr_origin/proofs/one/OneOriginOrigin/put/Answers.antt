use Rattle.std.proofs.Common.{◌≡◌, ap, ◌∙◌}
use Rattle.lr_origin.proofs.Failing.{failed_put}
use Rattle.lr_origin.proofs.one.OneOriginOrigin.put.Goals as goal

pub returns-then-self-clause-change : goal.returns-then-self-clause-change
returns-then-self-clause-change g c = λ a e.
    let same : c.self.inside.inner ≡ c.args.self.now.inner = ap (λ f. f.inner) c.self.view_is ∙ c.fails.ensures.inner in
    failed_put c.args.key.now c.args.body.now c.put.result a _ (c.put.ensures.change a (ap g.O.Origin.objects same ∙ e))
