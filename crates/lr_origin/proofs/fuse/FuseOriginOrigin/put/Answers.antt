use Rattle.std.proofs.Common.{rules, ◌≡◌, ap, ◌∙◌}
use Rattle.lr_origin.proofs.Failing.{failed_put}
use Rattle.lr_origin.proofs.fuse.FuseOriginOrigin.put.Goals as goal

pub returns-clause-change : goal.returns-clause-change
returns-clause-change g c = λ a e.
    let same : c.self-2.inside.inner ≡ c.args.self.now.inner = ap (λ f. f.inner) c.self-2.view_is ∙ c.count.ensures.rest.0 ∙ c.if-passes.ensures.rest.0 in
    failed_put c.args.key.now c.args.body.now c.put-2.result a _ (c.put-2.ensures.change a (ap g.O.Origin.objects same ∙ e))
