use Rattle.std.proofs.Common.{rules, ◌≡◌, ap, ◌∙◌, refl, true, false, sym, subst, OnErr}
use Rattle.lr_spec.specs.Rose.{Rose}
use Rattle.lr_origin.proofs.Failing.{failed_delete, match_true}
use Rattle.lr_origin.proofs.fuse.FuseOriginOrigin.delete.Goals as goal

pub returns-clause-change : goal.returns-clause-change
returns-clause-change g c = λ a e.
    let same : c.self-2.inside.inner ≡ c.args.self.now.inner = ap (λ f. f.inner) c.self-2.view_is ∙ c.count.ensures.rest.0 ∙ c.if-passes.ensures.rest.0 in
    failed_delete c.args.key.now c.delete-2.result a _ (c.delete-2.ensures.change a (ap g.O.Origin.objects same ∙ e))

pub returns-clause-fails : goal.returns-clause-fails
returns-clause-fails g c = λ none.
    let same : c.self-2.inside.inner ≡ c.args.self.now.inner = ap (λ f. f.inner) c.self-2.view_is ∙ c.count.ensures.rest.0 ∙ c.if-passes.ensures.rest.0 in
    let calls : c.self-2.inside.calls ≡ 0 = ap (λ f. f.calls) c.self-2.view_is ∙ c.count.ensures.rest.2 ∙ c.if-passes.ensures.calls.1 in
    let done : c.args.self.now.done ≡ true = search rules in
    (refl, (calls, refl, match_true _ _ _ done (c.delete-2.result, λ m e. c.delete-2.ensures.change m (ap g.O.Origin.objects same ∙ e), subst (λ o. OnErr c.delete-2.result (Rose (g.O.Origin.faults o) (g.O.Origin.faults c.delete-2.new.self))) same c.delete-2.ensures.cause)))
