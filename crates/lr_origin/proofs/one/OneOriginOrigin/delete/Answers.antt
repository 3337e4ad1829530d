use Rattle.std.proofs.Common.{rules, ◌≡◌, ap, ◌∙◌, refl, true, subst, OnErr}
use Rattle.lr_spec.specs.Rose.{Rose}
use Rattle.lr_origin.proofs.Failing.{failed_delete, match_true}
use Rattle.lr_origin.proofs.one.OneOriginOrigin.delete.Goals as goal

pub returns-then-self-clause-change : goal.returns-then-self-clause-change
returns-then-self-clause-change g c = λ a e.
    let same : c.self.inside.inner ≡ c.args.self.now.inner = ap (λ f. f.inner) c.self.view_is ∙ c.fails.ensures.inner in
    failed_delete c.args.key.now c.delete.result a _ (c.delete.ensures.change a (ap g.O.Origin.objects same ∙ e))

pub returns-then-self-clause-fails : goal.returns-then-self-clause-fails
returns-then-self-clause-fails g c = λ next.
    let same : c.self.inside.inner ≡ c.args.self.now.inner = ap (λ f. f.inner) c.self.view_is ∙ c.fails.ensures.inner in
    let own : c.self.inside.own ≡ 1 = search rules in
    let kept : c.self.inside.done ≡ c.args.self.now.done = search rules in
    let done : c.args.self.now.done ≡ true = search rules in
    (refl, ((own, kept), match_true _ _ _ done (c.delete.result, λ m e. c.delete.ensures.change m (ap g.O.Origin.objects same ∙ e), subst (λ o. OnErr c.delete.result (Rose (g.O.Origin.faults o) (g.O.Origin.faults c.delete.new.self))) same c.delete.ensures.cause)))
