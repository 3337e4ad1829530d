use Rattle.std.proofs.Common.{sym, ◌∙◌}
use Rattle.std.proofs.lemmas.Bool.{false≢true}
use Rattle.lr_rules.specs.State.{Session, IsRootOf}
use Rattle.lr_depot.proofs.Walked.{order_start, order_step, order_found, order_end}
use Rattle.lr_depot.proofs.collecting.first_user.Goals as goal

pub loop-number-init : goal.loop-number-init
loop-number-init c =
    order_start c.args.sessions.now (λ (j : Session). IsRootOf j.job c.args.root) _ (c.into_iter-number-iterator.ensures.into_iter_gives ∙ c.iter-number-items.ensures.list) c.iter-number-items.ensures.ordered

pub loop-number-preserved : goal.loop-number-preserved
loop-number-preserved c =
    order_step c.args.sessions.now (λ (j : Session). IsRootOf j.job c.args.root) _ _ c.in-Some.number.now c.in-Some.session.now c.in-Some.ensures.steps c.loop-number.invariant
    (λ h. false≢true (sym c.if-rests_on.false ∙ c.rests_on.ensures.1 h))

pub returns-then-rests_on : goal.returns-then-rests_on
returns-then-rests_on c =
    order_found c.args.sessions.now (λ (j : Session). IsRootOf j.job c.args.root) _ _ c.in-Some.number.now c.in-Some.session.now c.in-Some.ensures.steps c.loop-number.invariant (c.rests_on.ensures.0 c.if-rests_on.true)

pub returns : goal.returns
returns c = order_end c.args.sessions.now (λ (j : Session). IsRootOf j.job c.args.root) _ c.in-None.ensures.steps.0 c.loop-number.invariant
