use Rattle.std.proofs.Common.{◌≡◌, ap, sym, ◌∙◌}
use Rattle.lr_rules.specs.State.{Session}
use Rattle.lr_depot.proofs.Numbers.{left_start, left_step, left_first, left_end}
use Rattle.lr_depot.proofs.numbered.session_of.Goals as goal

pub loop-number-init : goal.loop-number-init
loop-number-init c =
    left_start c.args.sessions.now (λ (s : Session). s.caller ≡ c.args.caller) _ (c.into_iter-number-iterator.ensures.into_iter_gives ∙ c.iter-number-items.ensures.list) c.iter-number-items.ensures.ordered

pub loop-number-preserved : goal.loop-number-preserved
loop-number-preserved c =
    left_step c.args.sessions.now (λ (s : Session). s.caller ≡ c.args.caller) _ _ c.in-Some.number.now c.in-Some.session.now c.in-Some.ensures.steps c.loop-number.invariant
    (λ same. c.if-session-caller.false (ap (λ (s : Session). s.caller) c.session.view_is ∙ same))

pub returns-then-session-caller : goal.returns-then-session-caller
returns-then-session-caller c = (
  c.in-Some.session.now,
  left_first c.args.sessions.now (λ (s : Session). s.caller ≡ c.args.caller) _ _ c.in-Some.number.now c.in-Some.session.now c.in-Some.ensures.steps c.loop-number.invariant,
  sym (ap (λ (s : Session). s.caller) c.session.view_is) ∙ c.if-session-caller.true,
)

pub returns : goal.returns
returns c = left_end c.args.sessions.now (λ (s : Session). s.caller ≡ c.args.caller) _ c.in-None.ensures.steps.0 c.loop-number.invariant
