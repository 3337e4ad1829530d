use Rattle.std.proofs.Common.{sym, ◌∙◌, refl}
use Rattle.std.proofs.lemmas.Bool.{false≢true}
use Rattle.lr_depot.specs.Sessions.{IsCreation}
use Rattle.lr_depot.proofs.Begun.{creates, created}
use Rattle.lr_depot.proofs.Numbers.{left_start, left_step, left_first, left_end}
use Rattle.lr_depot.proofs.numbered.is_begun.Goals as goal

pub loop-session-init : goal.loop-session-init
loop-session-init c =
    left_start c.args.sessions.now (IsCreation c.args.image.now) _ (c.into_iter-session-iterator.ensures.into_iter_gives ∙ c.iter-session-items.ensures.list) c.iter-session-items.ensures.ordered

pub loop-session-preserved : goal.loop-session-preserved
loop-session-preserved c =
    left_step c.args.sessions.now (IsCreation c.args.image.now) _ _ c.in-Some.field-0-0.now c.in-Some.session.now c.in-Some.ensures.steps c.loop-session.invariant
    (λ h. false≢true (sym c.if-creates.false ∙ c.creates.ensures.1 h))

pub returns-then-creates : goal.returns-then-creates
returns-then-creates c = (
  λ _. creates c.args.sessions.now c.args.image.now c.in-Some.field-0-0.now c.in-Some.session.now
      (left_first c.args.sessions.now (IsCreation c.args.image.now) _ _ c.in-Some.field-0-0.now c.in-Some.session.now c.in-Some.ensures.steps c.loop-session.invariant)
      (c.creates.ensures.0 c.if-creates.true),
  λ _. refl,
)

pub returns : goal.returns
returns c = (
  λ t. cc,
  λ h. let s = created c.args.sessions.now c.args.image.now h in absurd (left_end c.args.sessions.now (IsCreation c.args.image.now) _ c.in-None.ensures.steps.0 c.loop-session.invariant s.0 s.1 s.2 s.3),
)
