use Rattle.std.proofs.Common.{◌≡◌, ℕ, Some, ◌∙◌}
use Rattle.std.specs.FinMap as map
use Rattle.lr_rules.specs.State.{Session}
use Rattle.lr_depot.specs.Sessions.{IsCreation}
use Rattle.lr_depot.proofs.Added.{added_start, added_step, added_end, adds_like}
use Rattle.lr_depot.proofs.Begun.{creation_of, of_creation}
use Rattle.lr_depot.proofs.Numbers.{listed, has_listed}
use Rattle.lr_depot.proofs.images.add_begun.Goals as goal

pub loop-session-init : goal.loop-session-init
loop-session-init c =
    let m = c.args.sessions.now in
    let e = c.into_iter-session-iterator.ensures.into_iter_gives ∙ c.iter-session-items.ensures.list in
    added_start c.args.catalog.now.view (λ (e : ℕ × Session). map.get m e.0 ≡ Some e.1) (λ i e. IsCreation i e.1) c.args.others.now.items _
    (listed m _ e) (has_listed m _ e c.iter-session-items.ensures.ordered)

pub loop-session-preserved : goal.loop-session-preserved
loop-session-preserved c =
    let m = c.args.sessions.now in
    added_step c.args.catalog.now.view (λ (e : ℕ × Session). map.get m e.0 ≡ Some e.1) (λ i e. IsCreation i e.1) c.args.others.now.items c.loop-session.others.items c.add_created.new.others.items _ _
    (c.in-Some.field-0-0.now, c.in-Some.session.now) c.in-Some.ensures.steps c.in_ok-add_created.ensures c.loop-session.invariant

pub returns : goal.returns
returns c =
    let m = c.args.sessions.now in
    adds_like c.args.catalog.now.view _ _ _ _ (creation_of m) (of_creation m)
    (added_end c.args.catalog.now.view (λ (e : ℕ × Session). map.get m e.0 ≡ Some e.1) (λ i e. IsCreation i e.1) c.args.others.now.items c.loop-session.others.items _ c.in-None.ensures.steps.0 c.loop-session.invariant)
