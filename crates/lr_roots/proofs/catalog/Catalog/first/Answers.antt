use Rattle.std.proofs.Common.{ap, sym, subst, ◌∙◌}
use Rattle.std.proofs.lemmas.Bool.{false≢true}
use Rattle.std.specs.List.Sorted.{IsStrictlySortedBy}
use Rattle.lr_origin.specs.Kind.{kind_cmp}
use Rattle.lr_roots.specs.Catalog.{Seen}
use Rattle.lr_roots.specs.Walks.{IsWanted}
use Rattle.lr_roots.proofs.Ordered.{listed, left_step, left_found, left_none}
use Rattle.lr_roots.proofs.catalog.Catalog.first.Goals as goal

pub loop-key-init : goal.loop-key-init
loop-key-init c =
    (λ q p. listed c.self.inside.aside c.self.inside.keys c.args.self.now.view _ (ap (λ (s : Seen). s.view) c.self.view_is) (c.into_iter-key-iterator.ensures.into_iter_gives ∙ c.iter-key-items.ensures.list) q p.0, subst (IsStrictlySortedBy kind_cmp) (sym c.into_iter-key-iterator.ensures.into_iter_gives) c.iter-key-items.ensures.ordered)

pub returns-then-is_wanted : goal.returns-then-is_wanted
returns-then-is_wanted c =
    left_found (IsWanted c.args.self.now.view c.args.wanted.now) _ _ c.in-Some.key.now c.in-Some.ensures.steps c.loop-key.invariant (c.is_wanted.ensures.0 c.if-is_wanted.true)

pub loop-key-preserved : goal.loop-key-preserved
loop-key-preserved c =
    left_step (IsWanted c.args.self.now.view c.args.wanted.now) _ _ c.in-Some.key.now c.in-Some.ensures.steps c.loop-key.invariant (λ p. false≢true (sym c.if-is_wanted.false ∙ c.is_wanted.ensures.1 p))

pub returns : goal.returns
returns c = left_none (IsWanted c.args.self.now.view c.args.wanted.now) _ c.in-None.ensures.steps.0 c.loop-key.invariant
