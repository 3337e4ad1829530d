use Rattle.std.proofs.Common.{◌^◌, ap, sym, subst, ◌∙◌}
use Rattle.std.proofs.lemmas.Bool.{false≢true}
use Rattle.std.proofs.lemmas.Map.Keys.{sorted_tail}
use Rattle.std.specs.List.Sorted.{IsStrictlySortedBy}
use Rattle.lr_origin.specs.Kind.{kind_cmp}
use Rattle.lr_roots.specs.Catalog.{Seen}
use Rattle.lr_roots.specs.Walks.{IsWanted}
use Rattle.lr_roots.proofs.Ordered.{listed, count_start, count_in, count_out, count_end, from_none, shorter, shorter_too}
use Rattle.lr_roots.proofs.catalog.Catalog.count.Goals as goal

pub loop-key-init : goal.loop-key-init
loop-key-init c = (
  subst (IsStrictlySortedBy kind_cmp) (sym c.into_iter-key-iterator.ensures.into_iter_gives) c.iter-key-items.ensures.ordered,
  count_start (IsWanted c.args.self.now.view c.args.wanted.now) _ (λ q p. listed c.self.inside.aside c.self.inside.keys c.args.self.now.view _ (ap (λ (s : Seen). s.view) c.self.view_is) (c.into_iter-key-iterator.ensures.into_iter_gives ∙ c.iter-key-items.ensures.list) q p.0),
  from_none _ _ (2 ^ 63) c.into_iter-key-iterator.ensures.into_iter_gives c.iter-key-items.ensures.fits,
)

pub loop-key-preserved-then-is_wanted : goal.loop-key-preserved-then-is_wanted
loop-key-preserved-then-is_wanted c =
    let P = IsWanted c.args.self.now.view c.args.wanted.now in
    let split = c.in-Some.ensures.steps in (
      sorted_tail kind_cmp _ _ (subst (IsStrictlySortedBy kind_cmp) split c.loop-key.invariant.0),
      count_in P _ _ c.in-Some.key.now split c.loop-key.invariant.0 c.loop-key.count (c.is_wanted.ensures.0 c.if-is_wanted.true) c.loop-key.invariant.1,
      shorter _ _ c.in-Some.key.now (2 ^ 63) c.loop-key.count split c.loop-key.invariant.2,
    )

pub loop-key-preserved : goal.loop-key-preserved
loop-key-preserved c =
    let P = IsWanted c.args.self.now.view c.args.wanted.now in
    let split = c.in-Some.ensures.steps in (
      sorted_tail kind_cmp _ _ (subst (IsStrictlySortedBy kind_cmp) split c.loop-key.invariant.0),
      count_out P _ _ c.in-Some.key.now split c.loop-key.count (λ p. false≢true (sym c.if-is_wanted.false ∙ c.is_wanted.ensures.1 p)) c.loop-key.invariant.1,
      shorter_too _ _ c.in-Some.key.now (2 ^ 63) c.loop-key.count split c.loop-key.invariant.2,
    )

pub returns : goal.returns
returns c = count_end (IsWanted c.args.self.now.view c.args.wanted.now) _ c.loop-key.count c.in-None.ensures.steps.0 c.loop-key.invariant.1
