use Rattle.std.proofs.Common.{sym, subst, refl, ◌∙◌, None}
use Rattle.std.proofs.lemmas.Bool.{false≢true}
use Rattle.std.specs.List.Sorted.{IsStrictlySortedBy}
use Rattle.lr_origin.specs.Kind.{kind_cmp}
use Rattle.lr_origin.specs.declared.key.KeyKind.{KeyKind}
use Rattle.lr_roots.specs.View.{Has}
use Rattle.lr_roots.proofs.Ordered.{listed, left_step, left_none}
use Rattle.lr_rules.proofs.Outcomes.{is_none}
use Rattle.lr_depot.proofs.Listed.{keys_start, keys_step, first_key}
use Rattle.lr_depot.proofs.doubts.deletion_in_doubt.Goals as goal

pub loop-key-init : goal.loop-key-init
loop-key-init c =
    let e = c.into_iter-key-iterator.ensures.into_iter_gives ∙ c.iter-key-items.ensures.list in record {
      left = (λ q p. listed None c.args.doubts.now c.args.doubts.now _ refl e q p.0, subst (IsStrictlySortedBy kind_cmp) (sym c.into_iter-key-iterator.ensures.into_iter_gives) c.iter-key-items.ensures.ordered);
      had = keys_start c.args.doubts.now _ e;
    }

pub returns-then-has : goal.returns-then-has
returns-then-has c = (first_key c.args.doubts.now _ _ c.in-Some.key.now c.in-Some.ensures.steps c.loop-key.invariant.had, c.has.ensures.0 c.if-has.true)

pub loop-key-preserved : goal.loop-key-preserved
loop-key-preserved c =
    let key = c.in-Some.key.now in record {
      left = left_step (λ (k : KeyKind). Has c.args.doubts.now k × Has c.args.catalog.now.view k) _ _ key c.in-Some.ensures.steps c.loop-key.invariant.left
          (λ p. false≢true (sym c.if-has.false ∙ c.has.ensures.1 p.1));
      had = keys_step c.args.doubts.now _ _ key c.in-Some.ensures.steps c.loop-key.invariant.had;
    }

pub returns : goal.returns
returns c = λ k here. is_none _ (λ there. left_none (λ (k : KeyKind). Has c.args.doubts.now k × Has c.args.catalog.now.view k) _ c.in-None.ensures.steps.0 c.loop-key.invariant.left k (here, there))
