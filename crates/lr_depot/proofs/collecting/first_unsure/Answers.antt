use Rattle.std.proofs.Common.{sym, subst, refl, ◌∙◌, None}
use Rattle.std.proofs.lemmas.Bool.{false≢true}
use Rattle.std.specs.List.Sorted.{IsStrictlySortedBy}
use Rattle.lr_origin.specs.Kind.{kind_cmp}
use Rattle.lr_origin.specs.declared.key.KeyKind.{KeyKind}
use Rattle.lr_roots.specs.View.{Has}
use Rattle.lr_roots.proofs.Ordered.{listed, left_step, left_found, left_none}
use Rattle.lr_roots.specs.Names.{IsManifestOf}
use Rattle.lr_depot.proofs.Listed.{keys_start, keys_step, first_key}
use Rattle.lr_depot.proofs.collecting.first_unsure.Goals as goal

pub loop-key-init : goal.loop-key-init
loop-key-init c =
    let e = c.into_iter-key-iterator.ensures.into_iter_gives ∙ c.iter-key-items.ensures.list in record {
      left = (λ q p. listed None c.args.doubts.now c.args.doubts.now _ refl e q p.0, subst (IsStrictlySortedBy kind_cmp) (sym c.into_iter-key-iterator.ensures.into_iter_gives) c.iter-key-items.ensures.ordered);
      had = keys_start c.args.doubts.now _ e;
    }

pub returns-then-is_manifest_in : goal.returns-then-is_manifest_in
returns-then-is_manifest_in c =
    let key = c.in-Some.key.now in
    left_found (λ (k : KeyKind). Has c.args.doubts.now k × IsManifestOf c.args.root k) _ _ key c.in-Some.ensures.steps c.loop-key.invariant.left
    (first_key c.args.doubts.now _ _ key c.in-Some.ensures.steps c.loop-key.invariant.had, subst (IsManifestOf c.args.root) c.kind.ensures.same (c.is_manifest_in.ensures.0 c.if-is_manifest_in.true))

pub loop-key-preserved : goal.loop-key-preserved
loop-key-preserved c =
    let key = c.in-Some.key.now in record {
      left = left_step (λ (k : KeyKind). Has c.args.doubts.now k × IsManifestOf c.args.root k) _ _ key c.in-Some.ensures.steps c.loop-key.invariant.left
          (λ p. false≢true (sym c.if-is_manifest_in.false ∙ c.is_manifest_in.ensures.1 (subst (IsManifestOf c.args.root) (sym c.kind.ensures.same) p.1)));
      had = keys_step c.args.doubts.now _ _ key c.in-Some.ensures.steps c.loop-key.invariant.had;
    }

pub returns : goal.returns
returns c = left_none (λ (k : KeyKind). Has c.args.doubts.now k × IsManifestOf c.args.root k) _ c.in-None.ensures.steps.0 c.loop-key.invariant.left
