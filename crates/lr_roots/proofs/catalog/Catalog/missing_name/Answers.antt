use Rattle.std.proofs.Common.{◌≡◌, ◌<◌, ◌+◌, ℕ, List, Some, length, get_or, ap, sym, subst, ◌∙◌, inl, inr, arith, unwrap_or}
use mathlib.Core.Logic.{◌⊎◌}
use Rattle.std.specs.List.{slice_get}
use Rattle.std.proofs.lemmas.Option.{slice_get-get_or}
use Rattle.std.proofs.lemmas.Bool.{false≢true}
use Rattle.lr_manifest.specs.declared.name.Name.{Name}
use Rattle.lr_origin.specs.declared.key.KeyKind.TheVariants as kind
use Rattle.lr_roots.specs.View.{Has}
use Rattle.lr_roots.proofs.Aside.{is_none}
use Rattle.lr_roots.proofs.catalog.Catalog.missing_name.Goals as goal

there : (names : List Name) (at : ℕ) (x : Name) → at < length names → x ≡ get_or names at x → slice_get names at ≡ Some x
there names at x within is = slice_get-get_or names at x within ∙ ap Some (sym is)

one_more : (names : List Name) (at : ℕ) (x : Name) (Q : Name → Type 0) → slice_get names at ≡ Some x → Q x → ((i : ℕ) (n : Name) → i < at → slice_get names i ≡ Some n → Q n) → (i : ℕ) (n : Name) → i < at + 1 → slice_get names i ≡ Some n → Q n
one_more names at x Q here q before i n less e = by split
  where
    split : (i < at) ⊎ (i ≡ at)
    split = grind (arith, less)

    by : (i < at) ⊎ (i ≡ at) → Q n
    by (inl l) = before i n l e
    by (inr same) = subst Q (ap (λ o. unwrap_or o x) (sym here ∙ ap (slice_get names) (sym same) ∙ e)) q

pub returns-then-not-has_kind : goal.returns-then-not-has_kind
returns-then-not-has_kind c = record {
  name = c.index-names-at.result;
  there = there c.args.names.now c.loop-at.at c.index-names-at.result (omega (arith, c.loop-at-test.true)) c.index-names-at.is;
  lacks = is_none _ (λ has. false≢true (sym c.if-not-has_kind.true ∙ c.has_kind.ensures.1 has));
  earlier = c.loop-at.invariant;
}

pub loop-at-preserved : goal.loop-at-preserved
loop-at-preserved c =
    one_more c.args.names.now c.loop-at.at c.index-names-at.result (λ n. Has c.args.self.now.view (kind.Chunk c.args.root n.bytes))
    (there c.args.names.now c.loop-at.at c.index-names-at.result (omega (arith, c.loop-at-test.true)) c.index-names-at.is)
    (c.has_kind.ensures.0 c.if-not-has_kind.false) c.loop-at.invariant

pub returns : goal.returns
returns c = λ k d less. c.loop-at.invariant k (get_or c.args.names.now k d) (omega (arith, c.loop-at-test.false, less)) (slice_get-get_or c.args.names.now k d less)
