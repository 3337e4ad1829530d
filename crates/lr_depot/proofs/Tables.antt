-- The tree that keeps the makers of puts in doubt.
use Rattle.std.proofs.Common.{◌≡◌, ℕ, Bool, true, false, cond, List, [], ◌∷◌, Option, Some, None, refl, sym, ap, subst, ◌∙◌, inl, inr}
use Rattle.std.specs.Ordering.{eq_by_cmp}
use Rattle.std.proofs.lemmas.Cmp.{eq_by_cmp_equiv}
use Rattle.std.proofs.lemmas.Bool.{cases_Bool, cond-true, cond-false}
use Rattle.std.specs.Map.{lookup, KeepsOthers, IsKeyTest, AreApart}
use Rattle.std.specs.BTreeMap.{BTreeMap, UpdatesBy}
use Rattle.std.specs.FinMap as fin
use Rattle.std.specs.FinMap.{find, from_entries, get-from_entries, get-insert, get-remove, same_map}
use Rattle.lr_origin.specs.declared.key.KeyKind.{KeyKind}
use Rattle.lr_origin.specs.Kind.{kind_cmp, kind_total, kind_exact}
use Rattle.lr_roots.proofs.Trees.{at_key, same_key}

find_table : (es : List (KeyKind × ℕ)) (q : KeyKind) → find kind_cmp q es ≡ lookup (at_key q) es
find_table [] q = refl
find_table (e ∷ es) q = ap (cond (at_key q e.0) (Some e.1)) (find_table es q)

-- what the map has at a key
pub get_table : (es : List (KeyKind × ℕ)) (q : KeyKind) → fin.get (from_entries {R = kind_cmp} es) q ≡ lookup (at_key q) es
get_table es q = get-from_entries kind_total es q ∙ find_table es q

others : (eq : KeyKind → KeyKind → Bool) (test : KeyKind → Bool) (old new : List (KeyKind × ℕ)) → KeepsOthers eq test old new → (other : KeyKind → Bool) → IsKeyTest eq other → AreApart test other → lookup other new ≡ lookup other old
unfolding KeepsOthers
others eq test old new h = h

changes_table : (m n : BTreeMap KeyKind ℕ) (key : KeyKind) (w : Option ℕ) → UpdatesBy kind_cmp (λ (k : KeyKind). kind_cmp key k) m n w → (q : KeyKind) → lookup (at_key q) n.entries ≡ cond (eq_by_cmp kind_cmp q key) w (lookup (at_key q) m.entries)
changes_table m n key w h q =
    let e = eq_by_cmp_equiv kind_total in
    elim (cases_Bool (eq_by_cmp kind_cmp q key)) [
      | inl y ↦ subst (λ l. lookup (at_key l) n.entries ≡ w) (sym (same_key q key y)) h.1 ∙ sym (cond-true _ w _ y)
      | inr f ↦ others _ _ _ _ h.3 (at_key q) (λ x y. e.congr q x y) (λ k hit. apart k hit f) ∙ sym (cond-false _ w _ f)
    ]
  where
    apart : (k : KeyKind) → at_key key k ≡ true → eq_by_cmp kind_cmp q key ≡ false → at_key q k ≡ false
    apart k hit f = ap (eq_by_cmp kind_cmp q) (sym (same_key key k hit)) ∙ f

pub inserted : (m n : BTreeMap KeyKind ℕ) (k : KeyKind) (x : ℕ) → UpdatesBy kind_cmp (λ (j : KeyKind). kind_cmp k j) m n (Some x) → from_entries {R = kind_cmp} n.entries ≡ fin.insert (from_entries m.entries) k x
inserted m n k x h = same_map kind_total kind_exact _ _ (λ q. get_table n.entries q ∙ changes_table m n k (Some x) h q ∙ ap (cond (eq_by_cmp kind_cmp q k) (Some x)) (sym (get_table m.entries q)) ∙ sym (get-insert kind_total (from_entries m.entries) k x q))

pub removed : (m n : BTreeMap KeyKind ℕ) (k : KeyKind) → UpdatesBy kind_cmp (λ (j : KeyKind). kind_cmp k j) m n None → from_entries {R = kind_cmp} n.entries ≡ fin.remove (from_entries m.entries) k
removed m n k h = same_map kind_total kind_exact _ _ (λ q. get_table n.entries q ∙ changes_table m n k None h q ∙ ap (cond (eq_by_cmp kind_cmp q k) None) (sym (get_table m.entries q)) ∙ sym (get-remove kind_total (from_entries m.entries) k q))
