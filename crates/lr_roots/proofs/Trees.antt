-- The view that a tree's entries make.
use Rattle.std.proofs.Common.{◌≡◌, Bool, true, false, cond, List, [], ◌∷◌, length, map, Option, Some, None, refl, sym, ap, subst, ◌∙◌, inl, inr, option_map}
use Rattle.std.specs.declared.cmp.Ordering.{Ordering}
use Rattle.std.specs.declared.cmp.Ordering.TheVariants.{Less, Equal, Greater}
use Rattle.std.specs.Ordering.{is_eq, eq_by_cmp}
use Rattle.std.proofs.lemmas.Cmp.{eq_by_cmp_equiv}
use Rattle.std.proofs.lemmas.Map.Keys.{sorted_head, sorted_tail}
use Rattle.std.proofs.lemmas.Bool.{cases_Bool, cond-true, cond-false}
use Rattle.std.specs.Map.{lookup, KeepsOthers, IsKeyTest, AreApart}
use Rattle.std.specs.BTreeMap.{BTreeMap, is_at, UpdatesBy}
use Rattle.std.specs.FinMap as fin
use Rattle.std.specs.List.{AllByRecursion}
use Rattle.std.specs.List.Sorted.{IsStrictlySortedBy}
use Rattle.std.specs.FinMap.{find, put, entries, empty, entries-insert, len-entries, len-empty, get-from_entries, get-insert, get-remove, same_map}
use Rattle.lr_origin.specs.declared.key.KeyKind.{KeyKind}
use Rattle.lr_origin.specs.Kind.{kind_cmp, kind_total, kind_exact}
use Rattle.lr_roots.specs.declared.kept.Kept.{Kept}
use Rattle.lr_roots.specs.View.{Held}
use Rattle.lr_roots.specs.Keys.{plain, plain_entry, view_of}

-- whether it is this key
abbrev pub at_key : KeyKind → KeyKind → Bool
at_key q = is_at (λ (k : KeyKind). kind_cmp q k)

find_plain : (es : List (KeyKind × Kept)) (q : KeyKind) → find kind_cmp q (map plain_entry es) ≡ option_map plain (lookup (at_key q) es)
find_plain [] q = refl
find_plain (e ∷ es) q =
    elim (is_eq (kind_cmp q e.0)) as (λ b. cond b (Some (plain e.1)) (find kind_cmp q (map plain_entry es)) ≡ option_map plain (cond b (Some e.1) (lookup (at_key q) es))) [
      | true ↦ refl
      | false ↦ find_plain es q
    ]

-- what the view has at a key
pub get_view : (es : List (KeyKind × Kept)) (q : KeyKind) → fin.get (view_of es) q ≡ option_map plain (lookup (at_key q) es)
get_view es q = get-from_entries kind_total _ q ∙ find_plain es q

module _ {K X : Type 0} (eq : K → K → Bool) (test : K → Bool) where
  others : (old new : List (K × X)) → KeepsOthers eq test old new → (other : K → Bool) → IsKeyTest eq other → AreApart test other → lookup other new ≡ lookup other old
  unfolding KeepsOthers
  others old new h = h

-- w is at the key, and what was there at each other
abbrev pub ChangesAt : List (KeyKind × Kept) → List (KeyKind × Kept) → KeyKind → Option Kept → Type 0
ChangesAt old new key w = (q : KeyKind) → lookup (at_key q) new ≡ cond (eq_by_cmp kind_cmp q key) w (lookup (at_key q) old)

pub is_eq-Equal : (o : Ordering) → is_eq o ≡ true → o ≡ Equal
is_eq-Equal Less e = cc
is_eq-Equal Equal e = refl
is_eq-Equal Greater e = cc

pub same_key : (x y : KeyKind) → is_eq (kind_cmp x y) ≡ true → x ≡ y
same_key x y e = kind_exact x y (is_eq-Equal _ e)

pub changes_at : (m n : BTreeMap KeyKind Kept) (key : KeyKind) (w : Option Kept) → UpdatesBy kind_cmp (λ (k : KeyKind). kind_cmp key k) m n w → ChangesAt m.entries n.entries key w
changes_at m n key w h q =
    let e = eq_by_cmp_equiv kind_total in
    elim (cases_Bool (eq_by_cmp kind_cmp q key)) [
      | inl y ↦ subst (λ l. lookup (at_key l) n.entries ≡ w) (sym (same_key q key y)) h.1 ∙ sym (cond-true _ w _ y)
      | inr f ↦ others _ _ _ _ h.3 (at_key q) (λ x y. e.congr q x y) (λ k hit. apart k hit f) ∙ sym (cond-false _ w _ f)
    ]
  where
    apart : (k : KeyKind) → at_key key k ≡ true → eq_by_cmp kind_cmp q key ≡ false → at_key q k ≡ false
    apart k hit f = ap (eq_by_cmp kind_cmp q) (sym (same_key key k hit)) ∙ f

plain-cond : (b : Bool) (w o : Option Kept) → option_map plain (cond b w o) ≡ cond b (option_map plain w) (option_map plain o)
plain-cond true w o = refl
plain-cond false w o = refl

pub inserted : (old new : List (KeyKind × Kept)) (key : KeyKind) (v : Kept) → ChangesAt old new key (Some v) → view_of new ≡ fin.insert (view_of old) key (plain v)
inserted old new key v h = same_map kind_total kind_exact _ _ (λ q.
    get_view new q ∙ ap (option_map plain) (h q) ∙ plain-cond (eq_by_cmp kind_cmp q key) (Some v) _
    ∙ ap (cond (eq_by_cmp kind_cmp q key) (Some (plain v))) (sym (get_view old q)) ∙ sym (get-insert kind_total (view_of old) key (plain v) q))

pub removed : (old new : List (KeyKind × Kept)) (key : KeyKind) → ChangesAt old new key None → view_of new ≡ fin.remove (view_of old) key
removed old new key h = same_map kind_total kind_exact _ _ (λ q.
    get_view new q ∙ ap (option_map plain) (h q) ∙ plain-cond (eq_by_cmp kind_cmp q key) None _
    ∙ ap (cond (eq_by_cmp kind_cmp q key) None) (sym (get_view old q)) ∙ sym (get-remove kind_total (view_of old) key q))

-- the keys of some entries, in order
abbrev keys_of : List (KeyKind × Kept) → List KeyKind
keys_of es = map (λ e. e.0) es

no_length : (es : List (KeyKind × Held)) → length es ≡ 0 → es ≡ []
no_length [] e = refl
no_length (x ∷ es) e = cc

none_in_empty : entries (empty {X = Held} {R = kind_cmp}) ≡ []
none_in_empty = no_length _ (sym (len-entries empty) ∙ len-empty kind_cmp Held)

in_front : (e : KeyKind × Kept) (es : List (KeyKind × Kept)) → AllByRecursion (λ y. kind_cmp e.0 y ≡ Less) (keys_of es) → put kind_cmp e.0 (plain e.1) (map plain_entry es) ≡ plain_entry e ∷ map plain_entry es
in_front e [] h = refl
in_front e (f ∷ es) h = rw h.0 refl

-- the entries of the view are those of the tree, where these are in order
entries_view : (es : List (KeyKind × Kept)) → IsStrictlySortedBy kind_cmp (keys_of es) → entries (view_of es) ≡ map plain_entry es
entries_view [] s = none_in_empty
entries_view (e ∷ es) s =
    entries-insert kind_total (view_of es) e.0 (plain e.1) ∙ ap (put kind_cmp e.0 (plain e.1)) (entries_view es (sorted_tail kind_cmp e.0 (keys_of es) s)) ∙ in_front e es (sorted_head kind_cmp e.0 (keys_of es) s)

same_keys : (es : List (KeyKind × Kept)) → map (λ (e : KeyKind × Held). e.0) (map plain_entry es) ≡ keys_of es
same_keys [] = refl
same_keys (e ∷ es) = ap (λ ks. e.0 ∷ ks) (same_keys es)

pub keys_view : (es : List (KeyKind × Kept)) → IsStrictlySortedBy kind_cmp (map (λ e. e.0) es) → fin.keys (view_of es) ≡ map (λ e. e.0) es
keys_view es s = ap (map (λ (e : KeyKind × Held). e.0)) (entries_view es s) ∙ same_keys es
