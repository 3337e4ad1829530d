-- Objects that are made of a tree's entries.
use Rattle.std.proofs.Common.{◌≡◌, ℕ, Bool, true, false, cond, List, [], ◌∷◌, map, Option, Some, None, Vec, IsSome, refl, sym, ap, subst, ◌∙◌, inl, inr, option_map, arith, length, ◌<◌}
use mathlib.Core.Logic.{◌⊎◌}
use Rattle.std.specs.declared.alloc.Global.{Global}
use Rattle.std.specs.declared.cmp.Ordering.{Ordering}
use Rattle.std.specs.declared.cmp.Ordering.TheVariants.{Less, Equal, Greater}
use Rattle.std.specs.Ordering.{nat_cmp, is_eq, is_gt, ordering_reverse, eq_by_cmp}
use Rattle.std.specs.Cmp.{IsTotalOrder}
use Rattle.std.specs.Cmp.Lexicographic.{slice_cmp, nat_list_cmp_total}
use Rattle.std.proofs.lemmas.Cmp.{on_total, eq_by_cmp_equiv}
use Rattle.std.proofs.lemmas.Map.Lookups.{exact_bytes}
use Rattle.std.proofs.lemmas.Map.Entries.{place_from_lookup, btree_map_get_place}
use Rattle.std.proofs.lemmas.Bool.{cases_Bool, cond-true, cond-false}
use Rattle.std.specs.Map.{lookup, KeepsOthers, IsKeyTest, AreApart}
use Rattle.std.specs.List.{slice_get}
use Rattle.std.specs.BTreeMap as tree
use Rattle.std.specs.BTreeMap.{BTreeMap, is_at, UpdatesBy, btree_map_len}
use Rattle.std.specs.BTreeMap.Range.{IsRangeOf}
use Rattle.std.specs.declared.ops.Bound.TheVariants.{Excluded, Unbounded}
use Rattle.std.specs.FinMap as fin
use Rattle.std.specs.FinMap.{find, get-from_entries, get-insert, get-remove, same_map, from_entries}
use Rattle.lr_origin.specs.Objects.{Objects, key_cmp, IsNext}
use Rattle.lr_origin.specs.Table.{objects_of, bytes_of_entry}

abbrev Bytes : Type 0
Bytes = Vec ℕ Global

abbrev pub vec_cmp : Bytes → Bytes → Ordering
vec_cmp x y = slice_cmp nat_cmp x.items y.items

pub vec_total : IsTotalOrder vec_cmp
vec_total = on_total (λ (v : Bytes). v.items) nat_list_cmp_total

-- whether the key has these bytes
abbrev pub at_bytes : List ℕ → Bytes → Bool
at_bytes q = is_at (λ (k : Bytes). slice_cmp nat_cmp q k.items)

abbrev pub items_of : Option Bytes → Option (List ℕ)
items_of None = None
items_of (Some v) = Some v.items

find_bytes : (es : List (Bytes × Bytes)) (q : List ℕ) → find key_cmp q (map bytes_of_entry es) ≡ items_of (lookup (at_bytes q) es)
find_bytes [] q = refl
find_bytes (e ∷ es) q =
    elim (is_eq (slice_cmp nat_cmp q e.0.items)) as (λ b. cond b (Some e.1.items) (find key_cmp q (map bytes_of_entry es)) ≡ items_of (cond b (Some e.1) (lookup (at_bytes q) es))) [
      | true ↦ refl
      | false ↦ find_bytes es q
    ]

-- what the objects have at a key
pub get_objects : (es : List (Bytes × Bytes)) (q : List ℕ) → fin.get (objects_of es) q ≡ items_of (lookup (at_bytes q) es)
get_objects es q = get-from_entries nat_list_cmp_total _ q ∙ find_bytes es q

module _ {K X : Type 0} (eq : K → K → Bool) (test : K → Bool) where
  others : (old new : List (K × X)) → KeepsOthers eq test old new → (other : K → Bool) → IsKeyTest eq other → AreApart test other → lookup other new ≡ lookup other old
  unfolding KeepsOthers
  others old new h = h

-- w is at the key, and what was there at each other
abbrev pub ChangesAt : List (Bytes × Bytes) → List (Bytes × Bytes) → List ℕ → Option Bytes → Type 0
ChangesAt old new key w = (q : List ℕ) → lookup (at_bytes q) new ≡ cond (eq_by_cmp key_cmp q key) w (lookup (at_bytes q) old)

is_eq-Equal : (o : Ordering) → is_eq o ≡ true → o ≡ Equal
is_eq-Equal Less e = cc
is_eq-Equal Equal e = refl
is_eq-Equal Greater e = cc

same_bytes : (x y : List ℕ) → is_eq (slice_cmp nat_cmp x y) ≡ true → x ≡ y
same_bytes x y e = exact_bytes x y (is_eq-Equal _ e)

pub changes_at : (m n : BTreeMap Bytes Bytes) (key : List ℕ) (w : Option Bytes) → UpdatesBy vec_cmp (λ (k : Bytes). slice_cmp nat_cmp key k.items) m n w → ChangesAt m.entries n.entries key w
changes_at m n key w h q =
    let e = eq_by_cmp_equiv nat_list_cmp_total in
    elim (cases_Bool (eq_by_cmp key_cmp q key)) [
      | inl y ↦ subst (λ l. lookup (at_bytes l) n.entries ≡ w) (sym (same_bytes q key y)) h.1 ∙ sym (cond-true _ w _ y)
      | inr f ↦ others _ _ _ _ h.3 (at_bytes q) (λ x y. e.congr q x.items y.items) (λ k hit. apart k hit f) ∙ sym (cond-false _ w _ f)
    ]
  where
    apart : (k : Bytes) → at_bytes key k ≡ true → eq_by_cmp key_cmp q key ≡ false → at_bytes q k ≡ false
    apart k hit f = ap (eq_by_cmp key_cmp q) (sym (same_bytes key k.items hit)) ∙ f

items_of-cond : (b : Bool) (w o : Option Bytes) → items_of (cond b w o) ≡ cond b (items_of w) (items_of o)
items_of-cond true w o = refl
items_of-cond false w o = refl

pub inserted : (old new : List (Bytes × Bytes)) (key : List ℕ) (v : Bytes) → ChangesAt old new key (Some v) → objects_of new ≡ fin.insert (objects_of old) key v.items
inserted old new key v h = same_map nat_list_cmp_total exact_bytes _ _ (λ q.
    get_objects new q ∙ ap items_of (h q) ∙ items_of-cond (eq_by_cmp key_cmp q key) (Some v) _
    ∙ ap (cond (eq_by_cmp key_cmp q key) (Some v.items)) (sym (get_objects old q)) ∙ sym (get-insert nat_list_cmp_total (objects_of old) key v.items q))

pub removed : (old new : List (Bytes × Bytes)) (key : List ℕ) → ChangesAt old new key None → objects_of new ≡ fin.remove (objects_of old) key
removed old new key h = same_map nat_list_cmp_total exact_bytes _ _ (λ q.
    get_objects new q ∙ ap items_of (h q) ∙ items_of-cond (eq_by_cmp key_cmp q key) None _
    ∙ ap (cond (eq_by_cmp key_cmp q key) None) (sym (get_objects old q)) ∙ sym (get-remove nat_list_cmp_total (objects_of old) key q))

-- where no key of the tree has P, there is no object at bytes that have it
pub absent : (m : BTreeMap Bytes Bytes) → tree.IsOrdered vec_cmp m → (P : List ℕ → Type 0) → ((k : Bytes) → P k.items → IsSome (tree.get vec_cmp m k) → ⊥) → (q : List ℕ) → P q → fin.get (objects_of m.entries) q ≡ None
absent m ordered P none q p = get_objects m.entries q ∙ by (lookup (at_bytes q) m.entries) refl
  where
    by : (o : Option Bytes) → lookup (at_bytes q) m.entries ≡ o → items_of o ≡ None
    by None e = refl
    by (Some v) e =
        let place = place_from_lookup (at_bytes q) m.entries v e in
        let same = same_bytes q place.1.items place.3 in
        absurd (none place.1 (subst P same p) (subst IsSome (sym (btree_map_get_place vec_total m place.0 place.1 v ordered place.2)) refl))

items_of-Some : (o : Option Bytes) (v : Bytes) → o ≡ Some v → items_of o ≡ Some v.items
items_of-Some o v e = ap items_of e

-- a key of the tree is a key of the objects
pub present : (m : BTreeMap Bytes Bytes) (k v : Bytes) → tree.get vec_cmp m k ≡ Some v → IsSome (fin.get (objects_of m.entries) k.items)
present m k v e = subst IsSome (sym (get_objects m.entries k.items ∙ items_of-Some _ v e)) refl

above : (k x : Bytes) → key_cmp x.items k.items ≡ Less → is_gt (vec_cmp k x) ≡ false → ⊥
above k x below e =
    let gt : is_gt (vec_cmp k x) ≡ true = ap is_gt (nat_list_cmp_total.antisymm k.items x.items ∙ ap ordering_reverse below) in cc

-- nothing is below the first
pub none_below : (m : BTreeMap Bytes Bytes) → tree.IsOrdered vec_cmp m → (k : Bytes) → tree.IsLowerBound vec_cmp m k → (q : List ℕ) → key_cmp q k.items ≡ Less → fin.get (objects_of m.entries) q ≡ None
none_below m ordered k least q less = absent m ordered (λ l. key_cmp l k.items ≡ Less) (λ x below here. above k x below (least x here)) q less

-- the first key past another
pub first_past : (m : BTreeMap Bytes Bytes) → tree.IsOrdered vec_cmp m → (a k v : Bytes) (rest r : List (Bytes × Bytes)) → IsRangeOf vec_cmp (Excluded a) Unbounded m r → r ≡ (k, v) ∷ rest → IsNext (Some a.items) (objects_of m.entries) (Some k.items)
first_past m ordered a k v rest r h e =
    let in_range : IsRangeOf vec_cmp (Excluded a) Unbounded m ((k, v) ∷ rest) = subst (λ r. IsRangeOf vec_cmp (Excluded a) Unbounded m r) e h in
    let P : List ℕ → Type 0 = λ l. (key_cmp a.items l ≡ Less) × (key_cmp l k.items ≡ Less) in
    (in_range.1.0.0, present m k v in_range.1.1, λ q after less. absent m ordered P (λ x p here. above k x p.1 (in_range.2 x (p.0, tt) here)) q (after, less))

pub none_past : (m : BTreeMap Bytes Bytes) → tree.IsOrdered vec_cmp m → (a : Bytes) (r : List (Bytes × Bytes)) → IsRangeOf vec_cmp (Excluded a) Unbounded m r → r ≡ [] → IsNext (Some a.items) (objects_of m.entries) None
none_past m ordered a r h e q after = absent m ordered (λ l. key_cmp a.items l ≡ Less) (λ x p here. gone _ here (h.5 e x (p, tt))) q after
  where
    gone : (o : Option Bytes) → IsSome o → o ≡ None → ⊥
    gone o some none = let e : IsSome {T = Bytes} None = subst IsSome none some in cc

-- a tree with no entry
pub none_in_empty : (m : BTreeMap Bytes Bytes) → (0 < btree_map_len m → ⊥) → (q : List ℕ) → fin.get (objects_of m.entries) q ≡ None
none_in_empty m none q = get_objects m.entries q ∙ ap (λ es. items_of (lookup (at_bytes q) es)) (nothing m.entries none)
  where
    nothing : (es : List (Bytes × Bytes)) → (0 < length es → ⊥) → es ≡ []
    nothing [] none = refl
    nothing (e ∷ es) none = absurd (none (omega arith))
