-- Finite maps from numbers, and the trees that keep them.
use Rattle.std.proofs.Common.{◌≡◌, ◌<◌, ◌-◌, ℕ, Bool, true, false, cond, List, [], ◌∷◌, length, map, Option, Some, None, is_some, refl, sym, ap, subst, ◌∙◌, inl, inr, arith}
use mathlib.Core.Logic.{◌⊎◌}
use Rattle.std.specs.declared.cmp.Ordering.{Ordering}
use Rattle.std.specs.declared.cmp.Ordering.TheVariants.{Less, Equal, Greater}
use Rattle.std.specs.Ordering.{is_eq, eq_by_cmp, nat_cmp, ordering_reverse}
use Rattle.std.specs.Cmp.{nat_cmp_total, tied_itself}
use Rattle.std.proofs.lemmas.Cmp.{eq_by_cmp_equiv}
use Rattle.std.proofs.lemmas.Map.Keys.{sorted_head, sorted_tail}
use Rattle.std.proofs.lemmas.Bool.{cases_Bool, cond-true, cond-false}
use Rattle.std.specs.Map.{lookup}
use Rattle.std.specs.BTreeMap.{BTreeMap, is_at, UpdatesBy}
use Rattle.std.specs.FinMap as fin
use Rattle.std.specs.List.{AllByRecursion}
use Rattle.std.specs.List.Sorted.{IsStrictlySortedBy}
use Rattle.std.specs.FinMap.{FinMap, find, put, entries, len-remove, get-retain_keys, empty, from_entries, entries-insert, len-entries, len-empty, get-entries, get-from_entries, get-insert, get-remove, same_map, nat_cmp-IsAntisymmetric}
use Rattle.lr_roots.specs.Names.{IsOneOf}

pub same_number : (n k : ℕ) → eq_by_cmp nat_cmp n k ≡ true → n ≡ k
same_number n k e = by (nat_cmp n k) refl e
  where
    by : (o : Ordering) → nat_cmp n k ≡ o → is_eq o ≡ true → n ≡ k
    by Less is t = cc
    by Equal is t = nat_cmp-IsAntisymmetric n k is
    by Greater is t = cc

itself : (n : ℕ) → eq_by_cmp nat_cmp n n ≡ true
itself n = ap is_eq (tied_itself nat_cmp_total n)

module _ {X : Type 0} where
  find_tree : (es : List (ℕ × X)) (q : ℕ) → find nat_cmp q es ≡ lookup (is_at (nat_cmp q)) es
  find_tree [] q = refl
  find_tree (e ∷ es) q = ap (cond (is_at (nat_cmp q) e.0) (Some e.1)) (find_tree es q)

  -- what the map has at a number
  pub get_tree : (es : List (ℕ × X)) (q : ℕ) → fin.get (from_entries {R = nat_cmp} es) q ≡ lookup (is_at (nat_cmp q)) es
  get_tree es q = get-from_entries nat_cmp_total es q ∙ find_tree es q

  changes : (m n : BTreeMap ℕ X) (k : ℕ) (w : Option X) → UpdatesBy nat_cmp (nat_cmp k) m n w → (q : ℕ) → fin.get (from_entries {R = nat_cmp} n.entries) q ≡ cond (eq_by_cmp nat_cmp q k) w (fin.get (from_entries {R = nat_cmp} m.entries) q)
  changes m n k w h q =
      get_tree n.entries q ∙ h.0 q ∙ ap (λ b. cond b w (lookup (is_at (nat_cmp q)) m.entries)) ((eq_by_cmp_equiv nat_cmp_total).symm k q)
      ∙ ap (cond (eq_by_cmp nat_cmp q k) w) (sym (get_tree m.entries q))

  pub inserted : (m n : BTreeMap ℕ X) (k : ℕ) (v : X) → UpdatesBy nat_cmp (nat_cmp k) m n (Some v) → from_entries {R = nat_cmp} n.entries ≡ fin.insert (from_entries m.entries) k v
  inserted m n k v h = same_map nat_cmp_total nat_cmp-IsAntisymmetric _ _ (λ q. changes m n k (Some v) h q ∙ sym (get-insert nat_cmp_total (from_entries m.entries) k v q))

  pub removed : (m n : BTreeMap ℕ X) (k : ℕ) → UpdatesBy nat_cmp (nat_cmp k) m n None → from_entries {R = nat_cmp} n.entries ≡ fin.remove (from_entries m.entries) k
  removed m n k h = same_map nat_cmp_total nat_cmp-IsAntisymmetric _ _ (λ q. changes m n k None h q ∙ sym (get-remove nat_cmp_total (from_entries m.entries) k q))

  no_length : (es : List (ℕ × X)) → length es ≡ 0 → es ≡ []
  no_length [] e = refl
  no_length (x ∷ es) e = cc

  none_in_empty : entries (empty {X = X} {R = nat_cmp}) ≡ []
  none_in_empty = no_length _ (sym (len-entries empty) ∙ len-empty nat_cmp X)

  in_front : (e : ℕ × X) (es : List (ℕ × X)) → AllByRecursion (λ y. nat_cmp e.0 y ≡ Less) (map (λ e. e.0) es) → put nat_cmp e.0 e.1 es ≡ e ∷ es
  in_front e [] h = refl
  in_front e (f ∷ es) h = rw h.0 refl

  -- the entries of the map are those of the tree, where these are in order
  pub entries_tree : (es : List (ℕ × X)) → IsStrictlySortedBy nat_cmp (map (λ e. e.0) es) → entries (from_entries {R = nat_cmp} es) ≡ es
  entries_tree [] s = none_in_empty
  entries_tree (e ∷ es) s =
      entries-insert nat_cmp_total (from_entries es) e.0 e.1 ∙ ap (put nat_cmp e.0 e.1) (entries_tree es (sorted_tail nat_cmp e.0 (map (λ e. e.0) es) s)) ∙ in_front e es (sorted_head nat_cmp e.0 (map (λ e. e.0) es) s)

  pub len_tree : (es : List (ℕ × X)) → IsStrictlySortedBy nat_cmp (map (λ e. e.0) es) → fin.len (from_entries {R = nat_cmp} es) ≡ length es
  len_tree es s = len-entries (from_entries es) ∙ ap length (entries_tree es s)

  pub keys_tree : (es : List (ℕ × X)) → IsStrictlySortedBy nat_cmp (map (λ e. e.0) es) → fin.keys (from_entries {R = nat_cmp} es) ≡ map (λ e. e.0) es
  keys_tree es s = ap (map (λ (e : ℕ × X). e.0)) (entries_tree es s)

  found_in : (es : List (ℕ × X)) (n : ℕ) (x : X) → find nat_cmp n es ≡ Some x → IsOneOf es (n, x)
  found_in [] n x e = cc
  found_in (y ∷ es) n x e = by (found_in es n x) (cases_Bool (eq_by_cmp nat_cmp n y.0))
    where
      same : y.1 ≡ x → n ≡ y.0 → (n, x) ≡ y
      same p q = λ i. (q i, sym p i)

      by : (find nat_cmp n es ≡ Some x → IsOneOf es (n, x)) → (eq_by_cmp nat_cmp n y.0 ≡ true) ⊎ (eq_by_cmp nat_cmp n y.0 ≡ false) → IsOneOf (y ∷ es) (n, x)
      by later (inl t) = let is : Some y.1 ≡ Some x = sym (cond-true _ (Some y.1) (find nat_cmp n es) t) ∙ e in inl (same (cc) (same_number n y.0 t))
      by later (inr f) = inr (later (sym (cond-false _ (Some y.1) (find nat_cmp n es) f) ∙ e))

  pub above : (k : ℕ) (es : List (ℕ × X)) → AllByRecursion (λ y. nat_cmp k y ≡ Less) (map (λ e. e.0) es) → (n : ℕ) (x : X) → IsOneOf es (n, x) → nat_cmp k n ≡ Less
  above k [] h n x i = absurd i
  above k (y ∷ es) h n x (inl e) = ap (λ (p : ℕ × X). nat_cmp k p.0) e ∙ h.0
  above k (y ∷ es) h n x (inr i) = above k es h.1 n x i

  find_in : (es : List (ℕ × X)) (n : ℕ) (x : X) → IsStrictlySortedBy nat_cmp (map (λ e. e.0) es) → IsOneOf es (n, x) → find nat_cmp n es ≡ Some x
  find_in [] n x s i = absurd i
  find_in (y ∷ es) n x s (inl e) = subst (λ (p : ℕ × X). find nat_cmp p.0 (y ∷ es) ≡ Some p.1) (sym e) (cond-true _ (Some y.1) (find nat_cmp y.0 es) (itself y.0))
  find_in (y ∷ es) n x s (inr i) =
      cond-false _ (Some y.1) (find nat_cmp n es) (apart (above y.0 es (sorted_head nat_cmp y.0 (map (λ e. e.0) es) s) n x i))
      ∙ find_in es n x (sorted_tail nat_cmp y.0 (map (λ e. e.0) es) s) i
    where
      apart : nat_cmp y.0 n ≡ Less → eq_by_cmp nat_cmp n y.0 ≡ false
      apart less = ap is_eq (nat_cmp_total.antisymm n y.0 ∙ ap ordering_reverse less)

  -- those of the map that pass are among the rest, and the rest are of the map
  pub record AreLeft (m : FinMap nat_cmp X) (P : X → Type 0) (rest : List (ℕ × X)) : Type 0 where
    pub left : (n : ℕ) (x : X) → fin.get m n ≡ Some x → P x → IsOneOf rest (n, x)
    pub had : (n : ℕ) (x : X) → IsOneOf rest (n, x) → fin.get m n ≡ Some x

  pub left_start : (m : FinMap nat_cmp X) (P : X → Type 0) (es : List (ℕ × X)) → es ≡ entries m → IsStrictlySortedBy nat_cmp (fin.keys m) → AreLeft m P es
  left_start m P es e s = record {
    left = λ n x is p. subst (λ l. IsOneOf l (n, x)) (sym e) (found_in (entries m) n x (sym (get-entries m n) ∙ is));
    had = λ n x i. get-entries m n ∙ find_in (entries m) n x s (subst (λ l. IsOneOf l (n, x)) e i);
  }

  pub left_step : (m : FinMap nat_cmp X) (P : X → Type 0) (all rest : List (ℕ × X)) (n : ℕ) (x : X) → all ≡ (n, x) ∷ rest → AreLeft m P all → (P x → ⊥) → AreLeft m P rest
  left_step m P all rest n x split h not = record {
    left = λ k y is p. other k y p (subst (λ l. IsOneOf l (k, y)) split (h.left k y is p));
    had = λ k y i. h.had k y (subst (λ l. IsOneOf l (k, y)) (sym split) (inr i));
  }
    where
      other : (k : ℕ) (y : X) → P y → IsOneOf ((n, x) ∷ rest) (k, y) → IsOneOf rest (k, y)
      other k y p (inl e) = absurd (not (subst P (ap (λ (q : ℕ × X). q.1) e) p))
      other k y p (inr i) = i

  pub left_first : (m : FinMap nat_cmp X) (P : X → Type 0) (all rest : List (ℕ × X)) (n : ℕ) (x : X) → all ≡ (n, x) ∷ rest → AreLeft m P all → fin.get m n ≡ Some x
  left_first m P all rest n x split h = h.had n x (subst (λ l. IsOneOf l (n, x)) (sym split) (inl refl))

  pub left_end : (m : FinMap nat_cmp X) (P : X → Type 0) (rest : List (ℕ × X)) → rest ≡ [] → AreLeft m P rest → (n : ℕ) (x : X) → fin.get m n ≡ Some x → P x → ⊥
  left_end m P rest e h n x is p = subst (λ l. IsOneOf l (n, x)) e (h.left n x is p)

  len_some : (m : FinMap nat_cmp X) (n : ℕ) (x : X) → fin.get m n ≡ Some x → 0 < fin.len m
  len_some m n x is = by (entries m) (found_in (entries m) n x (sym (get-entries m n) ∙ is)) (len-entries m)
    where
      by : (es : List (ℕ × X)) → IsOneOf es (n, x) → fin.len m ≡ length es → 0 < fin.len m
      by [] i e = absurd i
      by (y ∷ es) i e = omega (arith, e)

  pub shorter : (m : FinMap nat_cmp X) (n : ℕ) (x : X) → fin.get m n ≡ Some x → fin.len (fin.remove m n) < fin.len m
  shorter m n x is =
      let some : 0 < fin.len m = len_some m n x is in
      let less : fin.len (fin.remove m n) ≡ fin.len m - 1 = len-remove nat_cmp_total m n ∙ cond-true _ (fin.len m - 1) (fin.len m) (ap is_some is) in
      omega (arith, some, less)

  pub get_retained : (m : FinMap nat_cmp X) (p : ℕ → Bool) (q : ℕ) → fin.get (fin.retain_keys m p) q ≡ cond (p q) (fin.get m q) None
  get_retained m p q = get-retain_keys m p q (λ x t. ap p (sym (nat_cmp-IsAntisymmetric q x t)))

  -- keys that don't pass leave nothing out where none of them is there
  pub retained_all : (m : FinMap nat_cmp X) (p : ℕ → Bool) → ((n : ℕ) → p n ≡ false → fin.get m n ≡ None) → fin.retain_keys m p ≡ m
  retained_all m p none = same_map nat_cmp_total nat_cmp-IsAntisymmetric _ _ (λ q. get_retained m p q ∙ at q (cases_Bool (p q)))
    where
      at : (q : ℕ) → (p q ≡ true) ⊎ (p q ≡ false) → cond (p q) (fin.get m q) None ≡ fin.get m q
      at q (inl t) = cond-true (p q) _ _ t
      at q (inr f) = cond-false (p q) (fin.get m q) None f ∙ sym (none q f)

  pub removed_at : (m : FinMap nat_cmp X) (n q : ℕ) → n ≡ q → fin.get (fin.remove m n) q ≡ None
  removed_at m n q e = get-remove nat_cmp_total m n q ∙ cond-true _ None _ (subst (λ k. eq_by_cmp nat_cmp q k ≡ true) (sym e) (itself q))

  pub removed_beside : (m : FinMap nat_cmp X) (n q : ℕ) → eq_by_cmp nat_cmp q n ≡ false → fin.get (fin.remove m n) q ≡ fin.get m q
  removed_beside m n q f = get-remove nat_cmp_total m n q ∙ cond-false _ None _ f

  -- the entries of a map are what it has
  pub listed : (m : FinMap nat_cmp X) (es : List (ℕ × X)) → es ≡ entries m → (e : ℕ × X) → fin.get m e.0 ≡ Some e.1 → IsOneOf es e
  listed m es is e has = subst (λ l. IsOneOf l e) (sym is) (found_in (entries m) e.0 e.1 (sym (get-entries m e.0) ∙ has))

  pub has_listed : (m : FinMap nat_cmp X) (es : List (ℕ × X)) → es ≡ entries m → IsStrictlySortedBy nat_cmp (fin.keys m) → (e : ℕ × X) → IsOneOf es e → fin.get m e.0 ≡ Some e.1
  has_listed m es is s e i = get-entries m e.0 ∙ find_in (entries m) e.0 e.1 s (subst (λ l. IsOneOf l e) is i)
