-- What can be decided: keys of a view, lists of numbers, roots with a property.
use Rattle.std.proofs.Common.{◌≡◌, ◌<◌, ◌≤◌, ℕ, zero, suc, arith, List, [], ◌∷◌, get_or, Option, Some, None, IsSome, refl, sym, ap, subst, ◌∙◌, inl, inr, All, true, false}
use mathlib.Core.Logic.{◌⊎◌}
use Rattle.std.specs.FinMap as map
use Rattle.std.specs.Ordering.{eq_by_cmp}
use Rattle.std.proofs.lemmas.Bool.{cases_Bool, false≢true}
use Rattle.lr_origin.specs.Kind.{kind_cmp}
use Rattle.lr_roots.proofs.Trees.{same_key}
use Rattle.lr_roots.proofs.Aside.{itself}
use Rattle.lr_origin.specs.declared.key.KeyKind.{KeyKind}
use Rattle.lr_roots.specs.View.{View, Held, Has, Lacks}

-- it holds, or it doesn't
abbrev pub Decided : Type 0 → Type 0
Decided P = P ⊎ (P → ⊥)

module _ {A : Type 0} where
  pub some_of : (o : Option A) → IsSome o → (x : A) × (o ≡ Some x)
  some_of (Some x) some = (x, refl)
  some_of None some = absurd cc

  pub is_some : (o : Option A) (x : A) → o ≡ Some x → IsSome o
  is_some o x e = subst IsSome (sym e) refl

  pub not_none : (o : Option A) → o ≡ None → IsSome o → ⊥
  not_none o e some = let h : IsSome {T = A} None = subst IsSome e some in cc

  pub not_both : (o : Option A) (x : A) → o ≡ None → o ≡ Some x → ⊥
  not_both o x e f = not_none o e (is_some o x f)

  pub one_inside : (x y : A) → Some x ≡ Some y → x ≡ y
  one_inside x y e = cc

pub has_or_lacks : (v : View) (k : KeyKind) → Has v k ⊎ Lacks v k
has_or_lacks v k = by (map.get v k) refl
  where
    by : (o : Option Held) → map.get v k ≡ o → Has v k ⊎ Lacks v k
    by (Some x) e = inl (is_some (map.get v k) x e)
    by None e = inr e

pub has_not_lacks : (v : View) (k : KeyKind) → Lacks v k → Has v k → ⊥
has_not_lacks v k lacks has = not_none (map.get v k) lacks has

-- what isn't lacked is there
pub is_there : (v : View) (k : KeyKind) → (Lacks v k → ⊥) → Has v k
is_there v k not = by (has_or_lacks v k)
  where
    by : Has v k ⊎ Lacks v k → Has v k
    by (inl has) = has
    by (inr lacks) = absurd (not lacks)

pub isnt_there : (v : View) (k : KeyKind) → (Has v k → ⊥) → Lacks v k
isnt_there v k not = by (has_or_lacks v k)
  where
    by : Has v k ⊎ Lacks v k → Lacks v k
    by (inl has) = absurd (not has)
    by (inr lacks) = lacks

-- one kind, or two
pub same_kind : (j k : KeyKind) → Decided (j ≡ k)
same_kind j k = by (cases_Bool (eq_by_cmp kind_cmp j k))
  where
    by : (eq_by_cmp kind_cmp j k ≡ true) ⊎ (eq_by_cmp kind_cmp j k ≡ false) → Decided (j ≡ k)
    by (inl e) = inl (same_key j k e)
    by (inr f) = inr (λ e. false≢true (sym f ∙ ap (eq_by_cmp kind_cmp j) (sym e) ∙ itself j))

same_number : (a b : ℕ) → Decided (a ≡ b)
same_number a b = grind arith

pub same_list : (xs ys : List ℕ) → Decided (xs ≡ ys)
same_list [] [] = inl refl
same_list [] (y ∷ ys) = inr (λ e. cc)
same_list (x ∷ xs) [] = inr (λ e. cc)
same_list (x ∷ xs) (y ∷ ys) = by (same_number x y) (same_list xs ys)
  where
    by : Decided (x ≡ y) → Decided (xs ≡ ys) → Decided (x ∷ xs ≡ y ∷ ys)
    by (inl e) (inl f) = inl (λ i. e i ∷ f i)
    by (inr not) f = inr (λ h. let e : x ≡ y = cc in not e)
    by (inl e) (inr not) = inr (λ h. let f : xs ≡ ys = cc in not f)

module _ (P : ℕ → Type 0) (decide : (n : ℕ) → Decided (P n)) where
  -- the greatest number up to this one that has the property
  abbrev Greatest : ℕ → Type 0
  Greatest most = (r : ℕ) × (r ≤ most) × P r × ((q : ℕ) → r < q → q ≤ most → P q → ⊥)

  pub greatest : (most : ℕ) → Greatest most ⊎ ((q : ℕ) → q ≤ most → P q → ⊥)
  greatest zero = by (decide zero)
    where
      by : Decided (P zero) → Greatest zero ⊎ ((q : ℕ) → q ≤ zero → P q → ⊥)
      by (inl p) = inl (zero, omega arith, p, λ q more most _. omega (arith, more, most))
      by (inr not) = inr (λ q most p. not (subst P (omega (arith, most)) p))
  greatest (suc n) = by (decide (suc n)) (greatest n)
    where
      split : (q : ℕ) → q ≤ suc n → (q ≤ n) ⊎ (q ≡ suc n)
      split q most = grind (arith, most)

      by : Decided (P (suc n)) → Greatest n ⊎ ((q : ℕ) → q ≤ n → P q → ⊥) → Greatest (suc n) ⊎ ((q : ℕ) → q ≤ suc n → P q → ⊥)
      by (inl p) below = inl (suc n, omega arith, p, λ q more most _. omega (arith, more, most))
      by (inr not) (inl h) = inl (h.0, omega (arith, h.1), h.2, λ q more most p. elim (split q most) [ inl l ↦ h.3 q more l p | inr e ↦ not (subst P e p) ])
      by (inr not) (inr none) = inr (λ q most p. elim (split q most) [ inl l ↦ none q l p | inr e ↦ not (subst P e p) ])

  -- the least one, where one has the property
  abbrev Least : ℕ → Type 0
  Least most = (r : ℕ) × (r < most) × P r × ((q : ℕ) → q < r → P q → ⊥)

  pub least : (most : ℕ) → Least most ⊎ ((q : ℕ) → q < most → P q → ⊥)
  least zero = inr (λ q less p. omega (arith, less))
  least (suc n) = by (least n) (decide n)
    where
      split : (q : ℕ) → q < suc n → (q < n) ⊎ (q ≡ n)
      split q less = grind (arith, less)

      by : Least n ⊎ ((q : ℕ) → q < n → P q → ⊥) → Decided (P n) → Least (suc n) ⊎ ((q : ℕ) → q < suc n → P q → ⊥)
      by (inl h) d = inl (h.0, omega (arith, h.1), h.2, h.3)
      by (inr none) (inl p) = inl (n, omega arith, p, none)
      by (inr none) (inr not) = inr (λ q less p. elim (split q less) [ inl l ↦ none q l p | inr e ↦ not (subst P e p) ])

-- Where it can't be that not each passes, each does.
pub all_stable : {A : Type 0} (P : A → Type 0) (decide : (x : A) → Decided (P x)) (xs : List A) → ((All P xs → ⊥) → ⊥) → All P xs
all_stable P decide xs not = λ k d below. elim (decide (get_or xs k d)) [ inl p ↦ p | inr none ↦ absurd (not (λ all. none (all k d below))) ]
