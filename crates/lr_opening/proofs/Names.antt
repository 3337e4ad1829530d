-- One key more names at most one image more.
use Rattle.std.proofs.Common.{◌≡◌, ◌<◌, ◌≤◌, ◌+◌, ℕ, true, false, arith, List, [], ◌∷◌, length, Some, IsSome, refl, sym, subst, ◌∙◌, inl, inr}
use mathlib.Core.Logic.{◌⊎◌}
use Rattle.std.specs.Ordering.{eq_by_cmp}
use Rattle.std.proofs.lemmas.Bool.{cases_Bool, cond-false}
use Rattle.std.specs.FinMap as map
use Rattle.std.specs.FinMap.{get-empty, get-insert}
use Rattle.lr_origin.specs.Kind.{kind_cmp, kind_total}
use Rattle.lr_origin.specs.declared.key.KeyKind.{KeyKind}
use Rattle.lr_origin.specs.declared.key.KeyKind.TheVariants.{Root, Expired, Deleted, Chunk, Manifest, Withdrawn}
use Rattle.lr_roots.specs.View.{View, Held}
use Rattle.lr_roots.specs.Names.{IsOneOf, AreApart, AreFewer, Names, IsNamed}
use Rattle.lr_roots.proofs.Trees.{same_key}
use Rattle.lr_roots.proofs.Named.{name_in}
use Rattle.lr_roots.proofs.Fewer.{not_longer}
use Rattle.lr_opening.proofs.Decided.{Decided, same_list, not_none}

pub fewer_within : {A : Type 0} (P : A → Type 0) (n most : ℕ) → AreFewer P n → n ≤ most → AreFewer P most
fewer_within P n most few le some each apart = let less : length some < n = few some each apart in omega (arith, less, le)

-- the list without x
others : (x y : List ℕ) (ys : List (List ℕ)) → Decided (y ≡ x) → List (List ℕ)
others x y ys (inl e) = ys
others x y ys (inr not) = y ∷ ys

without : (x : List ℕ) → List (List ℕ) → List (List ℕ)
without x [] = []
without x (y ∷ ys) = others x y (without x ys) (same_list y x)

module _ (x : List ℕ) where
  one_of_others : (y : List ℕ) (ys rest : List (List ℕ)) (z : List ℕ) (d : Decided (y ≡ x)) → (IsOneOf rest z → IsOneOf ys z × (z ≡ x → ⊥)) → IsOneOf (others x y rest d) z → IsOneOf (y ∷ ys) z × (z ≡ x → ⊥)
  unfolding others
  one_of_others y ys rest z (inl e) h i = (inr (h i).0, (h i).1)
  one_of_others y ys rest z (inr not) h (inl same) = (inl same, λ e. not (sym same ∙ e))
  one_of_others y ys rest z (inr not) h (inr i) = (inr (h i).0, (h i).1)

  one_before : (ys : List (List ℕ)) (z : List ℕ) → IsOneOf (without x ys) z → IsOneOf ys z × (z ≡ x → ⊥)
  unfolding without
  one_before [] z i = absurd i
  one_before (y ∷ ys) z i = one_of_others y ys (without x ys) z (same_list y x) (one_before ys z) i

  apart_others : (y : List ℕ) (rest : List (List ℕ)) (d : Decided (y ≡ x)) → (IsOneOf rest y → ⊥) → AreApart rest → AreApart (others x y rest d)
  unfolding others
  apart_others y rest (inl e) not apart = apart
  apart_others y rest (inr other) not apart = (not, apart)

  still_apart : (ys : List (List ℕ)) → AreApart ys → AreApart (without x ys)
  unfolding without
  still_apart [] apart = tt
  still_apart (y ∷ ys) apart = apart_others y (without x ys) (same_list y x) (λ i. apart.0 (one_before ys y i).0) (still_apart ys apart.1)

  one_in_others : (y : List ℕ) (ys rest : List (List ℕ)) (z : List ℕ) (d : Decided (y ≡ x)) → (IsOneOf ys z → IsOneOf (x ∷ rest) z) → IsOneOf (y ∷ ys) z → IsOneOf (x ∷ others x y rest d) z
  unfolding others
  one_in_others y ys rest z (inl e) h (inl same) = inl (same ∙ e)
  one_in_others y ys rest z (inl e) h (inr i) = h i
  one_in_others y ys rest z (inr not) h (inl same) = inr (inl same)
  one_in_others y ys rest z (inr not) h (inr i) = elim (h i) [ inl e ↦ inl e | inr j ↦ inr (inr j) ]

  one_after : (ys : List (List ℕ)) (z : List ℕ) → IsOneOf ys z → IsOneOf (x ∷ without x ys) z
  unfolding without
  one_after [] z i = absurd i
  one_after (y ∷ ys) z i = one_in_others y ys (without x ys) z (same_list y x) (one_after ys z) i

names_this : (key : KeyKind) (x : List ℕ) → Names key x → x ≡ name_in key
unfolding name_in
names_this (Manifest r i) x e = sym e
names_this (Withdrawn i) x e = sym e
names_this (Root r) x e = absurd e
names_this (Expired r) x e = absurd e
names_this (Deleted r) x e = absurd e
names_this (Chunk r n) x e = absurd e

pub fewer_inserted : (v : View) (key : KeyKind) (held : Held) (n : ℕ) → AreFewer (IsNamed v) n → AreFewer (IsNamed (map.insert v key held)) (n + 1)
fewer_inserted v key held n few some each apart =
    let rest : List (List ℕ) = without (name_in key) some in
    let short : length some ≤ length (name_in key ∷ rest) = not_longer some (name_in key ∷ rest) apart (λ x i. one_after (name_in key) some x i) in
    let less : length rest < n = few rest before (still_apart (name_in key) some apart) in
    omega (arith, short, less)
  where
    named_before : (x : List ℕ) → IsNamed (map.insert v key held) x → (x ≡ name_in key → ⊥) → IsNamed v x
    named_before x named other = by (cases_Bool (eq_by_cmp kind_cmp named.0 key))
      where
        by : (eq_by_cmp kind_cmp named.0 key ≡ true) ⊎ (eq_by_cmp kind_cmp named.0 key ≡ false) → IsNamed v x
        by (inl y) = absurd (other (names_this key x (subst (λ k. Names k x) (same_key named.0 key y) named.2)))
        by (inr f) = (named.0, subst IsSome (get-insert kind_total v key held named.0 ∙ cond-false _ (Some held) _ f) named.1, named.2)

    before : (x : List ℕ) → IsOneOf (without (name_in key) some) x → IsNamed v x
    before x i = let h = one_before (name_in key) some x i in named_before x (each x h.0) h.1

-- nothing has no name
pub fewer_empty : AreFewer (IsNamed map.empty) 1
fewer_empty [] each apart = omega arith
fewer_empty (x ∷ xs) each apart = let named : IsNamed map.empty x = each x (inl refl) in absurd (not_none (map.get map.empty named.0) (get-empty kind_cmp named.0) named.1)
