-- One key more names at most one image more.
use Rattle.std.proofs.Common.{◌≡◌, ◌<◌, ◌≤◌, ◌+◌, ℕ, true, false, arith, List, [], ◌∷◌, length, Some, IsSome, refl, sym, subst, ◌∙◌, inl, inr}
use mathlib.Core.Logic.{◌⊎◌}
use Rattle.std.specs.Ordering.{eq_by_cmp}
use Rattle.std.proofs.lemmas.Bool.{cases_Bool, cond-false}
use Rattle.std.specs.FinMap as fin
use Rattle.std.specs.FinMap.{get-insert}
use Rattle.lr_origin.specs.Kind.{kind_cmp, kind_total}
use Rattle.lr_origin.specs.declared.key.KeyKind.{KeyKind}
use Rattle.lr_origin.specs.declared.key.KeyKind.TheVariants.{Root, Expired, Deleted, Chunk, Manifest, Withdrawn}
use Rattle.lr_roots.specs.View.{View, Held}
use Rattle.lr_roots.specs.Names.{IsOneOf, AreApart, AreMany, AreFewer, Names, IsNamed}
use Rattle.lr_roots.proofs.Trees.{same_key}
use Rattle.lr_roots.proofs.Named.{name_in}

module _ {A : Type 0} where
  -- the list without the one that stands at this place
  without_one : (ys : List A) (x : A) → IsOneOf ys x → List A
  without_one [] x i = []
  without_one (y ∷ ys) x (inl e) = ys
  without_one (y ∷ ys) x (inr i) = y ∷ without_one ys x i

  one_shorter : (ys : List A) (x : A) (i : IsOneOf ys x) → length ys ≡ length (without_one ys x i) + 1
  unfolding without_one
  one_shorter [] x i = absurd i
  one_shorter (y ∷ ys) x (inl e) = omega arith
  one_shorter (y ∷ ys) x (inr i) = omega (arith, one_shorter ys x i)

  still : (ys : List A) (x : A) (i : IsOneOf ys x) (z : A) → IsOneOf ys z → (z ≡ x → ⊥) → IsOneOf (without_one ys x i) z
  unfolding without_one
  still [] x i z j other = absurd i
  still (y ∷ ys) x (inl e) z (inl f) other = absurd (other (f ∙ sym e))
  still (y ∷ ys) x (inl e) z (inr j) other = j
  still (y ∷ ys) x (inr i) z (inl f) other = inl f
  still (y ∷ ys) x (inr i) z (inr j) other = inr (still ys x i z j other)

  -- a list without repeats whose elements all stand in another isn't longer
  pub not_longer : (xs ys : List A) → AreApart xs → ((x : A) → IsOneOf xs x → IsOneOf ys x) → length xs ≤ length ys
  not_longer [] ys apart within = omega arith
  not_longer (x ∷ xs) ys apart within =
      let here : IsOneOf ys x = within x (inl refl) in
      let rest : length xs ≤ length (without_one ys x here) = not_longer xs (without_one ys x here) apart.1 (λ z i. still ys x here z (within z (inr i)) (λ e. apart.0 (subst (IsOneOf xs) e i))) in
      let one : length ys ≡ length (without_one ys x here) + 1 = one_shorter ys x here in
      omega (arith, rest, one)

names_this : (key : KeyKind) (x : List ℕ) → Names key x → x ≡ name_in key
unfolding name_in
names_this (Manifest r i) x e = sym e
names_this (Withdrawn i) x e = sym e
names_this (Root r) x e = absurd e
names_this (Expired r) x e = absurd e
names_this (Deleted r) x e = absurd e
names_this (Chunk r n) x e = absurd e

pub few_with : (v : View) (key : KeyKind) (held : Held) (n most : ℕ) → AreMany (IsNamed v) n → n + 1 < most → AreFewer (IsNamed (fin.insert v key held)) most
few_with v key held n most many room some each apart =
    let short : length some ≤ length (name_in key ∷ many.each) = not_longer some (name_in key ∷ many.each) apart (λ x i. within x (each x i)) in
    omega (arith, room, many.long, short)
  where
    within : (x : List ℕ) → IsNamed (fin.insert v key held) x → IsOneOf (name_in key ∷ many.each) x
    within x named = by (cases_Bool (eq_by_cmp kind_cmp named.0 key))
      where
        by : (eq_by_cmp kind_cmp named.0 key ≡ true) ⊎ (eq_by_cmp kind_cmp named.0 key ≡ false) → IsOneOf (name_in key ∷ many.each) x
        by (inl y) = inl (names_this key x (subst (λ k. Names k x) (same_key named.0 key y) named.2))
        by (inr other) = inr ((many.just x).1 (named.0, subst IsSome (get-insert kind_total v key held named.0 ∙ cond-false _ (Some held) _ other) named.1, named.2))
