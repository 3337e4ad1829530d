-- Counts of those that pass.
use Rattle.std.proofs.Common.{◌≡◌, ◌<◌, ◌≤◌, ◌++◌, ◌||◌, ℕ, Bool, true, false, nat_eq, List, [], ◌∷◌, length, refl, sym, ap, ◌∙◌, inl, inr, arith}
use mathlib.Core.Logic.{◌⊎◌}
use Rattle.std.specs.List.{list_any}
use Rattle.std.specs.Cmp.Lexicographic.{pointwise, bytes_decides}
use Rattle.std.proofs.lemmas.Bool.{cases_Bool}
use Rattle.lr_roots.specs.Names.{IsOneOf, AreApart, AreMany, AreFewer}
use Rattle.lr_roots.proofs.Fewer.{not_longer}

right_of : {P Q R : Type 0} → Q ⊎ R → (P ⊎ Q) ⊎ R
right_of (inl q) = inl (inr q)
right_of (inr r) = inr r

module _ {A : Type 0} where
  pub one_left : (xs ys : List A) (x : A) → IsOneOf xs x → IsOneOf (xs ++ ys) x
  one_left [] ys x i = absurd i
  one_left (y ∷ xs) ys x (inl e) = inl e
  one_left (y ∷ xs) ys x (inr i) = inr (one_left xs ys x i)

  pub one_right : (xs ys : List A) (x : A) → IsOneOf ys x → IsOneOf (xs ++ ys) x
  one_right [] ys x i = i
  one_right (y ∷ xs) ys x i = inr (one_right xs ys x i)

  pub one_either : (xs ys : List A) (x : A) → IsOneOf (xs ++ ys) x → IsOneOf xs x ⊎ IsOneOf ys x
  one_either [] ys x i = inr i
  one_either (y ∷ xs) ys x (inl e) = inl (inl e)
  one_either (y ∷ xs) ys x (inr i) = right_of (one_either xs ys x i)

  -- lists without repeats that share nothing, joined
  pub apart_joined : (xs ys : List A) → AreApart xs → AreApart ys → ((x : A) → IsOneOf xs x → IsOneOf ys x → ⊥) → AreApart (xs ++ ys)
  apart_joined [] ys a b none = b
  apart_joined (x ∷ xs) ys a b none = (λ i. twice (one_either xs ys x i), apart_joined xs ys a.1 b (λ y i j. none y (inr i) j))
    where
      twice : IsOneOf xs x ⊎ IsOneOf ys x → ⊥
      twice (inl i) = a.0 i
      twice (inr j) = none x (inl refl) j

  -- so many are fewer than a greater number
  pub fewer_of_many : (P : A → Type 0) (n most : ℕ) → AreMany P n → n < most → AreFewer P most
  fewer_of_many P n most many less some each apart =
      let short : length some ≤ length many.each = not_longer some many.each apart (λ x i. (many.just x).1 (each x i)) in
      omega (arith, less, many.long, short)

  -- where so many are enough, a list shows it
  pub enough_of_many : (P : A → Type 0) (n most : ℕ) → AreMany P n → most ≤ n → (some : List A) × ((x : A) → IsOneOf some x → P x) × AreApart some × (most ≤ length some)
  enough_of_many P n most many le = (many.each, λ x i. (many.just x).0 i, many.apart, omega (arith, le, many.long))

-- the test by bytes tells whether one of the list is the text
pub any_text : (xs : List (List ℕ)) (x : List ℕ) → list_any (λ y. pointwise nat_eq y x) xs ≡ true → IsOneOf xs x
any_text [] x e = cc
any_text (y ∷ xs) x e = by (any_text xs x) (cases_Bool (pointwise nat_eq y x))
  where
    by : (list_any (λ z. pointwise nat_eq z x) xs ≡ true → IsOneOf xs x) → (pointwise nat_eq y x ≡ true) ⊎ (pointwise nat_eq y x ≡ false) → IsOneOf (y ∷ xs) x
    by later (inl t) = inl (sym ((bytes_decides y x).0 t))
    by later (inr f) = inr (later (ap (λ b. b || list_any (λ z. pointwise nat_eq z x) xs) (sym f) ∙ e))

or_true : (a b : Bool) → b ≡ true → a || b ≡ true
or_true true b e = refl
or_true false b e = e

pub text_any : (xs : List (List ℕ)) (x : List ℕ) → IsOneOf xs x → list_any (λ y. pointwise nat_eq y x) xs ≡ true
text_any [] x i = absurd i
text_any (y ∷ xs) x (inl e) = ap (λ b. b || list_any (λ z. pointwise nat_eq z x) xs) ((bytes_decides y x).1 (sym e))
text_any (y ∷ xs) x (inr i) = or_true _ _ (text_any xs x i)
