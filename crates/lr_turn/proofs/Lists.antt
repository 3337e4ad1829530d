-- Lists, prefixes, and the seats of numbers.
use Rattle.std.proofs.lemmas.Cmp.{nat_eq_equiv}
use Rattle.std.proofs.lemmas.Map.Keys.{IsDistinct-push}
use Rattle.std.proofs.lemmas.Map.Made.{IsDistinct-from_count}
use Rattle.std.proofs.lemmas.List.Elements.{All-weaker}
use Rattle.std.proofs.lemmas.List.Folds.{list_any_none}
use Rattle.std.specs.List.{IsDistinct}
use Rattle.std.specs.Bool.{nat_eq}
use Rattle.std.specs.Prelude.{All, ◌==◌, false}
use Rattle.std.proofs.Common.{◌≡◌, ◌≢◌, ℕ, ◌<◌, ◌≤◌, ◌⊎◌, eqb, cond, List, [], ◌∷◌, ◌++◌, length, set, sym, refl, ap, ◌∙◌, inl, inr, ⊎_elim, arith, Option, Some, None, Bool, length-append, append_assoc, append-nil, eq-eqb, ne_eqb, zero, suc, max}
use mathlib.Core.Logic.{dite}
use mathlib.Core.Option.{none, some, some-ne-none, some-injective}
use mathlib.Core.Option as maybe
use mathlib.Core.List.{IsPrefix}
use native.Mathlib.Decide.{ℕ_discrete}
use lib.ListN.{get_elem?}
use Rattle.atomic_table.proofs.Lists.{at_last}
use Rattle.lr_turn.specs.Views.{longer}

module _ {A : Type 0} where
  pub at_below : (l : List A) (i : ℕ) (a : A) → get_elem? l i ≡ some a → i < length l
  at_below [] i a e = absurd (some-ne-none a (sym e))
  at_below (x ∷ xs) zero a e = omega arith
  at_below (x ∷ xs) (suc i) a e = let h = at_below xs i a e in omega (arith, h)

  abbrev the_or : A → Option A → A
  the_or d (Some x) = x
  the_or d None = d

  pub Some_same : (a b : A) → Some a ≡ Some b → a ≡ b
  Some_same a b e = ap (the_or a) e

  pub one_set : (l : List A) (a : A) → length l ≡ 1 → set l 0 a ≡ a ∷ []
  one_set [] a e = absurd (omega (arith, e))
  one_set (x ∷ []) a e = refl
  one_set (x ∷ y ∷ l) a e = absurd (omega (arith, e))

  pub last_same : (l : List A) (a b : A) → l ++ a ∷ [] ≡ l ++ b ∷ [] → a ≡ b
  last_same l a b e =
      some-injective a b (sym (at_last l a (length l) refl) ∙ (ap (λ (m : List A). get_elem? m (length l)) e ∙ at_last l b (length l) refl))

  pub at_snoc_at : (l : List A) (a b : A) (j : ℕ) → get_elem? (l ++ a ∷ []) j ≡ some b → (get_elem? l j ≡ some b) ⊎ ((j ≡ length l) × (a ≡ b))
  at_snoc_at [] a b zero e = inr (refl, some-injective a b e)
  at_snoc_at [] a b (suc j) e = absurd (some-ne-none b (sym e))
  at_snoc_at (x ∷ xs) a b zero e = inl e
  at_snoc_at (x ∷ xs) a b (suc j) e = ⊎_elim (λ h. inl h) (λ h. inr (ap suc h.0, h.1)) (at_snoc_at xs a b j e)

  pub at_one : (v w : A) (i : ℕ) → get_elem? (v ∷ []) i ≡ some w → (i ≡ 0) × (v ≡ w)
  at_one v w zero e = (refl, some-injective v w e)
  at_one v w (suc i) e = absurd (some-ne-none w (sym e))

  pub prefix_self : (xs ys : List A) → xs ≡ ys → IsPrefix xs ys
  prefix_self xs ys e = ([], append-nil xs ∙ e)

  pub prefix_more : (xs ys zs : List A) → IsPrefix xs ys → IsPrefix xs (ys ++ zs)
  prefix_more xs ys zs p = (p.0 ++ zs, sym (append_assoc xs p.0 zs) ∙ ap (λ w. w ++ zs) p.1)

  pub prefix_length : (xs ys : List A) → IsPrefix xs ys → length xs ≤ length ys
  prefix_length xs ys p = let h : length (xs ++ p.0) ≡ length ys = ap (λ (l : List A). length l) p.1 in omega (arith, length-append xs p.0, h)

  pub longer_is : (xs ys : List A) → (longer xs ys ≡ xs) ⊎ (longer xs ys ≡ ys)
  longer_is xs ys = dite (ℕ_discrete (length xs) (max (length xs) (length ys)))
      (λ e. inl (ap (λ (b : Bool). cond b xs ys) (eq-eqb (length xs) (max (length xs) (length ys)) e)))
      (λ ne. inr (ap (λ (b : Bool). cond b xs ys) (ne_eqb (length xs) (max (length xs) (length ys)) ne)))

-- a function with another value at n
abbrev pub put : {A : Type 0} → (ℕ → A) → ℕ → A → ℕ → A
put f n x m = cond (eqb m n) x (f m)

module _ {A : Type 0} where
  pub put_here : (f : ℕ → A) (n : ℕ) (x : A) (m : ℕ) → m ≡ n → put f n x m ≡ x
  put_here f n x m e = ap (λ (b : Bool). cond b x (f m)) (eq-eqb m n e)

  pub put_else : (f : ℕ → A) (n : ℕ) (x : A) (m : ℕ) → m ≢ n → put f n x m ≡ f m
  put_else f n x m ne = ap (λ (b : Bool). cond b x (f m)) (ne_eqb m n ne)

-- no two of these numbers are one
abbrev pub Apart : List ℕ → Type 0
Apart = IsDistinct (λ m n. m == n)

pub apart_one : Apart (0 ∷ [])
apart_one = IsDistinct-from_count {eq = nat_eq} nat_eq_equiv (0 ∷ []) refl

-- a number that differs from each of them
pub apart_more : (ns : List ℕ) (n : ℕ) → Apart ns → All (λ m. n ≢ m) ns → Apart (ns ++ n ∷ [])
apart_more ns n h differs = IsDistinct-push {eq = nat_eq} nat_eq_equiv ns n h
    (list_any_none (nat_eq n) ns (All-weaker (λ m. n ≢ m) (λ m. nat_eq n m ≡ false) (λ m ne. ne_eqb n m ne) ns differs))

pub put_none : (f : ℕ → maybe.Option ℕ) (n m : ℕ) → f m ≡ none → put f n none m ≡ none
put_none f n m e = dite (ℕ_discrete m n) (λ h. put_here f n none m h) (λ ne. put_else f n none m ne ∙ e)

pub put_some : (f : ℕ → maybe.Option ℕ) (n m i : ℕ) → put f n none m ≡ some i → f m ≡ some i
put_some f n m i e = dite (ℕ_discrete m n)
    (λ h. absurd (some-ne-none i (sym e ∙ put_here f n none m h)))
    (λ ne. sym (put_else f n none m ne) ∙ e)
