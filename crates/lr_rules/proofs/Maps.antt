-- What a map has at a key after a change at one, under any order in which keys that compare alike are one.
use Rattle.std.proofs.Common.{◌≡◌, ◌≢◌, Bool, true, false, Some, None, refl, sym, subst, ◌∙◌, inl, inr}
use mathlib.Core.Logic.{◌⊎◌}
use Rattle.std.specs.Cmp.{IsTotalOrder}
use Rattle.std.specs.Ordering.{eq_by_cmp, is_eq}
use Rattle.std.specs.declared.cmp.Ordering.{Ordering}
use Rattle.std.specs.declared.cmp.Ordering.TheVariants.{Less, Equal, Greater}
use Rattle.std.proofs.lemmas.Bool.{cases_Bool, cond-true, cond-false}
use Rattle.std.proofs.lemmas.Cmp.{eq_by_cmp_equiv}
use Rattle.std.specs.FinMap as fin
use Rattle.std.specs.FinMap.{FinMap, IsAntisymmetric, get-insert, get-remove}

is_eq-Equal : (o : Ordering) → is_eq o ≡ true → o ≡ Equal
is_eq-Equal Less e = cc
is_eq-Equal Equal e = refl
is_eq-Equal Greater e = cc

module _ {K : Type 0} (cmp : K → K → Ordering) (total : IsTotalOrder cmp) (exact : IsAntisymmetric cmp) where
  same : (q k : K) → eq_by_cmp cmp q k ≡ true → q ≡ k
  same q k e = exact q k (is_eq-Equal _ e)

  itself : (k : K) → eq_by_cmp cmp k k ≡ true
  itself k = (eq_by_cmp_equiv total).refl k

  pub cases : (q k : K) → (q ≡ k) ⊎ (q ≢ k)
  cases q k =
      elim (cases_Bool (eq_by_cmp cmp q k)) [
        | inl y ↦ inl (same q k y)
        | inr n ↦ inr (λ e. apart (subst (λ l. eq_by_cmp cmp l k ≡ true) (sym e) (itself k)) n)
      ]
    where
      apart : {b : Bool} → b ≡ true → b ≡ false → ⊥
      apart p n = cc

  differ : (q k : K) → q ≢ k → eq_by_cmp cmp q k ≡ false
  differ q k ne =
      elim (cases_Bool (eq_by_cmp cmp q k)) [
        | inl y ↦ absurd (ne (same q k y))
        | inr n ↦ n
      ]

  module _ {X : Type 0} where
    pub put_there : (v : FinMap cmp X) (k : K) (x : X) → fin.get (fin.insert v k x) k ≡ Some x
    put_there v k x = get-insert total v k x k ∙ cond-true _ _ _ (itself k)

    pub put_beside : (v : FinMap cmp X) (k : K) (x : X) (q : K) → q ≢ k → fin.get (fin.insert v k x) q ≡ fin.get v q
    put_beside v k x q ne = get-insert total v k x q ∙ cond-false _ _ _ (differ q k ne)

    pub gone : (v : FinMap cmp X) (k : K) → fin.get (fin.remove v k) k ≡ None
    gone v k = get-remove total v k k ∙ cond-true _ _ _ (itself k)

    pub gone_beside : (v : FinMap cmp X) (k q : K) → q ≢ k → fin.get (fin.remove v k) q ≡ fin.get v q
    gone_beside v k q ne = get-remove total v k q ∙ cond-false _ _ _ (differ q k ne)
