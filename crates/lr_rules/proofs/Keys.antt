-- What a view, or a table by numbers, has at a key after a change at one.
use Rattle.std.proofs.Common.{◌≡◌, ◌≢◌, ℕ, List, Option, Some, None, IsSome, sym, ap, subst, ◌∙◌, inl, inr}
use mathlib.Core.Logic.{◌⊎◌}
use Rattle.std.specs.Ordering.{nat_cmp}
use Rattle.std.proofs.lemmas.Cmp.{nat_cmp_total}
use Rattle.std.specs.FinMap as fin
use Rattle.std.specs.FinMap.{FinMap, nat_cmp-IsAntisymmetric, same_map}
use Rattle.lr_origin.specs.Kind.{kind_cmp, kind_total, kind_exact}
use Rattle.lr_origin.specs.declared.key.KeyKind.{KeyKind}
use Rattle.lr_origin.specs.declared.key.KeyKind.TheVariants.{Withdrawn}
use Rattle.lr_rules.proofs.Maps.{cases, put_there, put_beside, gone, gone_beside}

pub no_some : {X : Type 0} (o : Option X) → o ≡ None → IsSome o → ⊥
no_some {X = X} o e h = let i : IsSome {T = X} None = subst IsSome e h in cc

pub cases_key : (q k : KeyKind) → (q ≡ k) ⊎ (q ≢ k)
cases_key = cases kind_cmp kind_total kind_exact

pub cases_image : (i image : List ℕ) → (i ≡ image) ⊎ (i ≢ image)
cases_image i image = elim (cases_key (Withdrawn i) (Withdrawn image)) [ inl e ↦ inl cc | inr ne ↦ inr (λ e. ne (ap Withdrawn e)) ]

pub cases_n : (q k : ℕ) → (q ≡ k) ⊎ (q ≢ k)
cases_n = cases nat_cmp nat_cmp_total nat_cmp-IsAntisymmetric

module _ {X : Type 0} where
  pub at_key : (v : FinMap kind_cmp X) (k : KeyKind) (x : X) → fin.get (fin.insert v k x) k ≡ Some x
  at_key = put_there kind_cmp kind_total kind_exact

  pub at_other : (v : FinMap kind_cmp X) (k : KeyKind) (x : X) (q : KeyKind) → q ≢ k → fin.get (fin.insert v k x) q ≡ fin.get v q
  at_other = put_beside kind_cmp kind_total kind_exact

  pub gone_key : (v : FinMap kind_cmp X) (k : KeyKind) → fin.get (fin.remove v k) k ≡ None
  gone_key = gone kind_cmp kind_total kind_exact

  pub gone_other : (v : FinMap kind_cmp X) (k q : KeyKind) → q ≢ k → fin.get (fin.remove v k) q ≡ fin.get v q
  gone_other = gone_beside kind_cmp kind_total kind_exact

  -- what is left was there
  pub was_there : (v : FinMap kind_cmp X) (k q : KeyKind) → IsSome (fin.get (fin.remove v k) q) → IsSome (fin.get v q)
  was_there v k q has = elim (cases_key q k) [
    | inl e ↦ absurd (no_some _ (ap (fin.get (fin.remove v k)) e ∙ gone_key v k) has)
    | inr ne ↦ subst IsSome (gone_other v k q ne) has
  ]

  pub put_back : (v : FinMap kind_cmp X) (k : KeyKind) (x : X) → fin.get v k ≡ Some x → v ≡ fin.insert (fin.remove v k) k x
  put_back v k x e = same_map kind_total kind_exact _ _ (λ q. by q (cases_key q k))
    where
      by : (q : KeyKind) → (q ≡ k) ⊎ (q ≢ k) → fin.get v q ≡ fin.get (fin.insert (fin.remove v k) k x) q
      by q (inl s) = subst (λ l. fin.get v l ≡ fin.get (fin.insert (fin.remove v k) k x) l) (sym s) (e ∙ sym (at_key _ k x))
      by q (inr ne) = sym (at_other (fin.remove v k) k x q ne ∙ gone_other v k q ne)

  pub at_n : (v : FinMap nat_cmp X) (k : ℕ) (x : X) → fin.get (fin.insert v k x) k ≡ Some x
  at_n = put_there nat_cmp nat_cmp_total nat_cmp-IsAntisymmetric

  pub other_n : (v : FinMap nat_cmp X) (k : ℕ) (x : X) (q : ℕ) → q ≢ k → fin.get (fin.insert v k x) q ≡ fin.get v q
  other_n = put_beside nat_cmp nat_cmp_total nat_cmp-IsAntisymmetric

  pub gone_n : (v : FinMap nat_cmp X) (k : ℕ) → fin.get (fin.remove v k) k ≡ None
  gone_n = gone nat_cmp nat_cmp_total nat_cmp-IsAntisymmetric

  pub gone_other_n : (v : FinMap nat_cmp X) (k q : ℕ) → q ≢ k → fin.get (fin.remove v k) q ≡ fin.get v q
  gone_other_n = gone_beside nat_cmp nat_cmp_total nat_cmp-IsAntisymmetric
