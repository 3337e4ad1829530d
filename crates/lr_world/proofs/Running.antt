-- Runs of steps.
use Rattle.std.proofs.Common.{◌≡◌, ◌+◌, ℕ, zero, suc, List, [], ◌∷◌, ◌++◌, take, Option, Some, slice_get, refl, ap, sym, subst, ◌∙◌, append-nil, append_assoc, arith}
use Rattle.std.specs.Prelude.{replicate}
use Rattle.lr_origin.specs.Objects.{Objects as Stored}
use Rattle.lr_world.specs.World.{Seen, Steps}
use Rattle.lr_world.specs.Runs.{Runs, none, more, listed}

module _ {O : Type 0} (objects : O → Option Stored) (faults : O → ℕ) where
  -- one run after another
  pub runs_on : {old mid new : Seen O} {xs ys : List ℕ} → Runs objects faults old xs mid → Runs objects faults mid ys new → Runs objects faults old (xs ++ ys) new
  runs_on {old} {mid} {new} {xs} {ys} a none = subst (λ (l : List ℕ). Runs objects faults old l mid) (sym (append-nil xs)) a
  runs_on {old} {mid} {new} {xs} {ys} a (more {steps = steps} b number s) =
      subst (λ (l : List ℕ). Runs objects faults old l new) (append_assoc xs steps (number ∷ [])) (more (runs_on a b) number s)

  -- one step
  pub runs_one : {old new : Seen O} (number : ℕ) → Steps objects faults old number new → Runs objects faults old (number ∷ []) new
  runs_one number s = more none number s

-- so many of one number, and one more
pub replicate_more : (n x : ℕ) → replicate n x ++ x ∷ [] ≡ replicate (n + 1) x
replicate_more n x = by n ∙ (let e : suc n ≡ n + 1 = omega arith in ap (λ (k : ℕ). replicate k x) e)
  where
    by : (n : ℕ) → replicate n x ++ x ∷ [] ≡ replicate (suc n) x
    by zero = refl
    by (suc n) = ap (λ (l : List ℕ). x ∷ l) (by n)

-- the pairs so far, and one more
pub listed_more : (pairs : List (ℕ × ℕ)) (i : ℕ) (p : ℕ × ℕ) → slice_get pairs i ≡ Some p → listed (take i pairs) ++ replicate p.1 p.0 ≡ listed (take (i + 1) pairs)
listed_more pairs i p e = by pairs i e ∙ (let k : suc i ≡ i + 1 = omega arith in ap (λ (n : ℕ). listed (take n pairs)) k)
  where
    by : (pairs : List (ℕ × ℕ)) (i : ℕ) → slice_get pairs i ≡ Some p → listed (take i pairs) ++ replicate p.1 p.0 ≡ listed (take (suc i) pairs)
    by [] i e = absurd (cc)
    by (q ∷ pairs) zero e = let same : q ≡ p = cc in ap (λ (x : ℕ × ℕ). replicate x.1 x.0) (sym same) ∙ sym (append-nil (replicate q.1 q.0))
    by (q ∷ pairs) (suc i) e = append_assoc (replicate q.1 q.0) (listed (take i pairs)) (replicate p.1 p.0) ∙ ap (λ (l : List ℕ). replicate q.1 q.0 ++ l) (by pairs i e)
