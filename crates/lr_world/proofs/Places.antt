-- A list with another element at one place, and logs of one call.
use Rattle.std.proofs.Common.{◌≡◌, ◌<◌, ℕ, zero, suc, List, [], ◌∷◌, ◌++◌, length, Bool, true, false, Some, slice_get, arith, refl, ap, sym, subst}
use Rattle.std.specs.Prelude.{◌≢◌, MatchBool}
use Rattle.std.proofs.Math.ListN.{set}
use Rattle.std.proofs.lemmas.Grind.{common_steps}
use Rattle.lr_object.specs.declared.entry.Entry.{Entry}
use Rattle.lr_object.specs.Kept.{Sized}
use Rattle.lr_replies.specs.Objects.{IsReplaced, Logs, LogsAt}

pub at_same : {X : Type 0} (xs : List X) (n : ℕ) (x : X) → n < length xs → slice_get (set xs n x) n ≡ Some x
at_same [] n x h = absurd (omega arith)
at_same (y ∷ xs) zero x h = refl
at_same (y ∷ xs) (suc n) x h = at_same xs n x (omega arith)

pub at_other : {X : Type 0} (xs : List X) (n : ℕ) (x : X) (i : ℕ) → i ≢ n → slice_get (set xs n x) i ≡ slice_get xs i
at_other [] n x i h = refl
at_other (y ∷ xs) zero x zero h = absurd (h refl)
at_other (y ∷ xs) zero x (suc i) h = refl
at_other (y ∷ xs) (suc n) x zero h = refl
at_other (y ∷ xs) (suc n) x (suc i) h = at_other xs n x i (λ e. h (ap suc e))

pub replaced : {X : Type 0} (xs : List X) (n : ℕ) (x : X) → n < length xs → IsReplaced xs n x (set xs n x)
replaced xs n x h = record { here = at_same xs n x h; others = at_other xs n x; many = grind (arith, common_steps) }

pub logs_by : {N T : Type 0} (b : Bool) (enters shares : Entry N T → Type 0) (caller : ℕ) (old new : List (Entry N T))
    → MatchBool b ((e : Entry N T) × (new ≡ old ++ e ∷ []) × (e.caller ≡ caller) × enters e × shares e) (new ≡ old) → Logs b enters caller old new
logs_by true enters shares caller old new h = (h.0, h.1, h.2, h.3)
logs_by false enters shares caller old new h = h

-- the object at this place logged a call
pub logs_at : {N T : Type 0} (xs : List (Sized N T)) (n : ℕ) (b : Bool) (enters : Sized N T → Entry N T → Type 0) (shares : Entry N T → Type 0) (caller : ℕ) (was new : Sized N T)
    → slice_get xs n ≡ Some was → n < length xs → new.capacity ≡ was.capacity
    → MatchBool b ((e : Entry N T) × (new.log ≡ was.log ++ e ∷ []) × (e.caller ≡ caller) × enters was e × shares e) (new.log ≡ was.log)
    → LogsAt xs n b enters caller (set xs n new)
logs_at {N} {T} xs n b enters shares caller was new got h fixed logged =
    let here : IsReplaced xs n (record { capacity = was.capacity; log = new.log }) (set xs n (record { capacity = was.capacity; log = new.log })) = replaced xs n (record { capacity = was.capacity; log = new.log }) h in (
      was,
      new.log,
      got,
      logs_by b (enters was) shares caller was.log new.log logged,
      subst (λ (k : ℕ). IsReplaced xs n (record { capacity = was.capacity; log = new.log }) (set xs n (record { capacity = k; log = new.log }))) (sym fixed) here,
    )
