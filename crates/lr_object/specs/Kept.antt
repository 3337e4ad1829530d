-- What a call leaves of an object that has a capacity.
use Rattle.std.specs.Prelude.{◌≡◌, ℕ, List, [], ◌∷◌, ◌++◌, Bool, MatchBool}
use Rattle.std.specs.Bool.{OnFalse}
use Rattle.lr_object.specs.declared.entry.Entry.{Entry}

-- an object of a capacity, as contracts see it
pub record Sized (N T : Type 0) : Type 0 where
  pub capacity : ℕ
  pub log : List (Entry N T)

-- The log has one entry more, of this caller, which may be kept; or the object is as it was, as far as callers can tell.
-- It is the one where the reply is logged.
pub record Keeps {N T : Type 0} (is_logged : Bool) (enters : Entry N T → Type 0) (old new : Sized N T) (caller : ℕ) : Type 0 where
  pub fixed : new.capacity ≡ old.capacity
  pub logged : MatchBool is_logged ((e : Entry N T) × (new.log ≡ old.log ++ e ∷ []) × (e.caller ≡ caller) × enters e × (Unit {0} → Unit {0})) (new.log ≡ old.log)
  pub unlogged : OnFalse is_logged (new ≡ old)
