-- What a failed change may leave, where the store inside answered anything.
use Rattle.std.proofs.Common.{◌≡◌, ℕ, List, Bool, true, Option, Some, None, Result, Ok, Err, inl, inr, sym, subst}
use mathlib.Core.Logic.{◌⊎◌}
use Rattle.std.specs.Prelude.{MatchBool}
use Rattle.std.specs.FinMap as map
use Rattle.lr_origin.specs.declared.origin.Put.{Put}
use Rattle.lr_origin.specs.declared.origin.Put.TheVariants.{Stored, Present}
use Rattle.lr_origin.specs.declared.origin.OriginError.{OriginError}
use Rattle.lr_origin.specs.declared.origin.OriginError.TheVariants.{Failed, OutOfMemory}
use Rattle.lr_origin.specs.declared.origin.OriginFailed.{OriginFailed}
use Rattle.lr_origin.specs.Objects.{Objects, Puts, Deletes}

pub failed_put : (key body : List ℕ) (r : Result Put OriginError) (m : Objects) (new : Option Objects) → Puts key body r m new → (new ≡ Some m) ⊎ ((map.get m key ≡ None) × (new ≡ Some (map.insert m key body)))
failed_put key body (Ok Stored) m new h = inr h
failed_put key body (Ok Present) m new h = inl h.1
failed_put key body (Err Failed) m new h = h
failed_put key body (Err OutOfMemory) m new h = inl h

pub failed_delete : (key : List ℕ) (r : Result (Unit {0}) OriginFailed) (m : Objects) (new : Option Objects) → Deletes key r m new → (new ≡ Some m) ⊎ (new ≡ Some (map.remove m key))
failed_delete key (Ok u) m new h = inr h
failed_delete key (Err e) m new h = h

pub match_true : (b : Bool) (P Q : Type 0) → b ≡ true → P → MatchBool b P Q
match_true b P Q e p = subst (λ x. MatchBool x P Q) (sym e) p
