-- Content that the outside may tell, and on which a claim is made only where it does.
use Rattle.std.specs.Prelude.{◌≡◌, Option, Some}

-- Of what is told, this holds. Where nothing is told, nothing is claimed.
abbrev pub Told : {A : Type 0} → Option A → (A → Type 0) → Type 0
Told {A} told P = (a : A) → told ≡ Some a → P a
