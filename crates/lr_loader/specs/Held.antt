-- The stripes that a load has in hand.
use Rattle.std.specs.Prelude.{◌≡◌, ◌<◌, ℕ, List, length, Bool, true, false, Option, Some, None}
use Rattle.std.specs.List.{AllByRecursion}
use Rattle.lr_field.specs.Polynomial.{IsDistinct}
use Rattle.lr_manifest.specs.declared.name.Name.{Name}
use Rattle.lr_manifest.specs.Chunk.{is_named}
use Rattle.lr_stripe.specs.declared.stripe.Stripe.{Stripe}
use Rattle.lr_walk.specs.Stripes.{is_good, indices_of, IsRebuilt}

-- a good stripe of the name, of an index below this one
abbrev pub IsGoodBelow : Name → ℕ → Stripe → Type 0
IsGoodBelow name n s = (is_good name s.index s ≡ true) × (s.index < n)

-- Good stripes of the name, of different indices below this one.
pub record AreHeld (name : Name) (n : ℕ) (held : List Stripe) : Type 0 where
  pub good : AllByRecursion (IsGoodBelow name n) held
  pub apart : IsDistinct (indices_of held)

-- Stripes that a chunk can be rebuilt of: of different indices below 5, and each of 131072 bytes.
pub record AreWhole (held : List Stripe) : Type 0 where
  pub each : AllByRecursion (λ (s : Stripe). (s.index < 5) × (length s.bytes ≡ 131072)) held
  pub apart : IsDistinct (indices_of held)

-- the chunk that the stripes are rebuilt to, where it has the name
abbrev pub IsRebuiltTo : Name → List Stripe → Option (List ℕ) → Type 0
IsRebuiltTo name held (Some chunk) = IsRebuilt held chunk × (is_named name chunk ≡ true)
IsRebuiltTo name held None = (chunk : List ℕ) → IsRebuilt held chunk → is_named name chunk ≡ false
