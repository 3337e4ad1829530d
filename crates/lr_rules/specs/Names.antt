-- The image names of a depot.
use Rattle.std.specs.Prelude.{◌⊎◌, ◌^◌, ℕ, List, IsSome}
use Rattle.std.specs.FinMap as map
use Rattle.lr_origin.specs.declared.key.KeyKind.TheVariants.{Manifest}
use Rattle.lr_roots.specs.Names.{IsNamed, AreFewer}
use Rattle.lr_rules.specs.State.{Creates, State, Holds}

-- a create session has the image
abbrev pub IsBegun : State → List ℕ → Type 0
IsBegun s image = (n : ℕ) × (c : ℕ) × (r : ℕ) × (d : ℕ) × Holds s n c (Creates image r d)

-- a manifest of the image is in doubt
abbrev pub IsUnsure : State → List ℕ → Type 0
IsUnsure s image = (r : ℕ) × IsSome (map.get s.known.doubts (Manifest r image))

-- an image of the depot: a key of the view names it, a manifest of it is in doubt, or a create session has it
abbrev pub IsImage : State → List ℕ → Type 0
IsImage s image = IsNamed s.known.view image ⊎ (IsUnsure s image ⊎ IsBegun s image)

-- so few that the names of a view can be counted
abbrev pub HasRoom : State → Type 0
HasRoom s = AreFewer (IsImage s) (2 ^ 32)
