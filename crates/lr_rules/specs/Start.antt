-- A depot as it starts.
use Rattle.std.specs.Prelude.{◌≡◌, ◌≤◌, ◌<◌, ℕ, List, Some}
use Rattle.std.specs.FinMap as map
use Rattle.lr_manifest.specs.Manifest.{ManifestFields}
use Rattle.lr_origin.specs.declared.key.KeyKind.TheVariants.{Manifest}
use Rattle.lr_roots.specs.View.{View, manifest}
use Rattle.lr_roots.specs.Names.{number_of}
use Rattle.lr_roots.specs.Sound.{IsSound}
use Rattle.lr_rules.specs.State.{State}

-- no doubts, leases or sessions
abbrev pub started : View → ℕ → State
started v next = record {
  known = record { view = v; doubts = map.empty };
  desk = record { leases = map.empty; sessions = map.empty; makers = map.empty; next_lease = 1; next_session = 1; next_number = next };
}

-- the view of a sound store, and the next creation number after those found
pub record MayStart (v : View) (next : ℕ) : Type 0 where
  pub sound : IsSound v
  pub numbered : (r : ℕ) (image : List ℕ) (m : ManifestFields) → map.get v (Manifest r image) ≡ Some (manifest m) → number_of m < next
  pub first : 1 ≤ next
  pub most : next ≤ 9223372036854775808
