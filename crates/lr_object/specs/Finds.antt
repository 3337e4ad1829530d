-- Places that a test finds in a list.
use Rattle.std.specs.Prelude.{◌≡◌, ℕ, ◌<◌, ◌++◌, List, Bool, Option, None, MatchOption, find, slice_get, remove, length}
use Rattle.std.specs.List.{before_first, after_first}

-- the list without the first element that passes
abbrev pub without_first : {X : Type 0} → (X → Bool) → List X → List X
without_first p xs = before_first p xs ++ after_first p xs

-- The first element that passes stands at this place.
pub record IsFirst {X : Type 0} (p : X → Bool) (xs : List X) (i : ℕ) : Type 0 where
  pub within : i < length xs
  pub found : find p xs ≡ slice_get xs i
  pub rest : remove xs i ≡ without_first p xs

-- The place of the first element that passes, or none where no element passes.
abbrev pub FindsAt : {X : Type 0} → (X → Bool) → List X → Option ℕ → Type 0
FindsAt p xs place = MatchOption place (find p xs ≡ None) (λ i. IsFirst p xs i)
