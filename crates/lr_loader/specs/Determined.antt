-- What a load needs next is determined by what it needed and the reply, unless it finds no memory itself.
use Rattle.std.specs.Prelude.{◌≡◌, ◌⊎◌, ℕ, List}
use Rattle.lr_walk.specs.declared.place.LoadPlace.{LoadPlace}
use Rattle.lr_walk.specs.Steps.{Reply}
use Rattle.lr_loader.specs.Progress.{Need, IsShort, Next}

abbrev pub LoadsAreDetermined : Type 0
LoadsAreDetermined = (place : LoadPlace) (need : Need) (reply : Reply) (fetched : List ℕ) (a b : Need) → Next place need reply fetched a → Next place need reply fetched b
    → (a ≡ b) ⊎ (IsShort a ⊎ IsShort b)
