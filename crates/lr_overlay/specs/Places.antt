-- The places of a chunk.
use Rattle.std.specs.Prelude.{ℕ, Option, None, Some, List, [], Box, box_value, option_map}
use Rattle.lr_overlay.specs.Pages.{fitted}
use Rattle.lr_overlay.specs.declared.cells.Cells.{Cells}

-- the places behind a box, where there are any
abbrev pub places_of : {X Z : Type 0} {n : ℕ} → Option (Box (Cells X n) Z) → List X
places_of None = []
places_of (Some places) = (box_value places).all

-- what is seen of a place: a page has its 4096 bytes by its type
abbrev pub page_seen : {Z : Type 0} → Option (Box (List ℕ) Z) → Option (List ℕ)
page_seen = option_map (λ b. fitted 4096 (box_value b))
