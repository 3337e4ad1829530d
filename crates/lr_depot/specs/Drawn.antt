-- The creation numbers that a log tells.
use Rattle.std.specs.Prelude.{ℕ, Option, Some, None}
use Rattle.lr_depot.specs.declared.call.DepotTold.{DepotTold}
use Rattle.lr_depot.specs.declared.call.DepotTold.TheVariants as told

-- the creation number of a creation that began
abbrev pub number_told : DepotTold → Option ℕ
number_told (told.Began session root bytes number) = Some number
number_told t = None
