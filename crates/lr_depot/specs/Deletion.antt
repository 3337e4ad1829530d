-- What one deletion of a key of the view does to what is known, and to the store.
use Rattle.std.specs.Prelude.{◌≡◌, ◌⊎◌, List, ℕ, Option, Some}
use Rattle.std.specs.FinMap as map
use Rattle.lr_origin.specs.Objects.{Objects}
use Rattle.lr_origin.specs.declared.key.KeyKind.{KeyKind}
use Rattle.lr_roots.specs.View.{Held}
use Rattle.lr_rules.specs.Known.{Known, doubting, removed}
use Rattle.lr_depot.specs.declared.deletion.DeletionEnd.{DeletionEnd}
use Rattle.lr_depot.specs.declared.deletion.DeletionEnd.TheVariants.{Removed, Fault, OutOfMemory}

-- what is known afterwards
abbrev pub DeletesKey : Known → KeyKind → Held → DeletionEnd → Known → Type 0
DeletesKey s k x Removed t = t ≡ removed s k
DeletesKey s k x Fault t = t ≡ doubting s k x
DeletesKey s k x OutOfMemory t = t ≡ s

-- the objects afterwards
abbrev pub StoresDeletion : List ℕ → DeletionEnd → Objects → Option Objects → Type 0
StoresDeletion key Removed m n = n ≡ Some (map.remove m key)
StoresDeletion key Fault m n = (n ≡ Some m) ⊎ (n ≡ Some (map.remove m key))
StoresDeletion key OutOfMemory m n = n ≡ Some m
