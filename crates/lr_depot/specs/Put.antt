-- What one put of a key that the view hasn't does to what is known, and to the store.
use Rattle.std.specs.Prelude.{◌≡◌, ◌⊎◌, List, ℕ, Option, Some, None, IsSome}
use Rattle.std.specs.FinMap as map
use Rattle.lr_origin.specs.Objects.{Objects}
use Rattle.lr_origin.specs.declared.key.KeyKind.{KeyKind}
use Rattle.lr_roots.specs.View.{Held}
use Rattle.lr_rules.specs.Known.{Known, accepted, doubting}
use Rattle.lr_depot.specs.declared.put.PutEnd.{PutEnd}
use Rattle.lr_depot.specs.declared.put.PutEnd.TheVariants.{Kept as Done, Fault, Spoiled, OutOfMemory}

-- what is known afterwards
abbrev pub PutsKey : Known → KeyKind → Held → PutEnd → Known → Type 0
PutsKey s k x Done t = t ≡ accepted s k x
PutsKey s k x Fault t = t ≡ doubting s k x
PutsKey s k x Spoiled t = (t ≡ s) × (map.get s.doubts k ≡ None)
PutsKey s k x OutOfMemory t = t ≡ s

-- The objects afterwards. Where the put was in doubt before, an object may be there already.
abbrev pub StoresKey : Option Held → List ℕ → List ℕ → PutEnd → Objects → Option Objects → Type 0
StoresKey doubt key body Done m n =
    ((map.get m key ≡ None) × (n ≡ Some (map.insert m key body)))
    ⊎ (IsSome (map.get m key) × IsSome doubt × (n ≡ Some m))
StoresKey doubt key body Fault m n = (n ≡ Some m) ⊎ ((map.get m key ≡ None) × (n ≡ Some (map.insert m key body)))
StoresKey doubt key body Spoiled m n = IsSome (map.get m key) × (n ≡ Some m)
StoresKey doubt key body OutOfMemory m n = n ≡ Some m
