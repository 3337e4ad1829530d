-- The objects that the entries of a tree stand for.
use Rattle.std.specs.Prelude.{◌≡◌, ℕ, List, Option, Some, None, map, Vec}
use Rattle.std.specs.declared.alloc.Global.{Global}
use denote.Ref.{Bor}
use Rattle.std.specs.FinMap.{from_entries}
use Rattle.lr_origin.specs.Objects.{Objects}

abbrev pub bytes_of_entry : Vec ℕ Global × Vec ℕ Global → List ℕ × List ℕ
bytes_of_entry e = (e.0.items, e.1.items)

-- the objects of some entries
abbrev pub objects_of : List (Vec ℕ Global × Vec ℕ Global) → Objects
objects_of es = from_entries (map bytes_of_entry es)

-- the bytes behind a reference, if any
abbrev pub body_of : Option (Bor (Vec ℕ Global)) → Option (List ℕ)
body_of None = None
body_of (Some r) = Some r.now.items
