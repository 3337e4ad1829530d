-- The objects of a store, and what each call of an origin does to them.
use Rattle.std.specs.Prelude.{◌≡◌, ◌⊎◌, ℕ, List, Option, Some, None, IsSome, Result, Ok, Err, Vec}
use Rattle.std.specs.declared.cmp.Ordering.{Ordering}
use Rattle.std.specs.declared.cmp.Ordering.TheVariants.{Less}
use Rattle.std.specs.declared.alloc.Global.{Global}
use denote.Ref.{Bor}
use Rattle.std.specs.Ordering.{nat_cmp}
use Rattle.std.specs.Cmp.Lexicographic.{slice_cmp}
use Rattle.std.specs.FinMap as map
use Rattle.std.specs.FinMap.{FinMap}
use Rattle.lr_origin.specs.declared.origin.Put.{Put}
use Rattle.lr_origin.specs.declared.origin.Put.TheVariants.{Stored, Present}
use Rattle.lr_origin.specs.declared.origin.OriginError.{OriginError}
use Rattle.lr_origin.specs.declared.origin.OriginError.TheVariants.{Failed, OutOfMemory}
use Rattle.lr_origin.specs.declared.origin.OriginFailed.{OriginFailed}

-- byte order
abbrev pub key_cmp : List ℕ → List ℕ → Ordering
key_cmp = slice_cmp nat_cmp

-- a finite map from keys to bodies
abbrev pub Objects : Type 0
Objects = FinMap key_cmp (List ℕ)

-- the bytes that were found, if any
abbrev pub found : Option (Vec ℕ Global) → Option (List ℕ)
found None = None
found (Some v) = Some v.items

-- the bytes that an argument points to, if any
abbrev pub pointed : Option (Bor (List ℕ)) → Option (List ℕ)
pointed None = None
pointed (Some r) = Some r.now

-- A put: an object that is there stays, and a failure leaves the objects with or without the new one.
abbrev pub Puts : List ℕ → List ℕ → Result Put OriginError → Objects → Option Objects → Type 0
Puts key body (Ok Stored) old new = (map.get old key ≡ None) × (new ≡ Some (map.insert old key body))
Puts key body (Ok Present) old new = IsSome (map.get old key) × (new ≡ Some old)
Puts key body (Err Failed) old new =
    (new ≡ Some old) ⊎ ((map.get old key ≡ None) × (new ≡ Some (map.insert old key body)))
Puts key body (Err OutOfMemory) old new = new ≡ Some old

-- A deletion: a failure leaves the objects with or without the one under the key.
abbrev pub Deletes : List ℕ → Result (Unit {0}) OriginFailed → Objects → Option Objects → Type 0
Deletes key (Ok u) old new = new ≡ Some (map.remove old key)
Deletes key (Err e) old new = (new ≡ Some old) ⊎ (new ≡ Some (map.remove old key))

-- the key is above the bound, if there is one
abbrev pub IsAfter : Option (List ℕ) → List ℕ → Type 0
IsAfter None key = Unit {0}
IsAfter (Some bound) key = key_cmp bound key ≡ Less

-- The least key above the bound, or none where no key is above it.
abbrev pub IsNext : Option (List ℕ) → Objects → Option (List ℕ) → Type 0
IsNext after m None = (q : List ℕ) → IsAfter after q → map.get m q ≡ None
IsNext after m (Some k) =
    IsAfter after k × IsSome (map.get m k) × ((q : List ℕ) → IsAfter after q → key_cmp q k ≡ Less → map.get m q ≡ None)
