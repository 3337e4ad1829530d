-- Pieces that were loaded, and bases that names and keys open.
use Rattle.std.specs.Prelude.{◌≡◌, ℕ, List, Some, length, take, slice_get}
use Rattle.std.specs.List.{Contains}
use Rattle.sha2.specs.Sha256.{sha256}
use Rattle.lr_manifest.specs.declared.name.Name.{Name}
use Rattle.lr_convergent.specs.Sealed.{chunk_text}
use Rattle.lr_device.specs.Base.{part_of}
use Rattle.lr_walk.specs.Device.{Piece}
use Rattle.lr_walk.specs.Calls.{DevicePlace}
use Rattle.lr_walk.specs.Jobs.{Context}

-- The piece is a chunk that was loaded for the device: its name and its key are those of its number.
abbrev pub IsLoaded : DevicePlace → Piece → Type 0
IsLoaded place p =
    (name : Name) × (slice_get place.names p.index ≡ Some name) × (slice_get place.keys p.index ≡ Some p.key) × (sha256 p.chunk ≡ name.bytes)

-- .. for the device of this number
abbrev pub IsLoadedAt : Context → ℕ → Piece → Type 0
IsLoadedAt context device p = (place : DevicePlace) × (slice_get context.devices device ≡ Some place) × IsLoaded place p

-- The text begins with what the base has of its chunk i.
abbrev pub HasPart : List ℕ → ℕ → List ℕ → Type 0
HasPart base i text = part_of base i ≡ take (length (part_of base i)) text

-- Each name with its key opens what the base has of its chunk: one of the strings has this digest and, decrypted under the
-- key, begins with it.
abbrev pub IsOpenedBy : List (List ℕ) → List Name → List (List ℕ) → List ℕ → Type 0
IsOpenedBy strings names keys base =
    (i : ℕ) (name : Name) (key : List ℕ) → slice_get names i ≡ Some name → slice_get keys i ≡ Some key
    → (body : List ℕ) × Contains strings body × (sha256 body ≡ name.bytes) × HasPart base i (chunk_text key body)
