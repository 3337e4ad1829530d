-- What all actors share, as plain data.
use Rattle.std.specs.Prelude.{◌≡◌, ℕ, List, length}
use Rattle.std.specs.Arc.{arc_value}
use Rattle.lr_manifest.specs.declared.name.ChunkKey.{ChunkKey}
use Rattle.lr_walk.specs.Calls.{DevicePlace}
use Rattle.lr_actors.specs.declared.place.DevicePlace.{DevicePlace as Kept}

abbrev pub key_bytes : ChunkKey → List ℕ
key_bytes key = key.bytes

-- a device's place, with the names and keys of its chunks
abbrev pub seen_place : Kept → DevicePlace
seen_place p = record { host = p.host; lease = p.lease; names = (arc_value p.manifest).names; keys = p.keys }

-- there is a key for each chunk
abbrev pub IsPlace : DevicePlace → Type 0
IsPlace place = length place.keys ≡ length place.names
