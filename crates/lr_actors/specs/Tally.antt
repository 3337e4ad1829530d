-- Counts of objects, as contracts see them.
use Rattle.std.specs.Prelude.{◌≡◌, ◌<◌, ℕ, length, slice_index, ⊤}
use Rattle.lr_object.specs.declared.id.ObjectId.{ObjectId}
use Rattle.lr_object.specs.declared.id.ObjectId.TheVariants.{Device, Cache, Node, Depot}
use Rattle.lr_actors.specs.declared.tally.Tally.{Tally}

-- the count of an object
abbrev pub count_of : Tally → ObjectId → ℕ
count_of t (Device n) = slice_index t.devices.items n
count_of t (Cache n) = slice_index t.caches.items n
count_of t (Node n) = slice_index t.nodes.items n
count_of t Depot = t.depot

-- it counts this object
abbrev pub Has : Tally → ObjectId → Type 0
Has t (Device n) = n < length t.devices.items
Has t (Cache n) = n < length t.caches.items
Has t (Node n) = n < length t.nodes.items
Has t Depot = ⊤

-- it counts so many of each
pub record IsSized (t : Tally) (devices hosts nodes : ℕ) : Type 0 where
  pub device_counts : length t.devices.items ≡ devices
  pub cache_counts : length t.caches.items ≡ hosts
  pub node_counts : length t.nodes.items ≡ nodes

abbrev pub KeepsSize : Tally → Tally → Type 0
KeepsSize old new = IsSized new (length old.devices.items) (length old.caches.items) (length old.nodes.items)
