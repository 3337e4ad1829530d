-- An actor's own lists in the logs of a run, and what stands in them.
use Rattle.std.specs.Prelude.{ℕ, List, [], map, length, Option, Some, None, slice_get}
use Rattle.std.specs.List.{flat_map}
use Rattle.std.specs.Option.{option_to_list}
use Rattle.lr_object.specs.Own.{own_entries}
use Rattle.lr_object.specs.declared.id.ObjectId.{ObjectId}
use Rattle.lr_object.specs.declared.id.ObjectId.TheVariants.{Device, Cache, Node, Depot}
use Rattle.lr_device.specs.Machine as device
use Rattle.lr_cache.specs.Machine as cache
use Rattle.lr_nodes.specs.Machine as node
use Rattle.lr_depot.specs.Machine as depot
use Rattle.lr_walk.specs.declared.trail.Did.{Did}
use Rattle.lr_walk.specs.Steps.{Step, device_step, cache_step, node_step, depot_step}
use Rattle.lr_walk.specs.Device as devices
use Rattle.lr_walk.specs.Cache as caches
use Rattle.lr_walk.specs.Node as nodes
use Rattle.lr_walk.specs.Depot as depots
use Rattle.lr_walk.specs.Calls.{DevicePlace}
use Rattle.lr_walk.specs.Jobs.{Context}
use Rattle.lr_walk.specs.Trails.{Lists, places_in}
use Rattle.lr_history.specs.Run.{DeviceSeen, CacheSeen, Run}

-- ---- entries of logs, as steps

abbrev pub device_entry : ℕ → device.LogEntry → Step
device_entry i e = device_step i (devices.step_of e)

abbrev pub cache_entry : ℕ → cache.LogEntry → Step
cache_entry host e = cache_step host (caches.step_of e)

abbrev pub node_entry : ℕ → node.LogEntry → Step
node_entry i e = node_step i (nodes.step_of e)

abbrev pub depot_entry : depot.LogEntry → Step
depot_entry e = depot_step (depots.step_of e)

-- ---- the logs, empty where there is no such object

abbrev pub device_log : Option DeviceSeen → List device.LogEntry
device_log None = []
device_log (Some d) = d.log

abbrev pub cache_log : Option CacheSeen → List cache.LogEntry
cache_log None = []
cache_log (Some c) = c.log

abbrev pub node_log : Option (List node.LogEntry) → List node.LogEntry
node_log None = []
node_log (Some log) = log

-- an actor's own list of each object
abbrev pub own : Run → ℕ → Lists
own run number (Device i) = map (device_entry i) (own_entries number (device_log (slice_get run.devices i)))
own run number (Cache host) = map (cache_entry host) (own_entries number (cache_log (slice_get run.caches host)))
own run number (Node i) = map (node_entry i) (own_entries number (node_log (slice_get run.nodes i)))
own run number Depot = map depot_entry (own_entries number run.depot)

-- ---- what all actors share

abbrev pub place_of : DeviceSeen → DevicePlace
place_of d = record { host = d.line.host; lease = d.line.lease; names = d.line.manifest.names; keys = d.line.keys }

abbrev pub context_of : Run → Context
context_of run = record { devices = map place_of run.devices; nodes = length run.nodes }

-- the entries of an object that a path names
abbrev pub entries_in : Lists → ObjectId → List Did → List Step
entries_in lists o path = flat_map (λ (place : ℕ). option_to_list (slice_get (lists o) place)) (places_in o path)
