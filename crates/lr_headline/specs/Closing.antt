-- What a run of actors left: its objects, its actors with their trails, and the setup lines before them.
use Rattle.std.specs.Prelude.{◌≡◌, ℕ, List, [], ◌∷◌, ◌++◌, map}
use Rattle.std.specs.List.{AllByRecursion, Contains}
use Rattle.lr_layout.specs.Padded.{padded_length}
use Rattle.lr_origin.specs.Objects.{Objects as Store}
use Rattle.lr_object.specs.declared.entry.Entry.{Entry}
use Rattle.lr_object.specs.Kept.{Sized}
use Rattle.lr_device.specs.declared.step.DeviceNoted.{DeviceNoted}
use Rattle.lr_device.specs.declared.step.DeviceAnswer.{DeviceAnswer}
use Rattle.lr_cache.specs.declared.call.CacheCall.{CacheCall}
use Rattle.lr_cache.specs.declared.call.CacheReply.{CacheReply}
use Rattle.lr_nodes.specs.declared.call.NodeCall.{NodeCall}
use Rattle.lr_nodes.specs.declared.call.NodeReply.{NodeReply}
use Rattle.lr_nodes.specs.Machine as node
use Rattle.lr_depot.specs.Depot.{first_state}
use Rattle.lr_depot.specs.Machine.{LogEntry}
use Rattle.lr_walk.specs.declared.trail.JobResult.{JobResult}
use Rattle.lr_walk.specs.Calls.{DevicePlace}
use Rattle.lr_walk.specs.Jobs.{Context}
use Rattle.lr_history.specs.Histories.{HaveOwnNumbers}
use Rattle.lr_history.specs.Claims.{HaveOwnLeases}
use Rattle.lr_history.specs.Run.{Creation, DeviceLine, DeviceSeen, CacheSeen, ActorSeen, Run}
use Rattle.lr_setup.specs.Setup.{SetupLine, images_of, devices_of, IsSetup}
use Rattle.lr_actors.specs.Jobs.{Job}
use Rattle.lr_actors.specs.Actor.{MayBeGiven}
use Rattle.lr_actors.specs.Records.{HasTrail}
use Rattle.lr_replies.specs.Seen.{seen_job}
use Rattle.lr_replies.specs.Objects.{Objects, own_lists}
use Rattle.lr_replies.specs.Replies.{AreMade}

-- an actor that has left: its number, its jobs and their results
pub record Left : Type 0 where
  pub number : ℕ
  pub jobs : List Job
  pub results : List JobResult

-- What a run left, and the creations that its jobs began.
pub record Closing : Type 0 where
  pub lines : List SetupLine
  pub context : Context
  pub hosts : ℕ
  pub objects : Objects
  pub creations : List Creation
  pub actors : List Left

-- the place of a device line
abbrev pub place_of : DeviceLine → DevicePlace
place_of line = record { host = line.host; lease = line.lease; names = line.manifest.names; keys = line.keys }

-- the padded bytes of a device line's image
abbrev pub size_of : DeviceLine → ℕ
size_of line = padded_length line.manifest.raw_len

abbrev pub numbers_of : List Left → List ℕ
numbers_of actors = map (λ (a : Left). a.number) actors

-- each entry is of one of these actors
abbrev pub AreOf : {N T : Type 0} → List Left → List (Sized N T) → Type 0
AreOf {N} {T} actors objects = AllByRecursion (λ (s : Sized N T). AllByRecursion (λ (e : Entry N T). Contains (numbers_of actors) e.caller) s.log) objects

abbrev pub actor_seen : Left → ActorSeen
actor_seen a = record { number = a.number; jobs = map seen_job a.jobs; results = a.results }

-- The log of the depot begins with the setup's, which opened the devices; each object's log is one that calls made of a new one, those
-- of devices and caches by the actors; and each actor has its trail over its own lists.
pub record IsClosing (c : Closing) : Type 0 where
  pub setup : (log : List LogEntry) × (rest : List LogEntry) × (c.objects.depot ≡ log ++ rest) × IsSetup (first_state c.objects.start) [] c.lines log
  pub places : c.context.devices ≡ map place_of (devices_of c.lines)
  pub sizes : map (λ (d : Sized DeviceNoted DeviceAnswer). d.capacity) c.objects.devices ≡ map size_of (devices_of c.lines)
  pub made : AreMade c.objects c.context c.hosts
  pub devices : AreOf c.actors c.objects.devices
  pub caches : AreOf c.actors c.objects.caches
  pub given : AllByRecursion (λ (a : Left). AllByRecursion (MayBeGiven c.context c.hosts) a.jobs) c.actors
  pub trails : AllByRecursion (λ (a : Left). HasTrail c.context (own_lists c.objects a.number) a.jobs a.results) c.actors
  -- no two actors have one number, and no two devices one lease
  pub numbers : HaveOwnNumbers (map actor_seen c.actors)
  pub leases : HaveOwnLeases c.context

-- ---- as its history sees it

abbrev pub cache_seen : Sized CacheCall CacheReply → CacheSeen
cache_seen c = record { capacity = c.capacity; log = c.log }

abbrev pub node_log : Sized NodeCall NodeReply → List node.LogEntry
node_log s = s.log

-- each device line with the log of its device
abbrev pub devices_seen : List DeviceLine → List (Sized DeviceNoted DeviceAnswer) → List DeviceSeen
devices_seen [] devices = []
devices_seen (line ∷ lines) [] = []
devices_seen (line ∷ lines) (d ∷ devices) = record { line = line; log = d.log } ∷ devices_seen lines devices

-- the run over a store that had these objects and has those
abbrev pub run_of : Closing → Store → Store → Run
run_of c opening closing = record {
  opening = opening;
  closing = closing;
  images = images_of c.lines;
  creations = c.creations;
  devices = devices_seen (devices_of c.lines) c.objects.devices;
  caches = map cache_seen c.objects.caches;
  nodes = map node_log c.objects.nodes;
  depot = c.objects.depot;
  actors = map actor_seen c.actors;
}
