-- A run, as its history speaks of it.
use Rattle.std.specs.Prelude.{ℕ, List}
use Rattle.lr_manifest.specs.Manifest.{ManifestFields}
use Rattle.lr_origin.specs.Objects.{Objects}
use Rattle.lr_device.specs.Machine as device
use Rattle.lr_cache.specs.Machine as cache
use Rattle.lr_nodes.specs.Machine as node
use Rattle.lr_depot.specs.Machine as depot
use Rattle.lr_walk.specs.declared.trail.JobResult.{JobResult}
use Rattle.lr_history.specs.Jobs.{JobSeen}

-- a creation that was begun: the salt that it was given, and all its raw bytes
pub record Creation : Type 0 where
  pub salt : List ℕ
  pub raw : List ℕ

-- an image line of the script, and what its creation was given
pub record ImageLine : Type 0 where
  pub image : List ℕ
  pub tenant : List ℕ
  pub raw : List ℕ
  pub root : ℕ
  pub salt : List ℕ

abbrev pub creation_of : ImageLine → Creation
creation_of line = record { salt = line.salt; raw = line.raw }

-- a device line of the script, and what it opened
pub record DeviceLine : Type 0 where
  pub image : List ℕ
  pub tenant : List ℕ
  pub before : ℕ  -- how many image lines stand before it
  pub root : ℕ  -- the home of the image when it was opened
  pub host : ℕ
  pub lease : ℕ
  pub manifest : ManifestFields
  pub keys : List (List ℕ)

-- a device, with its log at the end
pub record DeviceSeen : Type 0 where
  pub line : DeviceLine
  pub log : List device.LogEntry

-- a host's cache, with its log at the end
pub record CacheSeen : Type 0 where
  pub capacity : ℕ
  pub log : List cache.LogEntry

-- an actor, with its jobs and their results
pub record ActorSeen : Type 0 where
  pub number : ℕ
  pub jobs : List JobSeen
  pub results : List JobResult

-- A run: the store's objects before the setup lines and at the end, the image lines, the creations of jobs, the
-- devices, the caches, the logs at the end of the nodes and of the depot, and the actors.
pub record Run : Type 0 where
  pub opening : Objects
  pub closing : Objects
  pub images : List ImageLine
  pub creations : List Creation
  pub devices : List DeviceSeen
  pub caches : List CacheSeen
  pub nodes : List (List node.LogEntry)
  pub depot : List depot.LogEntry
  pub actors : List ActorSeen
