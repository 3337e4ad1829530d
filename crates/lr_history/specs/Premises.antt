-- What the parts of a run deliver.
use Rattle.std.specs.Prelude.{◌≡◌, ℕ, List, [], map, find, take, Some, IsSome, slice_get}
use Rattle.std.specs.List.{AllByRecursion, Contains}
use Rattle.lr_layout.specs.Padded.{padded_length}
use Rattle.lr_manifest.specs.declared.name.Name.{Name}
use Rattle.lr_manifest.specs.Manifest.{IsManifest}
use Rattle.lr_seal.specs.Table.{HasTag, key_list}
use Rattle.lr_seal.specs.Made.{IsMadeOf}
use Rattle.lr_origin.specs.Objects.{Objects}
use Rattle.lr_origin.specs.Text.{IsKind}
use Rattle.lr_origin.specs.declared.key.KeyKind.TheVariants.{Chunk}
use Rattle.lr_opening.specs.Store.{HasChunks}
use Rattle.lr_object.specs.Grown.{Grown}
use Rattle.lr_object.specs.declared.entry.Entry.{Entry}
use Rattle.lr_device.specs.Answers.{Answers}
use Rattle.lr_device.specs.Enters.{Enters}
use Rattle.lr_cache.specs.Orderly.{IsCacheLog}
use Rattle.lr_history.specs.Run.{ImageLine, DeviceLine, DeviceSeen, CacheSeen, ActorSeen, Run}
use Rattle.lr_history.specs.Opened.{is_line_of, body_of}
use Rattle.lr_history.specs.Lists.{own, context_of}
use Rattle.lr_history.specs.Jobs.{HasTrailSeen}

-- What the setup delivers of a device: its keys are those of its manifest under its tenant's key. Where an image line
-- made its image under this key, the manifest is that line's. Each name of the manifest has a chunk in the image's home.
pub record IsOpened (opening : Objects) (lines : List ImageLine) (d : DeviceLine) : Type 0 where
  pub manifest : IsManifest d.manifest
  pub tag : HasTag d.manifest d.tenant
  pub keys : d.keys ≡ key_list d.manifest d.tenant
  pub lined : (line : ImageLine) → find (is_line_of d) lines ≡ Some line → IsMadeOf line.salt line.tenant line.raw d.manifest
  pub kinds : AllByRecursion (λ (name : Name). IsKind (Chunk d.root name.bytes)) d.manifest.names
  pub there : AllByRecursion (λ (name : Name). IsSome (body_of opening (take d.before lines) d.root name.bytes)) d.manifest.names

-- What the setup delivers, over a store whose chunks are those that their keys name.
pub record IsSetUp (run : Run) : Type 0 where
  pub chunks : HasChunks run.opening
  pub opened : (i : ℕ) (d : DeviceSeen) → slice_get run.devices i ≡ Some d → IsOpened run.opening run.images d.line

-- the numbers of actors
abbrev pub numbers : List ActorSeen → List ℕ
numbers actors = map (λ (a : ActorSeen). a.number) actors

-- each entry is of one of these actors
abbrev pub AreCallers : {C R : Type 0} → List ActorSeen → List (Entry C R) → Type 0
AreCallers {C} {R} actors log = AllByRecursion (λ (e : Entry C R). Contains (numbers actors) e.caller) log

-- What the actors and the world or the race deliver, whatever the store holds: each entry of a device is of an actor, and each
-- actor has its trail over its own lists.
pub record IsRun (run : Run) : Type 0 where
  pub callers : (i : ℕ) (d : DeviceSeen) → slice_get run.devices i ≡ Some d → AreCallers run.actors d.log
  pub trails : AllByRecursion (λ (a : ActorSeen). HasTrailSeen (context_of run) (own run a.number) a.jobs a.results) run.actors

-- bytes of a device
abbrev pub size_of : DeviceSeen → ℕ
size_of d = padded_length d.line.manifest.raw_len

-- What devices deliver: each log is one that calls made of a new device.
abbrev pub AreDeviceLogs : Run → Type 0
AreDeviceLogs run = (i : ℕ) (d : DeviceSeen) → slice_get run.devices i ≡ Some d → Grown Answers Enters (size_of d) [] d.log

-- What caches deliver: each log is one that the actors' calls made of a new cache.
pub record AreCacheLogs (run : Run) : Type 0 where
  pub grown : (host : ℕ) (c : CacheSeen) → slice_get run.caches host ≡ Some c → IsCacheLog c.capacity c.log
  pub callers : (host : ℕ) (c : CacheSeen) → slice_get run.caches host ≡ Some c → AreCallers run.actors c.log
