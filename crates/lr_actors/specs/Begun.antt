-- How jobs begin.
use Rattle.std.specs.Prelude.{◌≡◌, ◌≤◌, ◌<◌, ℕ, List, [], length, true, Some, slice_get, ⊤}
use Rattle.lr_device.specs.PlainDevice.{size_of}
use Rattle.lr_manifest.specs.declared.name.Name.{Name}
use Rattle.lr_walk.specs.declared.trail.Answer.{Answer}
use Rattle.lr_walk.specs.Stripes.{node_at}
use Rattle.lr_walk.specs.Steps.{Step}
use Rattle.lr_walk.specs.Calls.{DevicePlace}
use Rattle.lr_walk.specs.Jobs.{Context}
use Rattle.lr_actors.specs.declared.running.Running.{Running}
use Rattle.lr_actors.specs.declared.begin.Begun.{Begun}
use Rattle.lr_actors.specs.declared.begin.Begun.TheVariants as begun
use Rattle.lr_actors.specs.Places.{IsPlace}
use Rattle.lr_actors.specs.declared.single.Single.TheVariants as one
use Rattle.lr_actors.specs.Running.{Task, serves, makes, Walk, task_of, is_ready, StandsFor, IsAtHome, Knows, steps_left}
use Rattle.lr_actors.specs.Running.{forges as forges_chunk, collects as runs_collection, migrates as moves_image, creates as creates_image}
use Rattle.lr_actors.specs.Jobs.{Job, calls, creates, migrates, collects, closes, evicts, drops_stripe, flips_stripe, forges, loses, WalksJob, bound_of}

-- there are at least five nodes, and each device has a key for each chunk
pub record IsContext (context : Context) : Type 0 where
  pub nodes : 5 ≤ context.nodes
  pub keys : (device : ℕ) (place : DevicePlace) → slice_get context.devices device ≡ Some place → IsPlace place

-- the device is one of these
abbrev pub HasDevice : Context → ℕ → Type 0
HasDevice context device = device < length context.devices

-- The job names a device of these, and is within the limits of a script.
abbrev pub IsJob : Context → Job → Type 0
IsJob context (calls device call) = HasDevice context device × (size_of call ≤ 1048576)
IsJob context (creates image tenant raw) = length raw ≤ 10737418240
IsJob context (closes device) = HasDevice context device
IsJob context (drops_stripe index device chunk) = HasDevice context device
IsJob context (flips_stripe index device chunk at) = HasDevice context device × (at < 131072)
IsJob context (forges device chunk) = HasDevice context device
IsJob context job = ⊤

-- the walks of a task are those of the job
abbrev pub IsTask : Context → Job → Task → Type 0
IsTask context job task = (steps : List Step) (answer : Answer) → Walk task steps answer → WalksJob context job steps answer

-- a device's place, by its number
abbrev pub AtDevice : Context → ℕ → (DevicePlace → Type 0) → Type 0
AtDevice context device passes = (place : DevicePlace) × (slice_get context.devices device ≡ Some place) × passes place

-- the chunk of this number is there, and has this name
abbrev pub WithName : DevicePlace → ℕ → (Name → Type 0) → Type 0
WithName place chunk passes = (name : Name) × (slice_get place.names chunk ≡ Some name) × passes name

-- what is under way of a job
abbrev pub IsTaskOf : Context → Job → Task → Type 0
IsTaskOf context (calls device call) task = AtDevice context device (λ place. task ≡ serves (record { nodes = context.nodes; device = device; place = place; call = call }))
IsTaskOf context (creates image tenant raw) task = task ≡ creates_image image tenant raw
IsTaskOf context (migrates image) task = task ≡ moves_image image
IsTaskOf context (collects job) task = task ≡ runs_collection job
IsTaskOf context (closes device) task = AtDevice context device (λ place. task ≡ makes (one.Close place.lease))
IsTaskOf context (evicts host) task = task ≡ makes (one.Evict host)
IsTaskOf context (drops_stripe index device chunk) task =
    AtDevice context device (λ place. WithName place chunk (λ name. task ≡ makes (one.Drop (node_at name index context.nodes) name index)))
IsTaskOf context (flips_stripe index device chunk at) task =
    AtDevice context device (λ place. WithName place chunk (λ name. task ≡ makes (one.Flip (node_at name index context.nodes) name index at)))
IsTaskOf context (forges device chunk) task =
    AtDevice context device (λ place. WithName place chunk (λ name. task ≡ forges_chunk (record { nodes = context.nodes; name = name })))
IsTaskOf context (loses node) task = task ≡ makes (one.Lose node)

-- A job under way with no step made.
pub record IsBegun (context : Context) (job : Job) (r : Running) : Type 0 where
  pub ready : is_ready r ≡ true
  pub stands : StandsFor r []
  pub knows : Knows r []
  pub is : IsTaskOf context job (task_of r)
  pub task : IsTask context job (task_of r)
  pub home : IsAtHome context r
  pub bound : steps_left r ≤ bound_of job

-- A job was begun, or it ended with no step.
abbrev pub Begins : Context → Job → Begun → Type 0
Begins context job (begun.Under r) = IsBegun context job r
Begins context job (begun.Over answer) = WalksJob context job [] answer
