-- The jobs of a script, and the walk of each.
use Rattle.std.specs.Prelude.{◌≡◌, ◌+◌, ◌*◌, ℕ, List, [], ◌∷◌, ◌++◌, length, map}
use Rattle.lr_text.specs.Bytes.{bytes_of_runs}
use Rattle.lr_device.specs.declared.call.DeviceCall.{DeviceCall}
use Rattle.lr_device.specs.declared.call.DeviceCall.TheVariants as device_call
use Rattle.lr_script.specs.Seen.{JobSeen}
use Rattle.lr_script.specs.Seen as script
use Rattle.lr_walk.specs.declared.trail.Answer.{Answer}
use Rattle.lr_walk.specs.declared.trail.Answer.TheVariants.{Memory, Cut, Unbegun}
use Rattle.lr_walk.specs.Walk.{Walks, Ends, Or}
use Rattle.lr_walk.specs.Steps.{Step}
use Rattle.lr_walk.specs.Calls.{CallsDevice}
use Rattle.lr_walk.specs.Damage.{Evicts, Loses, Damages, DropsStripe, FlipsStripe, Forges}
use Rattle.lr_walk.specs.Jobs.{Context, AsksDepot, OnDevice}
use Rattle.lr_walk.specs.Depot as depots
use Rattle.lr_collector.specs.declared.collect.CollectJob.{CollectJob}
use Rattle.lr_collector.specs.declared.collect.CollectJob.TheVariants as collect
use Rattle.lr_actors.specs.declared.place.Context.{Context as Kept}
use Rattle.lr_actors.specs.Places.{seen_place}
use Rattle.lr_actors.specs.Collecting.{Collecting}
use Rattle.lr_actors.specs.Migrating.{Migrating}
use Rattle.lr_actors.specs.Creating.{raw_of, Creating}
use Rattle.lr_actors.specs.Bounds.{chunks}

-- what all actors share
abbrev pub seen_context : Kept → Context
seen_context c = record { devices = map seen_place c.devices.items; nodes = c.nodes }

-- A job. A device is named by its place in the context.
pub data Job : Type 0 where
  calls : (device : ℕ) (call : DeviceCall) → Job
  creates : (image tenant raw : List ℕ) → Job
  migrates : (image : List ℕ) → Job
  collects : (job : CollectJob) → Job
  closes : (device : ℕ) → Job
  evicts : (host : ℕ) → Job
  drops_stripe : (index device chunk : ℕ) → Job
  flips_stripe : (index device chunk at : ℕ) → Job
  forges : (device chunk : ℕ) → Job
  loses : (node : ℕ) → Job

-- the job of a line of a script
abbrev pub job_of : JobSeen → Job
job_of (script.Read device offset len) = calls device (device_call.Read offset len)
job_of (script.Zero device offset len) = calls device (device_call.Zero offset len)
job_of (script.Write device offset runs) = calls device (device_call.Write offset (bytes_of_runs runs))
job_of (script.Create image tenant len body) = creates image tenant (raw_of len body)
job_of (script.Migrate image) = migrates image
job_of (script.Withdraw image) = collects (collect.Withdraw image)
job_of (script.Rotate salt) = collects (collect.Rotate salt)
job_of (script.Expire root) = collects (collect.Expire root)
job_of (script.Delete root) = collects (collect.Delete root)
job_of (script.Sweep root) = collects (collect.Sweep root)
job_of (script.Settle key) = collects (collect.Settle key)
job_of (script.Evict host) = evicts host
job_of (script.Drop index device chunk) = drops_stripe index device chunk
job_of (script.Flip index device chunk at) = flips_stripe index device chunk at
job_of (script.Forge device chunk) = forges device chunk
job_of (script.Lose node) = loses node
job_of (script.Close device) = closes device

-- a job that was begun
abbrev pub MakesJob : Context → Job → Walks Step Answer
MakesJob context (calls device call) = OnDevice context device (λ place. CallsDevice context.nodes device place call)
MakesJob context (creates image tenant raw) = Creating image tenant raw
MakesJob context (migrates image) = Migrating image
MakesJob context (collects job) = Collecting job
MakesJob context (closes device) = OnDevice context device (λ place. AsksDepot (depots.closes place.lease))
MakesJob context (evicts host) = Evicts host
MakesJob context (drops_stripe index device chunk) = OnDevice context device (λ place. Damages place chunk (DropsStripe context.nodes index))
MakesJob context (flips_stripe index device chunk at) = OnDevice context device (λ place. Damages place chunk (FlipsStripe context.nodes index at))
MakesJob context (forges device chunk) = OnDevice context device (λ place. Damages place chunk (Forges context.nodes))
MakesJob context (loses node) = Loses node

-- A finished job. Where the actor finds no memory to begin it, it makes no step.
abbrev pub WalksJob : Context → Job → Walks Step Answer
WalksJob context job = Or (MakesJob context job) (Ends Memory)

-- the most steps that a job makes, Busy and the removals of a sweep not counted
abbrev pub bound_of : Job → ℕ
bound_of (calls device call) = 44
bound_of (creates image tenant raw) = chunks (length raw) + 3
bound_of (migrates image) = 2 * 20480 + 3
bound_of (forges device chunk) = 5
bound_of job = 1

-- A job, finished, cut or not begun. A cut one made a proper part of a walk, and not nothing.
abbrev pub IsWalk : Context → Job → Walks Step Answer
IsWalk context job steps Cut =
    (first : Step) × (more : List Step) × (next : Step) × (later : List Step) × (answer : Answer)
    × (steps ≡ first ∷ more) × WalksJob context job (steps ++ next ∷ later) answer
IsWalk context job steps Unbegun = steps ≡ []
IsWalk context job steps answer = WalksJob context job steps answer
