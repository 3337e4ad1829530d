-- The walks of jobs.
use Rattle.std.specs.Prelude.{◌≡◌, ℕ, List, [], ◌∷◌, ◌++◌, Some, slice_get}
use Rattle.lr_device.specs.declared.call.DeviceCall.{DeviceCall}
use Rattle.lr_walk.specs.declared.trail.Answer.{Answer}
use Rattle.lr_walk.specs.declared.trail.Answer.TheVariants.{Root, Closed, RootsEnd, Doubt, Fault, Spoiled, Memory, Cut, Unbegun}
use Rattle.lr_walk.specs.Walk.{Walks, Ends, Never}
use Rattle.lr_walk.specs.Steps.{on_depot, Reply, by_depot, Step, Asks}
use Rattle.lr_walk.specs.Calls.{DevicePlace, CallsDevice}
use Rattle.lr_walk.specs.Damage.{Evicts, Loses, Damages, DropsStripe, FlipsStripe, Forges}
use Rattle.lr_walk.specs.Depot as depots

-- what all actors share
pub record Context : Type 0 where
  pub devices : List DevicePlace
  pub nodes : ℕ

-- the answer of a job that makes one call of the depot, by the reply
abbrev pub after_depot : Reply → Walks Step Answer
after_depot (by_depot (depots.rotated root)) = Ends (Root root)
after_depot (by_depot depots.roots_end) = Ends RootsEnd
after_depot (by_depot depots.closed) = Ends Closed
after_depot (by_depot (depots.doubt key)) = Ends (Doubt key)
after_depot (by_depot (depots.fault key)) = Ends (Fault key)
after_depot (by_depot (depots.spoiled key)) = Ends (Spoiled key)
after_depot (by_depot depots.memory) = Ends Memory
after_depot reply = Never

abbrev pub AsksDepot : depots.Call → Walks Step Answer
AsksDepot call = Asks (on_depot call) after_depot

-- A job of a script. A call of a device, damage and a closing name a device by its place in the context.
pub data Job : Type 0 where
  calls : (device : ℕ) (call : DeviceCall) → Job
  rotates : (salt : List ℕ) → Job
  closes : (device : ℕ) → Job
  evicts : (host : ℕ) → Job
  drops_stripe : (index device chunk : ℕ) → Job
  flips_stripe : (index device chunk at : ℕ) → Job
  forges : (device chunk : ℕ) → Job
  loses : (node : ℕ) → Job

-- what a job does on a device
abbrev pub OnDevice : Context → ℕ → (DevicePlace → Walks Step Answer) → Walks Step Answer
OnDevice context device more steps answer = (place : DevicePlace) × (slice_get context.devices device ≡ Some place) × more place steps answer

-- a finished job
abbrev pub WalksJob : Context → Job → Walks Step Answer
WalksJob context (calls device call) = OnDevice context device (λ place. CallsDevice context.nodes device place call)
WalksJob context (rotates salt) = AsksDepot (depots.rotates salt)
WalksJob context (closes device) = OnDevice context device (λ place. AsksDepot (depots.closes place.lease))
WalksJob context (evicts host) = Evicts host
WalksJob context (drops_stripe index device chunk) = OnDevice context device (λ place. Damages place chunk (DropsStripe context.nodes index))
WalksJob context (flips_stripe index device chunk at) = OnDevice context device (λ place. Damages place chunk (FlipsStripe context.nodes index at))
WalksJob context (forges device chunk) = OnDevice context device (λ place. Damages place chunk (Forges context.nodes))
WalksJob context (loses node) = Loses node

-- A job, finished, cut or not begun. A cut one made a proper part of a walk, and not nothing.
abbrev pub IsWalk : Context → Job → Walks Step Answer
IsWalk context job steps Cut =
    (first : Step) × (more : List Step) × (next : Step) × (later : List Step) × (answer : Answer)
    × (steps ≡ first ∷ more) × WalksJob context job (steps ++ next ∷ later) answer
IsWalk context job steps Unbegun = steps ≡ []
IsWalk context job steps answer = WalksJob context job steps answer
