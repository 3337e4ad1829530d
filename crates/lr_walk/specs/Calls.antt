-- The walk of a device call: its plan, a load for each chunk that it needs, and its commit.
use Rattle.std.specs.Prelude.{◌≡◌, ℕ, List, [], ◌∷◌, ◌++◌, Some, slice_get}
use Rattle.std.specs.List.{AllByRecursion, Contains}
use Rattle.lr_manifest.specs.declared.name.Name.{Name}
use Rattle.lr_device.specs.declared.call.DeviceCall.{DeviceCall}
use Rattle.lr_device.specs.declared.call.DeviceReply.{DeviceReply}
use Rattle.lr_device.specs.declared.call.DeviceReply.TheVariants as reply
use Rattle.lr_walk.specs.declared.place.LoadPlace.{LoadPlace}
use Rattle.lr_walk.specs.declared.trail.Answer.{Answer}
use Rattle.lr_walk.specs.declared.trail.Answer.TheVariants.{Done, Range, Fault, Spoiled, Memory}
use Rattle.lr_walk.specs.Walk.{Walks, Ends, Never, Or, Then}
use Rattle.lr_walk.specs.Steps.{on_device, Reply, by_device, Step, step, Asks}
use Rattle.lr_walk.specs.Load.{Ending, with_chunk, with_reply, with_memory, Loads}
use Rattle.lr_walk.specs.Depot as depots
use Rattle.lr_walk.specs.Device as devices

-- A device's place among what all actors share: its host, its lease, the names of its manifest, and the keys of these chunks.
pub record DevicePlace : Type 0 where
  pub host : ℕ
  pub lease : ℕ
  pub names : List Name
  pub keys : List (List ℕ)

-- the answer of a device call that got this reply
abbrev pub answer_of : DeviceReply → Answer
answer_of reply.Range = Range
answer_of told = Done

-- the plan is dropped, and the job ends so
abbrev pub after_drop : Answer → Reply → Walks Step Answer
after_drop answer (by_device devices.dropped) = Ends answer
after_drop answer told = Never

abbrev pub Drops : ℕ → Answer → Walks Step Answer
Drops device answer = Asks (on_device device devices.drops) (after_drop answer)

-- The planned call is made. The entry keeps it, and some of the pieces that were handed in.
abbrev pub Commits : ℕ → DeviceCall → List devices.Piece → Walks Step Answer
Commits device call pieces steps answer =
    (used : List devices.Piece) × (told : DeviceReply)
    × (steps ≡ step (on_device device (devices.commits (Some call) used)) (by_device (devices.committed told)) ∷ [])
    × AllByRecursion (Contains pieces) used × (answer ≡ answer_of told)

-- the place of a load of a device's chunk
abbrev pub load_place : ℕ → DevicePlace → ℕ → Name → LoadPlace
load_place nodes place i name = record { host = place.host; lease = place.lease; index = i; name = name; nodes = nodes }

-- After a load: with its chunk the call goes on, else the plan is dropped and the load's answer is the job's.
abbrev pub after_load : ℕ → (List ℕ → Walks Step Answer) → Ending → Walks Step Answer
after_load device more (with_chunk chunk) = more chunk
after_load device more (with_reply (depots.fault key)) = Drops device (Fault key)
after_load device more (with_reply (depots.spoiled key)) = Drops device (Spoiled key)
after_load device more with_memory = Drops device Memory
after_load device more end = Never

-- A load of the chunk of this number, by its name in the manifest. Its piece has the key of this number.
abbrev pub LoadsOne : ℕ → ℕ → DevicePlace → ℕ → (devices.Piece → Walks Step Answer) → Walks Step Answer
LoadsOne nodes device place i more steps answer =
    (name : Name) × (key : List ℕ) × (slice_get place.names i ≡ Some name) × (slice_get place.keys i ≡ Some key)
    × Then (Loads (load_place nodes place i name)) (after_load device (λ chunk. more (record { index = i; chunk = chunk; key = key }))) steps answer

-- A load for each number that is left, ascending, then the commit with the pieces of all. Where the actor itself finds no memory it drops the plan.
abbrev pub LoadsAll : ℕ → ℕ → DevicePlace → DeviceCall → List ℕ → List devices.Piece → Walks Step Answer
LoadsAll nodes device place call [] pieces = Or (Commits device call pieces) (Drops device Memory)
LoadsAll nodes device place call (i ∷ needs) pieces =
    Or (LoadsOne nodes device place i (λ piece. LoadsAll nodes device place call needs (pieces ++ piece ∷ []))) (Drops device Memory)

abbrev pub after_plan : ℕ → ℕ → DevicePlace → DeviceCall → Reply → Walks Step Answer
after_plan nodes device place call (by_device (devices.planned needs pages)) = LoadsAll nodes device place call needs []
after_plan nodes device place call (by_device devices.memory) = Ends Memory
after_plan nodes device place call told = Never

-- A device call. Where the actor finds no memory to begin it, it makes no step.
abbrev pub CallsDevice : ℕ → ℕ → DevicePlace → DeviceCall → Walks Step Answer
CallsDevice nodes device place call = Or (Asks (on_device device (devices.plans call)) (after_plan nodes device place call)) (Ends Memory)
