-- A device call under way, as contracts see it.
use Rattle.std.specs.Prelude.{◌≡◌, ◌⊎◌, ◌≤◌, ◌<◌, ◌+◌, ◌*◌, ℕ, List, [], ◌∷◌, ◌++◌, length, map, Bool, false, Some, slice_get, ⊤}
use Rattle.std.specs.List.{AllByRecursion}
use Rattle.lr_manifest.specs.declared.name.Name.{Name}
use Rattle.lr_device.specs.declared.call.DeviceCall.{DeviceCall}
use Rattle.lr_walk.specs.declared.place.LoadPlace.{LoadPlace}
use Rattle.lr_walk.specs.declared.trail.Answer.{Answer}
use Rattle.lr_walk.specs.declared.trail.Answer.TheVariants.{Fault, Spoiled, Memory}
use Rattle.lr_walk.specs.Walk.{Walks, Ends, Then}
use Rattle.lr_walk.specs.Stands.{Stands}
use Rattle.lr_walk.specs.Stands as stands
use Rattle.lr_object.specs.declared.id.ObjectId.TheVariants.{Device}
use Rattle.lr_walk.specs.Trails.{is_same}
use Rattle.lr_walk.specs.Steps.{on_device, Reply, by_device, by_cache, by_depot, Step, step, object_of}
use Rattle.lr_walk.specs.Load.{Ending, with_chunk, with_reply, with_memory}
use Rattle.lr_walk.specs.Calls.{DevicePlace, answer_of, Drops, Commits, load_place, after_load, LoadsAll, CallsDevice}
use Rattle.lr_walk.specs.Depot as depots
use Rattle.lr_walk.specs.Cache as caches
use Rattle.lr_walk.specs.Device as devices
use Rattle.lr_loader.specs.Progress as loads
use Rattle.lr_actors.specs.Asked.{Asked, a_call, a_commit, an_end, no_call}

-- a call of a device at its place, among so many nodes
pub record Work : Type 0 where
  pub nodes : ℕ
  pub device : ℕ
  pub place : DevicePlace
  pub call : DeviceCall

abbrev pub Serves : Work → Walks Step Answer
Serves w = CallsDevice w.nodes w.device w.place w.call

-- a chunk's load, with the key of its piece
pub record Chunk : Type 0 where
  pub place : LoadPlace
  pub key : List ℕ

-- what is left of a planned call: how many page buffers its commit can want, the numbers still to load, and the pieces so far
pub record Left : Type 0 where
  pub pages : ℕ
  pub needs : List ℕ
  pub pieces : List devices.Piece

-- what a device call needs next
pub data Need : Type 0 where
  planning : Need
  loading : (chunk : Chunk) (need : loads.Need) (left : Left) → Need
  committing : (pages : ℕ) (pieces : List devices.Piece) → Need
  dropping : (answer : Answer) → Need
  ended : (answer : Answer) → Need

pub record Progress : Type 0 where
  pub work : Work
  pub need : Need
  pub ready : Bool  -- a call is prepared, or the end

abbrev pub piece_of : Chunk → List ℕ → devices.Piece
piece_of chunk bytes = record { index = chunk.place.index; chunk = bytes; key = chunk.key }

-- the pieces with that of a chunk which was loaded
abbrev pub with_piece : Left → Chunk → List ℕ → List devices.Piece
with_piece left chunk bytes = left.pieces ++ piece_of chunk bytes ∷ []

-- what comes after a load that brought these bytes
abbrev pub LoadsMore : Work → Chunk → Left → List ℕ → Walks Step Answer
LoadsMore w chunk left bytes = LoadsAll w.nodes w.device w.place w.call left.needs (with_piece left chunk bytes)

-- what comes after a load
abbrev pub AfterLoad : Work → Chunk → Left → Ending → Walks Step Answer
AfterLoad w chunk left end = after_load w.device (LoadsMore w chunk left) end

-- what may still come
abbrev pub Rest : Work → Need → Walks Step Answer
Rest w planning = Serves w
Rest w (loading chunk need left) = Then (loads.Rest chunk.place need) (AfterLoad w chunk left)
Rest w (committing pages pieces) = Commits w.device w.call pieces
Rest w (dropping answer) = Drops w.device answer
Rest w (ended answer) = Ends answer

-- The call stands for these steps: with what may still come they are a walk.
abbrev pub StandsFor : Progress → List Step → Type 0
StandsFor p steps = Stands (Serves p.work) (Rest p.work) p.need steps

-- the steps are a walk of the call, or the front of one
abbrev pub IsFront : Work → List Step → Type 0
IsFront w steps = stands.IsFront (Serves w) steps

-- a load's call, as one of the job's
abbrev pub asked_by : loads.Asked → Asked
asked_by (loads.a_call call) = a_call call
asked_by (loads.an_end end) = no_call

abbrev pub asked : Work → Need → Asked
asked w planning = a_call (on_device w.device (devices.plans w.call))
asked w (loading chunk need left) = asked_by (loads.asked chunk.place need)
asked w (committing pages pieces) = a_commit w.device w.call pages pieces
asked w (dropping answer) = a_call (on_device w.device devices.drops)
asked w (ended answer) = an_end answer

-- ---- which replies are taken

-- the number is that of a chunk
abbrev pub HasChunk : DevicePlace → ℕ → Type 0
HasChunk place i = i < length place.names

-- the lease is out, and the chunk is one of its image
abbrev pub HasLease : Reply → Type 0
HasLease (by_depot depots.no_lease) = ⊥
HasLease (by_depot depots.no_chunk) = ⊥
HasLease reply = ⊤

-- The replies that `take` admits: those that the called object gives by its table, while the plan and the claim are the
-- job's own and the lease is out. A plan names chunks of the image alone, and its end takes no memory.
abbrev pub Admits : Work → Need → Reply → Type 0
Admits w planning (by_device (devices.planned needs pages)) = AllByRecursion (HasChunk w.place) needs
Admits w planning (by_device devices.memory) = ⊤
Admits w (loading chunk need left) reply = loads.Admits chunk.place need reply × HasLease reply
Admits w (committing pages pieces) (by_device (devices.committed told)) = ⊤
Admits w (dropping answer) (by_device devices.dropped) = ⊤
Admits w need reply = ⊥

-- ---- what a device call needs after a reply

-- the machine found no memory itself, and drops its plan
abbrev pub IsShort : Need → Type 0
IsShort new = new ≡ dropping Memory

-- the chunk of this number is loaded next
abbrev pub LoadsNext : Work → ℕ → Left → Need → Type 0
LoadsNext w i left new =
    (name : Name) × (key : List ℕ) × (slice_get w.place.names i ≡ Some name) × (slice_get w.place.keys i ≡ Some key)
    × (new ≡ loading (record { place = load_place w.nodes w.place i name; key = key }) loads.looking left)

-- the first of these numbers is loaded next, or with all loaded the call is committed
abbrev pub NextOf : Work → ℕ → List ℕ → List devices.Piece → Need → Type 0
NextOf w pages [] pieces new = new ≡ committing pages pieces
NextOf w pages (i ∷ needs) pieces new = LoadsNext w i (record { pages = pages; needs = needs; pieces = pieces }) new

-- .. unless the machine finds no memory for it
abbrev pub GoesOn : Work → ℕ → List ℕ → List devices.Piece → Need → Type 0
GoesOn w pages needs pieces new = NextOf w pages needs pieces new ⊎ IsShort new

-- a load ended so
abbrev pub Loaded : Work → Chunk → Left → Ending → Need → Type 0
Loaded w chunk left (with_chunk bytes) new = GoesOn w left.pages left.needs (with_piece left chunk bytes) new
Loaded w chunk left (with_reply (depots.fault key)) new = new ≡ dropping (Fault key)
Loaded w chunk left (with_reply (depots.spoiled key)) new = new ≡ dropping (Spoiled key)
Loaded w chunk left (with_reply reply) new = ⊥
Loaded w chunk left with_memory new = new ≡ dropping Memory

-- a load goes on, or ended
abbrev pub LoadWent : Work → Chunk → Left → loads.Need → Need → Type 0
LoadWent w chunk left (loads.ended end) new = Loaded w chunk left end new
LoadWent w chunk left next new = new ≡ loading chunk next left

-- What the call needs after a reply; of a fetched chunk its bytes are given too.
abbrev pub Next : Work → Need → Reply → List ℕ → Need → Type 0
Next w planning (by_device (devices.planned needs pages)) fetched new = GoesOn w pages needs [] new
Next w planning reply fetched new = new ≡ ended Memory
Next w (loading chunk need left) reply fetched new =
    (next : loads.Need) × loads.Next chunk.place need reply fetched next × LoadWent w chunk left next new
Next w (committing pages pieces) (by_device (devices.committed told)) fetched new = new ≡ ended (answer_of told)
Next w (committing pages pieces) reply fetched new = ⊥
Next w (dropping answer) reply fetched new = new ≡ ended answer
Next w (ended answer) reply fetched new = ⊥

-- ---- how many steps may still come

abbrev pub steps_left : Need → ℕ
steps_left planning = 44
steps_left (loading chunk need left) = loads.steps_left need + (14 * length left.needs + 1)
steps_left (committing pages pieces) = 1
steps_left (dropping answer) = 1
steps_left (ended answer) = 0

-- each step brings the call nearer to its end, but Busy
abbrev pub Nears : Reply → Need → Need → Type 0
Nears (by_cache (caches.busy holder)) old new = steps_left new ≤ steps_left old
Nears reply old new = steps_left new + 1 ≤ steps_left old

-- ---- what a call's steps tell

-- the step is on another object than the device
abbrev pub IsElsewhere : ℕ → Step → Type 0
IsElsewhere device s = is_same (object_of s.call) (Device device) ≡ false

-- The first step planned the call, with these needs and pages. The later ones are on other objects.
pub record IsPlanned (w : Work) (needs : List ℕ) (pages : ℕ) (steps : List Step) : Type 0 where
  pub later : List Step
  pub first : steps ≡ step (on_device w.device (devices.plans w.call)) (by_device (devices.planned needs pages)) ∷ later
  pub elsewhere : AllByRecursion (IsElsewhere w.device) later

-- a load of the device's chunk
pub record IsLoadAt (w : Work) (place : LoadPlace) : Type 0 where
  pub name : Name
  pub named : slice_get w.place.names place.index ≡ Some name
  pub is : place ≡ load_place w.nodes w.place place.index name

-- what is loaded now is a chunk of the device
abbrev pub IsAtPlace : Work → Need → Type 0
IsAtPlace w (loading chunk need left) = IsLoadAt w chunk.place
IsAtPlace w need = ⊤

abbrev pub indices : List devices.Piece → List ℕ
indices pieces = map (λ (p : devices.Piece). p.index) pieces

-- Before its plan the call made no step. After it, the pieces that it has and the chunks that it still loads are just what the plan needs.
abbrev pub Knows : Work → Need → List Step → Type 0
Knows w planning steps = steps ≡ []
Knows w (loading chunk need left) steps = IsPlanned w (indices left.pieces ++ chunk.place.index ∷ left.needs) left.pages steps
Knows w (committing pages pieces) steps = IsPlanned w (indices pieces) pages steps
Knows w need steps = ⊤
