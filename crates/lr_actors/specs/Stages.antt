-- What the machine of a device call keeps.
use Rattle.std.specs.Prelude.{◌≡◌, ◌≤◌, ◌+◌, ℕ, List, [], length, map, drop, false, Option, Some, None, ⊤}
use Rattle.std.specs.List.{AllByRecursion}
use Rattle.std.specs.Arc.{arc_value}
use Rattle.lr_depot.specs.declared.call.DepotReply.TheVariants as depot
use Rattle.lr_device.specs.PlainDevice.{size_of}
use Rattle.lr_walk.specs.Steps.{Reply, by_device}
use Rattle.lr_walk.specs.Load.{Ending, with_reply}
use Rattle.lr_walk.specs.declared.trail.Answer.{Answer}
use Rattle.lr_walk.specs.declared.trail.Answer.TheVariants.{Memory}
use Rattle.lr_walk.specs.Calls.{answer_of}
use Rattle.lr_walk.specs.Depot as depots
use Rattle.lr_walk.specs.Device as devices
use Rattle.lr_loader.specs.Progress as loads
use Rattle.lr_actors.specs.declared.action.ActorReply.{ActorReply}
use Rattle.lr_actors.specs.declared.action.ActorReply.TheVariants as by
use Rattle.lr_actors.specs.declared.action.JobAction.{JobAction}
use Rattle.lr_actors.specs.declared.turns.Stage.{Stage}
use Rattle.lr_actors.specs.declared.turns.Stage.TheVariants as stage
use Rattle.lr_actors.specs.declared.turns.Turn.{Turn}
use Rattle.lr_actors.specs.declared.turns.Waiting.{Waiting}
use Rattle.lr_actors.specs.declared.turns.Fetching.{Fetching}
use Rattle.lr_actors.specs.declared.turns.Setting.{Setting}
use Rattle.lr_actors.specs.Places.{seen_place, IsPlace}
use Rattle.lr_actors.specs.Asked.{Hands, MayBeMade}
use Rattle.lr_actors.specs.Serving.{Work, Chunk, Left, Need, planning, loading, committing, dropping, ended, HasChunk, asked}

-- what a device call is of
abbrev pub work_of : Setting → Work
work_of s = record { nodes = s.nodes; device = s.device; place = seen_place s.place.value; call = s.call.value }

-- a plan names at most three chunks
abbrev pub IsFew : Reply → Type 0
IsFew (by_device (devices.planned needs pages)) = length needs ≤ 3
IsFew reply = ⊤

-- the bytes of a chunk that was fetched
abbrev pub fetched_chunk : ActorReply → List ℕ
fetched_chunk (by.Depot (depot.Fetched chunk)) = arc_value chunk
fetched_chunk reply = []

-- a reply that a load may get
abbrev pub IsOfLoad : Reply → Type 0
IsOfLoad (by_device reply) = ⊥
IsOfLoad reply = ⊤

-- a reply of a device
abbrev pub IsOfDevice : Reply → Type 0
IsOfDevice (by_device reply) = ⊤
IsOfDevice reply = ⊥

-- the planned call was made
abbrev pub IsCommitted : devices.Reply → Type 0
IsCommitted (devices.committed told) = ⊤
IsCommitted reply = ⊥

-- .. with this answer
abbrev pub committed_answer : devices.Reply → Answer
committed_answer (devices.committed told) = answer_of told
committed_answer reply = Memory

abbrev pub seen_left : Waiting → Left
seen_left waiting = record { pages = waiting.pages; needs = drop waiting.at waiting.needs; pieces = map devices.seen_piece waiting.pieces.items }

-- one load more was begun
abbrev pub left_after : Waiting → Left
left_after waiting = record { pages = waiting.pages; needs = drop (waiting.at + 1) waiting.needs; pieces = map devices.seen_piece waiting.pieces.items }

abbrev pub seen_chunk : Fetching → Chunk
seen_chunk f = record { place = f.load.place; key = f.key.bytes }

-- what a stage needs
abbrev pub need_of : Stage → Need
need_of (stage.Plans call) = planning
need_of (stage.Loads fetching waiting) = loading (seen_chunk fetching) fetching.load.need (seen_left waiting)
need_of (stage.Commits pages pieces) = committing pages (map devices.seen_piece pieces.value.items)
need_of (stage.Drops answer) = dropping answer
need_of (stage.Ends answer) = ended answer.value

-- The call is one that may be planned, on a device with a key for each chunk, among at least five nodes.
pub record IsWork (w : Work) : Type 0 where
  pub small : size_of w.call ≤ 1048576
  pub place : IsPlace w.place
  pub nodes : 5 ≤ w.nodes

-- a load ends with its chunk, for want of memory, or by a failure of the depot
abbrev pub EndsWell : Ending → Type 0
EndsWell (with_reply (depots.fault key)) = ⊤
EndsWell (with_reply (depots.spoiled key)) = ⊤
EndsWell (with_reply reply) = ⊥
EndsWell end = ⊤

-- it can end so alone
abbrev pub GoesWell : loads.Need → Type 0
GoesWell (loads.giving end) = EndsWell end
GoesWell (loads.ended end) = EndsWell end
GoesWell need = ⊤

-- .. and so the call can be ended
abbrev pub IsWell : Need → Type 0
IsWell (loading chunk need left) = GoesWell need
IsWell need = ⊤

-- it has not ended
abbrev pub IsUnderWay : loads.Need → Type 0
IsUnderWay (loads.ended end) = ⊥
IsUnderWay need = ⊤

-- it asks a call
abbrev pub IsLoadCall : loads.Asked → Type 0
IsLoadCall (loads.a_call call) = ⊤
IsLoadCall (loads.an_end end) = ⊥

-- what waits for the loads of a planned call
pub record IsWaiting (w : Work) (waiting : Waiting) : Type 0 where
  pub call : arc_value waiting.call ≡ w.call
  pub chunks : AllByRecursion (HasChunk w.place) (drop waiting.at waiting.needs)

-- a load of a chunk of the device, whose call is out
pub record IsFetching (w : Work) (f : Fetching) : Type 0 where
  pub handed : f.load.ready ≡ false
  pub index : f.load.place.index ≡ f.index
  pub goes : GoesWell f.load.need
  pub under_way : IsUnderWay f.load.need

-- what a stage keeps
abbrev pub IsKept : Work → Stage → Type 0
IsKept w (stage.Plans call) = arc_value call ≡ w.call
IsKept w (stage.Loads fetching waiting) = IsFetching w fetching × IsWaiting w waiting
IsKept w stage = ⊤

-- the call prepared is the one asked
abbrev pub IsPrepared : Work → Stage → Option JobAction → Type 0
IsPrepared w stage (Some action) = Hands action (asked w (need_of stage)) × MayBeMade action
IsPrepared w stage None = ⊤

-- A stage with its call prepared.
pub record IsTurn (w : Work) (turn : Turn) : Type 0 where
  pub kept : IsKept w turn.stage
  pub prepared : Hands turn.ready (asked w (need_of turn.stage))
  pub may : MayBeMade turn.ready
