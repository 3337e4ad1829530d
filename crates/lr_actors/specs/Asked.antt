-- What is asked of an object and what it replies, as plain data, and what the two add to a list of steps.
use Rattle.std.specs.Prelude.{◌≡◌, ℕ, List, [], ◌∷◌, map, Some, ⊤}
use Rattle.std.specs.List.{AllByRecursion, Contains}
use Rattle.std.specs.Arc.{arc_value}
use Rattle.lr_device.specs.declared.call.DeviceCall.{DeviceCall}
use Rattle.lr_device.specs.declared.step.DeviceStep.{DeviceStep}
use Rattle.lr_device.specs.declared.step.DeviceStep.TheVariants as asks
use Rattle.lr_device.specs.Room.{Suits}
use Rattle.lr_device.specs.Answers as device_calls
use Rattle.lr_nodes.specs.Machine as node_calls
use Rattle.lr_walk.specs.declared.trail.Answer.{Answer}
use Rattle.lr_walk.specs.Steps.{Call, on_device, on_cache, on_node, on_depot, Reply, by_device, by_cache, by_node, by_depot, Step, step}
use Rattle.lr_walk.specs.Depot as depots
use Rattle.lr_walk.specs.Cache as caches
use Rattle.lr_walk.specs.Node as nodes
use Rattle.lr_walk.specs.Device as devices
use Rattle.lr_actors.specs.declared.action.ActorCall.{ActorCall}
use Rattle.lr_actors.specs.declared.action.ActorCall.TheVariants as call
use Rattle.lr_actors.specs.declared.action.ActorReply.{ActorReply}
use Rattle.lr_actors.specs.declared.action.ActorReply.TheVariants as by
use Rattle.lr_actors.specs.declared.action.JobAction.{JobAction}
use Rattle.lr_actors.specs.declared.action.JobAction.TheVariants as action

-- What a job asks next: a call; the commit of its planned call, with these pieces and room for so many pages; nothing, as it ended.
pub data Asked : Type 0 where
  a_call : (call : Call) → Asked
  a_commit : (device : ℕ) (planned : DeviceCall) (pages : ℕ) (pieces : List devices.Piece) → Asked
  an_end : (answer : Answer) → Asked
  no_call : Asked

-- The call of a device is the one asked. The room of a commit was made for its planned call and so many pages.
abbrev pub HandsStep : ℕ → DeviceStep → Asked → Type 0
HandsStep n (asks.Plan call) a = a_call (on_device n (devices.plans (arc_value call))) ≡ a
HandsStep n (asks.Commit pieces room) (a_commit device planned pages handed) = (n ≡ device) × (map devices.seen_piece pieces.items ≡ handed) × Suits planned pages room
HandsStep n (asks.Commit pieces room) a = ⊥
HandsStep n asks.Drop a = a_call (on_device n devices.drops) ≡ a
HandsStep n asks.Reap a = a_call (on_device n devices.reaps) ≡ a

abbrev pub HandsCall : ActorCall → Asked → Type 0
HandsCall (call.Device n step) a = HandsStep n step a
HandsCall (call.Cache n c) a = a_call (on_cache n (caches.seen_call c)) ≡ a
HandsCall (call.Node n c) a = a_call (on_node n (nodes.seen_call c)) ≡ a
HandsCall (call.Depot c) a = a_call (on_depot (depots.seen_call c)) ≡ a

-- the action is the one asked
abbrev pub Hands : JobAction → Asked → Type 0
Hands (action.Call c) a = HandsCall c a
Hands (action.End answer) a = an_end answer ≡ a

-- the call passes the test of calls of its object
abbrev pub MayCall : ActorCall → Type 0
MayCall (call.Device n step) = device_calls.May step
MayCall (call.Node n c) = node_calls.May c
MayCall c = ⊤

abbrev pub MayBeMade : JobAction → Type 0
MayBeMade (action.Call c) = MayCall c
MayBeMade (action.End answer) = ⊤

abbrev pub seen_reply : ActorReply → Reply
seen_reply (by.Device reply) = by_device (devices.seen_reply reply)
seen_reply (by.Cache reply) = by_cache (caches.seen_reply reply)
seen_reply (by.Node reply) = by_node (nodes.seen_reply reply)
seen_reply (by.Depot reply) = by_depot (depots.seen_reply reply)

-- What a call and its reply add to the steps made: nothing where the reply was Busy; of a commit the planned call with some of the pieces handed in.
abbrev pub Adds : Asked → Reply → List Step → Type 0
Adds (a_call call) (by_cache (caches.busy holder)) more = more ≡ []
Adds (a_call call) reply more = more ≡ step call reply ∷ []
Adds (a_commit device planned pages pieces) reply more =
    (used : List devices.Piece) × AllByRecursion (Contains pieces) used × (more ≡ step (on_device device (devices.commits (Some planned) used)) reply ∷ [])
Adds (an_end answer) reply more = ⊥
Adds no_call reply more = ⊥
