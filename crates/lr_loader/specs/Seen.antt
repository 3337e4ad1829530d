-- The program's calls, replies, ends and stages, as plain data.
use Rattle.std.specs.Prelude.{◌≡◌, ◌≤◌, ◌<◌, ℕ, ◌-◌, List, [], length, map, Option, Some, None, ⊤, vec_capacity}
use Rattle.std.specs.Arc.{arc_value}
use Rattle.lr_object.specs.declared.id.ObjectId.{ObjectId}
use Rattle.lr_object.specs.declared.id.ObjectId.TheVariants as object
use Rattle.lr_manifest.specs.declared.name.Name.{Name}
use Rattle.lr_stripe.specs.declared.stripe.Stripe.{Stripe}
use Rattle.lr_depot.specs.declared.call.DepotReply.{DepotReply}
use Rattle.lr_depot.specs.declared.call.DepotReply.TheVariants as depot
use Rattle.lr_nodes.specs.Machine.{May}
use Rattle.lr_walk.specs.declared.place.LoadPlace.{LoadPlace}
use Rattle.lr_walk.specs.Steps.{Call, on_cache, on_node, on_depot, Reply, by_cache, by_node, by_depot}
use Rattle.lr_walk.specs.Load.{Ending, with_chunk, with_reply, with_memory}
use Rattle.lr_walk.specs.Depot as depots
use Rattle.lr_walk.specs.Cache as caches
use Rattle.lr_walk.specs.Node as nodes
use Rattle.lr_loader.specs.declared.action.LoadAction.{LoadAction}
use Rattle.lr_loader.specs.declared.action.LoadAction.TheVariants as action
use Rattle.lr_loader.specs.declared.action.LoadReply.{LoadReply}
use Rattle.lr_loader.specs.declared.action.LoadReply.TheVariants as by
use Rattle.lr_loader.specs.declared.action.LoadEnd.{LoadEnd}
use Rattle.lr_loader.specs.declared.action.LoadEnd.TheVariants as an
use Rattle.lr_loader.specs.declared.stage.Stage.{Stage}
use Rattle.lr_loader.specs.declared.stage.Stage.TheVariants as stage
use Rattle.lr_loader.specs.declared.stage.Turn.{Turn}
use Rattle.lr_loader.specs.Held.{AreHeld}
use Rattle.lr_loader.specs.Progress.{Need, looking, asking, fetching, putting, filling, giving, ended, Asked, a_call, an_end, asked, Rebuilt, PutsFirst, IsShort}

abbrev pub seen_end : LoadEnd → Ending
seen_end (an.Chunk chunk) = with_chunk (arc_value chunk)
seen_end (an.Other reply) = with_reply (depots.seen_reply reply)
seen_end an.Memory = with_memory

abbrev pub seen_action : LoadAction → Asked
seen_action (action.Cache host call) = a_call (on_cache host (caches.seen_call call))
seen_action (action.Node node call) = a_call (on_node node (nodes.seen_call call))
seen_action (action.Depot call) = a_call (on_depot (depots.seen_call call))
seen_action (action.End end) = an_end (seen_end end)

abbrev pub seen_reply : LoadReply → Reply
seen_reply (by.Cache reply) = by_cache (caches.seen_reply reply)
seen_reply (by.Node reply) = by_node (nodes.seen_reply reply)
seen_reply (by.Depot reply) = by_depot (depots.seen_reply reply)

-- the bytes of a chunk that was fetched
abbrev pub fetched_chunk : LoadReply → List ℕ
fetched_chunk (by.Depot (depot.Fetched chunk)) = arc_value chunk
fetched_chunk reply = []

-- the called object
abbrev pub called_object : LoadAction → Option ObjectId
called_object (action.Cache host call) = Some (object.Cache host)
called_object (action.Node node call) = Some (object.Node node)
called_object (action.Depot call) = Some object.Depot
called_object (action.End end) = None

-- the call passes the test of calls of its object
abbrev pub MayBeMade : LoadAction → Type 0
MayBeMade (action.Node node call) = May call
MayBeMade action = ⊤

-- what a stage needs
abbrev pub need_of : Stage → Need
need_of stage.Looks = looking
need_of (stage.Asks left held) = asking left (map arc_value held.items)
need_of stage.Fetches = fetching
need_of (stage.Puts stripe more chunk spare) = putting (arc_value chunk) stripe.value (map arc_value more.items)
need_of (stage.Fills chunk) = filling (arc_value chunk)
need_of (stage.Gives end) = giving (seen_end end)
need_of (stage.Ends end) = ended (seen_end end.value)

-- Fewer than four good stripes of the name are in hand, of indices that were asked, and there is room for four.
pub record IsAsking (name : Name) (left : ℕ) (held : List Stripe) (room : ℕ) : Type 0 where
  pub within : left ≤ 4
  pub few : length held < 4
  pub good : AreHeld name (4 - left) held
  pub spare : 4 ≤ room

-- what a stage keeps
abbrev pub IsKept : Name → Stage → Type 0
IsKept name (stage.Asks left held) = IsAsking name left (map arc_value held.items) (vec_capacity held)
IsKept name (stage.Puts stripe more chunk spare) = arc_value spare ≡ arc_value chunk
IsKept name stage = ⊤

-- the call prepared is the one asked
abbrev pub IsPrepared : LoadPlace → Stage → Option LoadAction → Type 0
IsPrepared place stage (Some action) = (seen_action action ≡ asked place (need_of stage)) × MayBeMade action
IsPrepared place stage None = ⊤

-- A stage with its call prepared.
pub record IsTurn (place : LoadPlace) (turn : Turn) : Type 0 where
  pub kept : IsKept place.name turn.stage
  pub prepared : seen_action turn.ready ≡ asked place (need_of turn.stage)
  pub may : MayBeMade turn.ready

-- a reply of a node
abbrev pub IsOfNode : Reply → Type 0
IsOfNode (by_node reply) = ⊤
IsOfNode reply = ⊥
