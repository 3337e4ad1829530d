-- Calls on the objects of a run with their replies, as plain data.
use Rattle.std.specs.Prelude.{ℕ, Bool, true, false}
use Rattle.lr_object.specs.declared.id.ObjectId.{ObjectId}
use Rattle.lr_object.specs.declared.id.ObjectId.TheVariants as object
use Rattle.lr_walk.specs.Walk as walks
use Rattle.lr_walk.specs.Depot as depots
use Rattle.lr_walk.specs.Cache as caches
use Rattle.lr_walk.specs.Node as nodes
use Rattle.lr_walk.specs.Device as devices

-- a call, with the number of the device, cache or node that it is on
pub data Call : Type 0 where
  on_device : (device : ℕ) (call : devices.Call) → Call
  on_cache : (host : ℕ) (call : caches.Call) → Call
  on_node : (node : ℕ) (call : nodes.Call) → Call
  on_depot : (call : depots.Call) → Call

pub data Reply : Type 0 where
  by_device : (reply : devices.Reply) → Reply
  by_cache : (reply : caches.Reply) → Reply
  by_node : (reply : nodes.Reply) → Reply
  by_depot : (reply : depots.Reply) → Reply

-- a call with its reply
abbrev pub Step : Type 0
Step = walks.Step Call Reply

abbrev pub step : Call → Reply → Step
step call reply = walks.step call reply

-- the object that is called
abbrev pub object_of : Call → ObjectId
object_of (on_device device call) = object.Device device
object_of (on_cache host call) = object.Cache host
object_of (on_node node call) = object.Node node
object_of (on_depot call) = object.Depot

-- The object may give this reply to this call, by its table.
abbrev pub Answers : Call → Reply → Type 0
Answers (on_device device call) (by_device reply) = devices.Answers call reply
Answers (on_cache host call) (by_cache reply) = caches.Answers call reply
Answers (on_node node call) (by_node reply) = nodes.Answers call reply
Answers (on_depot call) (by_depot reply) = depots.Answers call reply
Answers call reply = ⊥

-- first this call, and after it what its reply asks for
abbrev pub Asks : {E : Type 0} → Call → (Reply → walks.Walks Step E) → walks.Walks Step E
Asks call after = walks.Begins (λ reply s. walks.IsStep Answers call reply s) after

-- a step on the depot, as one among those of all objects
abbrev pub depot_step : depots.Step → Step
depot_step s = step (on_depot s.call) (by_depot s.reply)

-- a step on a device
abbrev pub device_step : ℕ → devices.Step → Step
device_step device s = step (on_device device s.call) (by_device s.reply)

-- a step on the cache of a host
abbrev pub cache_step : ℕ → caches.Step → Step
cache_step host s = step (on_cache host s.call) (by_cache s.reply)

-- a step on a node
abbrev pub node_step : ℕ → nodes.Step → Step
node_step node s = step (on_node node s.call) (by_node s.reply)

-- whether the called object found no memory
abbrev pub is_memory : Reply → Bool
is_memory (by_device devices.memory) = true
is_memory (by_cache caches.memory) = true
is_memory (by_node nodes.memory) = true
is_memory (by_depot depots.memory) = true
is_memory reply = false
