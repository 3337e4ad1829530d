-- What holds after every log of a node.
use Rattle.std.specs.Prelude.{ℕ, ◌≤◌, List, [], length, count_by}
use Rattle.lr_manifest.specs.declared.name.Name.{Name}
use Rattle.lr_stripe.specs.declared.stripe.Stripe.{Stripe}
use Rattle.lr_object.specs.Grown.{Grown}
use Rattle.lr_nodes.specs.declared.call.NodeCall.{NodeCall}
use Rattle.lr_nodes.specs.declared.call.NodeReply.{NodeReply}
use Rattle.lr_nodes.specs.Stripes.{is_at}
use Rattle.lr_nodes.specs.Machine.{NodeStep, LogEntry, run, Enters}

-- the test of answers of a node of this capacity
abbrev pub Answers : ℕ → List LogEntry → ℕ → NodeCall → NodeReply → Type 0
Answers capacity log caller call reply = NodeStep (run capacity log) call reply

-- the test of entries
abbrev pub MayEnter : ℕ → List LogEntry → ℕ → NodeCall → NodeReply → LogEntry → Type 0
MayEnter capacity log caller call reply e = Enters call reply e

-- The log is one that calls made of an empty one.
abbrev pub IsNodeLog : ℕ → List LogEntry → Type 0
IsNodeLog capacity log = Grown Answers MayEnter capacity [] log

-- At most one stripe is of a name and index, and the stripes are at most the capacity.
pub record IsOrderly (capacity : ℕ) (stripes : List Stripe) : Type 0 where
  pub once : (name : Name) (index : ℕ) → count_by (is_at name index) stripes ≤ 1
  pub within : length stripes ≤ capacity

-- A node is orderly after every log.
abbrev pub NodesAreOrderly : Type 0
NodesAreOrderly = (capacity : ℕ) (log : List LogEntry) → IsNodeLog capacity log → IsOrderly capacity (run capacity log)
