-- Calls on a node with their replies, as plain data: stripes by their value.
use Rattle.std.specs.Prelude.{◌≡◌, ℕ, true, ⊤}
use Rattle.std.specs.Arc.{arc_value}
use Rattle.lr_manifest.specs.declared.name.Name.{Name}
use Rattle.lr_stripe.specs.declared.stripe.Stripe.{Stripe}
use Rattle.lr_nodes.specs.declared.call.NodeCall.{NodeCall}
use Rattle.lr_nodes.specs.declared.call.NodeCall.TheVariants as call
use Rattle.lr_nodes.specs.declared.call.NodeReply.{NodeReply}
use Rattle.lr_nodes.specs.declared.call.NodeReply.TheVariants as by
use Rattle.lr_nodes.specs.Machine.{LogEntry}
use Rattle.lr_nodes.specs.Stripes.{is_at}
use Rattle.lr_walk.specs.Walk as walks

pub data Call : Type 0 where
  gets : (name : Name) (index : ℕ) → Call
  puts : (stripe : Stripe) → Call
  drops : (name : Name) (index : ℕ) → Call
  flips : (name : Name) (index at : ℕ) → Call
  loses : Call

pub data Reply : Type 0 where
  found : (stripe : Stripe) → Reply
  absent : Reply
  kept : Reply
  dropped : Reply
  flipped : Reply
  lost : (count : ℕ) → Reply
  memory : Reply

abbrev pub seen_call : NodeCall → Call
seen_call (call.Get name index) = gets name index
seen_call (call.Put stripe) = puts (arc_value stripe)
seen_call (call.Drop name index) = drops name index
seen_call (call.Flip name index at) = flips name index at
seen_call call.Lose = loses

abbrev pub seen_reply : NodeReply → Reply
seen_reply (by.Found stripe) = found (arc_value stripe)
seen_reply by.Absent = absent
seen_reply by.Kept = kept
seen_reply by.Dropped = dropped
seen_reply by.Flipped = flipped
seen_reply (by.Lost n) = lost n
seen_reply by.OutOfMemory = memory

-- a call on a node with its reply
abbrev pub Step : Type 0
Step = walks.Step Call Reply

abbrev pub step : Call → Reply → Step
step call reply = walks.step call reply

-- the step of a line of a node's log
abbrev pub step_of : LogEntry → Step
step_of e = step (seen_call e.call) (seen_reply e.reply)

-- The node may give this reply to this call, by its table. What is found is of the name and the index.
abbrev pub Answers : Call → Reply → Type 0
Answers (gets name index) (found stripe) = is_at name index stripe ≡ true
Answers (gets name index) absent = ⊤
Answers (gets name index) memory = ⊤
Answers (puts stripe) kept = ⊤
Answers (puts stripe) memory = ⊤
Answers (drops name index) dropped = ⊤
Answers (drops name index) absent = ⊤
Answers (drops name index) memory = ⊤
Answers (flips name index at) flipped = ⊤
Answers (flips name index at) absent = ⊤
Answers (flips name index at) memory = ⊤
Answers loses (lost n) = ⊤
Answers loses memory = ⊤
Answers call reply = ⊥
