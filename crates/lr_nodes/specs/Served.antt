-- What a call does to a node.
use Rattle.std.specs.Prelude.{ℕ, List}
use Rattle.lr_object.specs.Kept.{Sized, Keeps}
use Rattle.lr_nodes.specs.declared.call.NodeCall.{NodeCall}
use Rattle.lr_nodes.specs.declared.call.NodeReply.{NodeReply}
use Rattle.lr_nodes.specs.declared.call.NodeReply.TheVariants.{Absent, OutOfMemory}
use Rattle.lr_stripe.specs.declared.stripe.Stripe.{Stripe}
use Rattle.lr_nodes.specs.Machine.{is_logged, NodeStep, Enters}

-- a node, as contracts see it
abbrev pub Seen : Type 0
Seen = Sized NodeCall NodeReply

-- The log has one entry more where the reply is logged, and the node is else as it was, as far as callers can tell.
abbrev pub Serves : Seen → Seen → ℕ → NodeCall → NodeReply → Type 0
Serves old new caller call reply = Keeps (is_logged reply) (Enters call reply) old new caller

-- The call names a stripe that isn't there.
abbrev pub Misses : List Stripe → NodeCall → Type 0
Misses stripes call = NodeStep stripes call Absent × NodeStep stripes call OutOfMemory
