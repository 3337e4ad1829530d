-- The node machine: what each call answers and leaves, one line a row.
use Rattle.std.specs.Prelude.{◌≡◌, ℕ, ◌<◌, List, [], ◌∷◌, Bool, true, false, Option, Some, None, IsSome, IsNone, find, fold, length, take, ⊤}
use Rattle.std.specs.Arc.{arc_value}
use Rattle.lr_manifest.specs.declared.name.Name.{Name}
use Rattle.lr_stripe.specs.declared.stripe.Stripe.{Stripe}
use Rattle.lr_object.specs.declared.entry.Entry.{Entry}
use Rattle.lr_object.specs.Finds.{without_first}
use Rattle.lr_nodes.specs.Stripes.{is_at, flipped_at, with_first}
use Rattle.lr_nodes.specs.declared.call.NodeCall.{NodeCall}
use Rattle.lr_nodes.specs.declared.call.NodeCall.TheVariants.{Get, Put, Drop, Flip, Lose}
use Rattle.lr_nodes.specs.declared.call.NodeReply.{NodeReply}
use Rattle.lr_nodes.specs.declared.call.NodeReply.TheVariants.{Found, Absent, Kept, Dropped, Flipped, Lost, OutOfMemory}

-- the calls that may be made: a flip names a place within a stripe
abbrev pub May : NodeCall → Type 0
May (Flip name index at) = at < 131072
May call = ⊤

-- what a call with this reply leaves of the stripes, the most recent first, at this capacity
abbrev pub stripes_after : ℕ → List Stripe → NodeCall → NodeReply → List Stripe
stripes_after capacity stripes (Get name index) (Found s) = arc_value s ∷ without_first (is_at name index) stripes
stripes_after capacity stripes (Put s) Kept =
    take capacity (arc_value s ∷ without_first (is_at (arc_value s).name (arc_value s).index) stripes)
stripes_after capacity stripes (Drop name index) Dropped = without_first (is_at name index) stripes
stripes_after capacity stripes (Flip name index at) Flipped = with_first (is_at name index) (flipped_at at) stripes
stripes_after capacity stripes Lose (Lost n) = []
stripes_after capacity stripes call reply = stripes

-- The node, holding these stripes, gives this reply to this call. Want of memory is free.
abbrev pub NodeStep : List Stripe → NodeCall → NodeReply → Type 0
NodeStep stripes (Get name index) (Found s) = find (is_at name index) stripes ≡ Some (arc_value s)
NodeStep stripes (Get name index) Absent = IsNone (find (is_at name index) stripes)
NodeStep stripes (Put s) Kept = ⊤
NodeStep stripes (Drop name index) Dropped = IsSome (find (is_at name index) stripes)
NodeStep stripes (Drop name index) Absent = IsNone (find (is_at name index) stripes)
NodeStep stripes (Flip name index at) Flipped = IsSome (find (is_at name index) stripes)
NodeStep stripes (Flip name index at) Absent = IsNone (find (is_at name index) stripes)
NodeStep stripes Lose (Lost n) = n ≡ length stripes
NodeStep stripes call OutOfMemory = ⊤
NodeStep stripes call reply = ⊥

-- whether the log keeps a reply
abbrev pub is_logged : NodeReply → Bool
is_logged OutOfMemory = false
is_logged reply = true

-- The replies are the same: of a stripe that was found, its name, index, bytes and digest.
abbrev pub SameReply : NodeReply → NodeReply → Type 0
SameReply (Found a) (Found b) = arc_value a ≡ arc_value b
SameReply (Found a) reply = ⊥
SameReply told reply = told ≡ reply

-- a line of a node's log
abbrev pub LogEntry : Type 0
LogEntry = Entry NodeCall NodeReply

-- the stripes after an entry
abbrev pub after_entry : ℕ → List Stripe → LogEntry → List Stripe
after_entry capacity stripes e = stripes_after capacity stripes e.call e.reply

-- the stripes that a node of this capacity holds after a log
abbrev pub run : ℕ → List LogEntry → List Stripe
run capacity log = fold (after_entry capacity) [] log

-- The log may keep this entry of a call and its reply.
pub record Enters (call : NodeCall) (reply : NodeReply) (e : LogEntry) : Type 0 where
  pub logged : is_logged reply ≡ true
  pub noted : e.call ≡ call
  pub told : SameReply e.reply reply
