-- What a device answers, one line a row.
use Rattle.std.specs.Prelude.{◌≡◌, ℕ, ◌≤◌, List, Bool, true, false, not, ◌||◌, nat_lt, Option, Some, None, IsSome, IsNone, find, length, ⊤}
use Rattle.std.specs.Option.{is_some, option_to_list}
use Rattle.std.specs.List.{flat_map}
use Rattle.std.specs.Arc.{arc_value}
use Rattle.lr_convergent.specs.declared.piece.KeptPiece.{KeptPiece}
use Rattle.lr_device.specs.declared.call.DeviceReply.{DeviceReply}
use Rattle.lr_device.specs.declared.step.DeviceStep.{DeviceStep}
use Rattle.lr_device.specs.declared.step.DeviceStep.TheVariants.{Plan, Commit, Drop, Reap}
use Rattle.lr_device.specs.declared.step.DeviceAnswer.{DeviceAnswer}
use Rattle.lr_device.specs.declared.step.DeviceAnswer.TheVariants.{HasPlan, Planned, NoPlan, Lacking, Small, Committed, Dropped, Reaped, Nothing, OutOfMemory}
use Rattle.lr_device.specs.PlainDevice.{size_of, is_in_range, is_range, reply_length, plain_reply, bytes_after}
use Rattle.lr_device.specs.Base.{is_at, Agrees}
use Rattle.lr_device.specs.Demand.{demand, buffers, reply_size}
use Rattle.lr_device.specs.Room.{RoomSeen}
use Rattle.lr_device.specs.Machine.{State, OpenPlan, LogEntry, plan_of, run, history, AgreesWith}

-- the calls that may be made: a planned call has at most 1,048,576 bytes
abbrev pub May : DeviceStep → Type 0
May (Plan call) = size_of (arc_value call) ≤ 1048576
May (Commit pieces room) = ⊤
May Drop = ⊤
May Reap = ⊤

-- the first of these chunks of which there is no piece
abbrev pub lacking : List ℕ → List KeptPiece → Option ℕ
lacking needs pieces = find (λ i. not (is_some (find (is_at i) pieces))) needs

-- the pieces that a commit uses: of each of these chunks the first piece
abbrev pub used_of : List ℕ → List KeptPiece → List KeptPiece
used_of needs pieces = flat_map (λ i. option_to_list (find (is_at i) pieces)) needs

-- whether a room has fewer page buffers than the plan said, or a reply buffer that is too short
abbrev pub is_small : ℕ → OpenPlan → RoomSeen → Bool
is_small size plan room =
    nat_lt room.pages plan.pages || (nat_lt room.told (reply_size size plan.call) || nat_lt room.kept (reply_size size plan.call))

-- the demand of a plan at this moment
abbrev pub needs_of : ℕ → State → OpenPlan → List ℕ
needs_of size st plan = demand size st.written plan.call

-- A plan's call is made after this log, with these pieces and this reply: it is the plain device's on every base that
-- agrees with the pieces used so far and now. Whether it is Range, and how many bytes it has, rests on no base.
pub record Commits (size : ℕ) (log : List LogEntry) (plan : OpenPlan) (pieces : List KeptPiece) (room : RoomSeen) (reply : DeviceReply) : Type 0 where
  pub whole : lacking (needs_of size (run size log) plan) pieces ≡ None
  pub enough : is_small size plan room ≡ false
  pub ranged : is_range reply ≡ not (is_in_range size plan.call)
  pub sized : reply_length reply ≡ reply_size size plan.call
  pub plain : (base : List ℕ) → length base ≡ size → AgreesWith base log → Agrees base (used_of (needs_of size (run size log) plan) pieces) → reply ≡ plain_reply (bytes_after base (history log)) plan.call

-- After this log a device of this size gives this answer to this call. Want of memory is free, but where a planned call is
-- made or a plan is dropped, and at a Reap: these take none.
abbrev pub Answers : ℕ → List LogEntry → ℕ → DeviceStep → DeviceAnswer → Type 0
Answers size log caller (Plan call) HasPlan = IsSome (plan_of caller (run size log))
Answers size log caller (Plan call) (Planned needs pages) =
    IsNone (plan_of caller (run size log)) × (needs ≡ demand size (run size log).written (arc_value call)) × (pages ≡ buffers size (run size log).written (arc_value call))
Answers size log caller (Plan call) OutOfMemory = ⊤
Answers size log caller (Commit pieces room) NoPlan = IsNone (plan_of caller (run size log))
Answers size log caller (Commit pieces room) (Lacking i) =
    (plan : OpenPlan) × (plan_of caller (run size log) ≡ Some plan) × (lacking (needs_of size (run size log) plan) pieces.items ≡ Some i)
Answers size log caller (Commit pieces room) Small =
    (plan : OpenPlan) × (plan_of caller (run size log) ≡ Some plan) × (lacking (needs_of size (run size log) plan) pieces.items ≡ None) × (is_small size plan room ≡ true)
Answers size log caller (Commit pieces room) (Committed reply) =
    (plan : OpenPlan) × (plan_of caller (run size log) ≡ Some plan) × Commits size log plan pieces.items room reply
Answers size log caller (Commit pieces room) OutOfMemory =
    (plan : OpenPlan) → plan_of caller (run size log) ≡ Some plan → lacking (needs_of size (run size log) plan) pieces.items ≡ None → is_small size plan room ≡ true
Answers size log caller Drop NoPlan = IsNone (plan_of caller (run size log))
Answers size log caller Drop Dropped = IsSome (plan_of caller (run size log))
Answers size log caller Drop OutOfMemory = IsNone (plan_of caller (run size log))
Answers size log caller Reap Reaped = IsSome (plan_of caller (run size log))
Answers size log caller Reap Nothing = IsNone (plan_of caller (run size log))
Answers size log caller step answer = ⊥
