-- Calls on a device with their replies, as plain data: pieces by the bytes of their chunk and key.
use Rattle.std.specs.Prelude.{◌≡◌, ℕ, List, [], map, Option, Some, None, option_map, ⊤}
use Rattle.std.specs.List.{AllByRecursion, Contains}
use Rattle.std.specs.Arc.{arc_value}
use Rattle.lr_convergent.specs.declared.piece.KeptPiece.{KeptPiece}
use Rattle.lr_device.specs.declared.call.DeviceCall.{DeviceCall}
use Rattle.lr_device.specs.declared.call.DeviceReply.{DeviceReply}
use Rattle.lr_device.specs.declared.step.DeviceStep.{DeviceStep}
use Rattle.lr_device.specs.declared.step.DeviceStep.TheVariants as asks
use Rattle.lr_device.specs.declared.step.DeviceNoted.{DeviceNoted}
use Rattle.lr_device.specs.declared.step.DeviceNoted.TheVariants as noted
use Rattle.lr_device.specs.declared.step.DeviceAnswer.{DeviceAnswer}
use Rattle.lr_device.specs.declared.step.DeviceAnswer.TheVariants as by
use Rattle.lr_device.specs.Machine.{LogEntry}
use Rattle.lr_walk.specs.Walk as walks

-- a piece: the number of its chunk, the chunk, and the key that it was made with
pub record Piece : Type 0 where
  pub index : ℕ
  pub chunk : List ℕ
  pub key : List ℕ

abbrev pub seen_piece : KeptPiece → Piece
seen_piece p = record { index = p.index; chunk = arc_value p.chunk; key = p.key.bytes }

-- a call, as a log keeps it
pub data Call : Type 0 where
  plans : (call : DeviceCall) → Call
  commits : (planned : Option DeviceCall) (used : List Piece) → Call  -- the caller's plan, and the pieces used
  drops : Call
  reaps : Call

-- What is asked: of a commit, the pieces that are handed in.
pub data Asked : Type 0 where
  asked : (call : Call) → Asked
  hands_in : (pieces : List Piece) → Asked

pub data Reply : Type 0 where
  has_plan : Reply
  planned : (needs : List ℕ) (pages : ℕ) → Reply
  no_plan : Reply
  lacking : (index : ℕ) → Reply
  small : Reply
  committed : (reply : DeviceReply) → Reply
  dropped : Reply
  reaped : Reply
  nothing : Reply
  memory : Reply

abbrev pub seen_call : DeviceStep → Asked
seen_call (asks.Plan call) = asked (plans (arc_value call))
seen_call (asks.Commit pieces room) = hands_in (map seen_piece pieces.items)
seen_call asks.Drop = asked drops
seen_call asks.Reap = asked reaps

abbrev pub seen_noted : DeviceNoted → Call
seen_noted (noted.Plan call) = plans (arc_value call)
seen_noted (noted.Commit plan used) = commits (option_map arc_value plan) (map seen_piece used.items)
seen_noted noted.Drop = drops
seen_noted noted.Reap = reaps

abbrev pub seen_reply : DeviceAnswer → Reply
seen_reply by.HasPlan = has_plan
seen_reply (by.Planned needs pages) = planned needs pages
seen_reply by.NoPlan = no_plan
seen_reply (by.Lacking i) = lacking i
seen_reply by.Small = small
seen_reply (by.Committed reply) = committed reply
seen_reply by.Dropped = dropped
seen_reply by.Reaped = reaped
seen_reply by.Nothing = nothing
seen_reply by.OutOfMemory = memory

-- a call on a device with its reply
abbrev pub Step : Type 0
Step = walks.Step Call Reply

abbrev pub step : Call → Reply → Step
step call reply = walks.step call reply

-- the step of a line of a device's log
abbrev pub step_of : LogEntry → Step
step_of e = step (seen_noted e.call) (seen_reply e.reply)

-- The device may give this reply to this call, by its table.
abbrev pub Answers : Call → Reply → Type 0
Answers (plans call) has_plan = ⊤
Answers (plans call) (planned needs pages) = ⊤
Answers (plans call) memory = ⊤
Answers (commits plan used) no_plan = ⊤
Answers (commits plan used) (lacking i) = ⊤
Answers (commits plan used) small = ⊤
Answers (commits plan used) (committed reply) = ⊤
Answers (commits plan used) memory = ⊤
Answers drops no_plan = ⊤
Answers drops dropped = ⊤
Answers drops memory = ⊤
Answers reaps reaped = ⊤
Answers reaps nothing = ⊤
Answers call reply = ⊥

-- .. to what is asked
abbrev pub AnswersAsked : Asked → Reply → Type 0
AnswersAsked (asked call) reply = Answers call reply
AnswersAsked (hands_in pieces) reply = Answers (commits None []) reply

-- The log may keep this call of what was asked and its reply. Of a commit that was made it keeps the planned call and some of
-- the pieces handed in; of one that was refused it keeps no piece.
abbrev pub Keeps : Asked → Reply → Call → Type 0
Keeps (asked call) reply kept = kept ≡ call
Keeps (hands_in pieces) (committed reply) (commits plan used) = AllByRecursion (Contains pieces) used
Keeps (hands_in pieces) reply (commits plan used) = used ≡ []
Keeps (hands_in pieces) reply kept = ⊥

-- the step is this call with this reply, which the device may give
abbrev pub Tells : Call → Reply → Step → Type 0
Tells call reply s = walks.IsStep Answers call reply s
