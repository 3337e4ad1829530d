-- The device machine: what a log makes of a device, and its history.
use Rattle.std.specs.Prelude.{ℕ, List, [], ◌∷◌, ◌++◌, Bool, false, ◌&&◌, ◌||◌, not, Option, Some, None, option_map, find, fold, nat_eq, ⊤}
use Rattle.std.specs.Arc.{arc_value}
use Rattle.lr_object.specs.declared.entry.Entry.{Entry}
use Rattle.lr_object.specs.Finds.{without_first}
use Rattle.lr_convergent.specs.declared.piece.KeptPiece.{KeptPiece}
use Rattle.lr_device.specs.declared.call.DeviceCall.{DeviceCall}
use Rattle.lr_device.specs.declared.call.DeviceReply.{DeviceReply}
use Rattle.lr_device.specs.declared.step.DeviceNoted.{DeviceNoted}
use Rattle.lr_device.specs.declared.step.DeviceNoted.TheVariants.{Plan, Commit, Drop, Reap}
use Rattle.lr_device.specs.declared.step.DeviceAnswer.{DeviceAnswer}
use Rattle.lr_device.specs.declared.step.DeviceAnswer.TheVariants.{Planned, Committed, Dropped, Reaped}
use Rattle.lr_device.specs.PlainDevice.{is_read, is_in_range, Answered}
use Rattle.lr_device.specs.Demand.{is_met}
use Rattle.lr_device.specs.Base.{Agrees}

-- a line of a device's log
abbrev pub LogEntry : Type 0
LogEntry = Entry DeviceNoted DeviceAnswer

-- a plan that is out: the call, and the page buffers that its answer told
pub record OpenPlan : Type 0 where
  pub caller : ℕ
  pub call : DeviceCall
  pub pages : ℕ

-- what a device is after a log: which pages are written, and the plans that are out, the oldest first
pub record State : Type 0 where
  pub written : ℕ → Bool
  pub plans : List OpenPlan

-- whether a plan is this caller's
abbrev pub is_of : ℕ → OpenPlan → Bool
is_of caller plan = nat_eq plan.caller caller

-- the plan that the caller has out
abbrev pub plan_of : ℕ → State → Option OpenPlan
plan_of caller st = find (is_of caller) st.plans

-- whether a call to a device of this size writes a page
abbrev pub changes : ℕ → DeviceCall → ℕ → Bool
changes size call page = is_in_range size call && (not (is_read call) && is_met call page)

-- the pages that are written after a call: a page that is written stays so
abbrev pub written_after : ℕ → (ℕ → Bool) → DeviceCall → ℕ → Bool
written_after size written call page = written page || changes size call page

-- the caller's plan ended
abbrev pub plan_gone : ℕ → State → State
plan_gone caller st = record { written = st.written; plans = without_first (is_of caller) st.plans }

-- what a call with this answer leaves, by what the log keeps of both
abbrev pub state_after : ℕ → State → ℕ → DeviceNoted → DeviceAnswer → State
state_after size st caller (Plan call) (Planned needs pages) =
    record { written = st.written; plans = st.plans ++ record { caller = caller; call = arc_value call; pages = pages } ∷ [] }
state_after size st caller (Commit (Some call) used) (Committed reply) =
    record { written = written_after size st.written (arc_value call); plans = without_first (is_of caller) st.plans }
state_after size st caller Drop Dropped = plan_gone caller st
state_after size st caller Reap Reaped = plan_gone caller st
state_after size st caller noted answer = st

-- a new device
abbrev pub blank : State
blank = record { written = λ page. false; plans = [] }

-- what a device is after an entry
abbrev pub after_entry : ℕ → State → LogEntry → State
after_entry size st e = state_after size st e.caller e.call e.reply

-- what a device of this size is after a log
abbrev pub run : ℕ → List LogEntry → State
run size log = fold (after_entry size) blank log

-- the planned call that is kept of a commit
abbrev pub planned_in : DeviceNoted → Option DeviceCall
planned_in (Commit planned used) = option_map arc_value planned
planned_in noted = None

-- the reply of a commit that was made
abbrev pub reply_in : DeviceAnswer → Option DeviceReply
reply_in (Committed reply) = Some reply
reply_in answer = None

-- the call that an entry answers
abbrev pub answered : ℕ → DeviceNoted → DeviceAnswer → List Answered
answered caller (Commit (Some call) used) (Committed reply) = record { caller = caller; call = arc_value call; reply = reply } ∷ []
answered caller noted answer = []

-- the history of a device: caller, planned call and reply of each commit that was made
abbrev pub history : List LogEntry → List Answered
history [] = []
history (e ∷ es) = answered e.caller e.call e.reply ++ history es

-- the pieces that an entry used
abbrev pub used_by : DeviceNoted → List KeptPiece
used_by (Commit planned used) = used.items
used_by noted = []

-- The base has the plaintexts of all pieces that were used.
abbrev pub AgreesWith : List ℕ → List LogEntry → Type 0
AgreesWith base [] = ⊤
AgreesWith base (e ∷ es) = Agrees base (used_by e.call) × AgreesWith base es
