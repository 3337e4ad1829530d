-- What a caller has planned.
use Rattle.std.specs.Prelude.{ℕ, ◌==◌, List, fold, cond, Option, Some, None}
use Rattle.std.specs.Arc.{arc_value}
use Rattle.lr_device.specs.declared.call.DeviceCall.{DeviceCall}
use Rattle.lr_device.specs.declared.step.DeviceNoted.{DeviceNoted}
use Rattle.lr_device.specs.declared.step.DeviceNoted.TheVariants.{Plan, Commit, Drop, Reap}
use Rattle.lr_device.specs.declared.step.DeviceAnswer.{DeviceAnswer}
use Rattle.lr_device.specs.declared.step.DeviceAnswer.TheVariants.{Planned, Committed, Dropped, Reaped}
use Rattle.lr_device.specs.Machine.{LogEntry}

-- the call that a caller has planned, after an entry of its own
abbrev pub planned_after : Option DeviceCall → DeviceNoted → DeviceAnswer → Option DeviceCall
planned_after plan (Plan call) (Planned needs pages) = Some (arc_value call)
planned_after plan (Commit (Some call) used) (Committed reply) = None
planned_after plan Drop Dropped = None
planned_after plan Reap Reaped = None
planned_after plan noted answer = plan

-- after an entry of any caller
abbrev pub planned_then : ℕ → Option DeviceCall → LogEntry → Option DeviceCall
planned_then caller plan e = cond (e.caller == caller) (planned_after plan e.call e.reply) plan

-- after a log
abbrev pub planned : ℕ → List LogEntry → Option DeviceCall
planned caller log = fold (planned_then caller) None log
