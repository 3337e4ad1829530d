-- What a device holds, and what a call does to it.
use Rattle.std.specs.Prelude.{◌≡◌, ℕ, ◌+◌, ◌*◌, ◌≤◌, List, [], length, map, All, Bool, true, false, vec_len, vec_capacity}
use Rattle.std.specs.Arc.{arc_value}
use Rattle.lr_object.specs.Kept.{Sized, Keeps}
use Rattle.lr_overlay.specs.Pages.{Pages, HasPlaces, is_written, over}
use Rattle.lr_device.specs.declared.held.HeldPlan.{HeldPlan}
use Rattle.lr_device.specs.declared.held.Held.{Held}
use Rattle.lr_device.specs.declared.held.Refusal.{Refusal}
use Rattle.lr_device.specs.declared.held.Refusal.TheVariants as Why
use Rattle.lr_device.specs.declared.step.DeviceStep.{DeviceStep}
use Rattle.lr_device.specs.declared.step.DeviceNoted.{DeviceNoted}
use Rattle.lr_device.specs.declared.step.DeviceAnswer.{DeviceAnswer}
use Rattle.lr_device.specs.declared.step.DeviceAnswer.TheVariants.{NoPlan, Lacking, Small, OutOfMemory}
use Rattle.lr_device.specs.PlainDevice.{size_of, is_read, is_in_range, IsLegal, bytes_after}
use Rattle.lr_device.specs.Demand.{buffers, first_page, page_count}
use Rattle.lr_device.specs.Machine.{LogEntry, OpenPlan, run, history, AgreesWith}
use Rattle.lr_device.specs.Answers.{Answers}
use Rattle.lr_device.specs.Enters.{is_logged, Notes, Enters}

-- a plan, as the machine has it
abbrev pub plan_seen : HeldPlan → OpenPlan
plan_seen plan = record { caller = plan.caller; call = arc_value plan.call; pages = plan.pages }

-- A plan has what its commit takes but pieces and room.
pub record IsReady (size : ℕ) (written : ℕ → Bool) (plan : HeldPlan) : Type 0 where
  pub small : size_of (arc_value plan.call) ≤ 1048576
  pub enough : buffers size written (arc_value plan.call) ≤ plan.pages
  pub empty : plan.used.items ≡ []
  pub room : 3 ≤ vec_capacity plan.used

-- Pages and plans are what the machine makes of the log; on every base that agrees with the pieces used, the history is
-- legal and the pages show what it made of the base.
pub record Holds (size : ℕ) (pages : Pages) (held : List HeldPlan) (log : List LogEntry) : Type 0 where
  pub fits : 4096 * length pages ≡ size
  pub written : is_written pages ≡ (run size log).written
  pub plans : map plan_seen held ≡ (run size log).plans
  pub ready : All (IsReady size (is_written pages)) held
  pub legal : (base : List ℕ) → length base ≡ size → AgreesWith base log → IsLegal base (history log)
  pub shows : (base : List ℕ) → length base ≡ size → AgreesWith base log → over 4096 pages base ≡ bytes_after base (history log)

-- The pages that a plan's commit can write have their places.
pub record HasPlace (size : ℕ) (leaves : List ℕ) (plan : HeldPlan) : Type 0 where
  pub within : is_in_range size (arc_value plan.call) ≡ true → is_read (arc_value plan.call) ≡ false → HasPlaces leaves (first_page (arc_value plan.call)) (page_count (arc_value plan.call))

-- A device is whole: a place of the log and places of pages are kept for each plan that is out.
pub record IsWhole (h : Held) : Type 0 where
  pub state : Holds h.size h.overlay.pages h.plans.items h.log.items
  pub places : vec_len h.log + vec_len h.plans ≤ vec_capacity h.log
  pub placed : All (HasPlace h.size h.overlay.leaves) h.plans.items

-- a device, as contracts see it: its capacity is how many bytes it has
abbrev pub Seen : Type 0
Seen = Sized DeviceNoted DeviceAnswer

abbrev pub seen : Held → Seen
seen h = record { capacity = h.size; log = h.log.items }

-- The device answers a call so, and keeps it.
pub record Serves (old new : Seen) (caller : ℕ) (step : DeviceStep) (answer : DeviceAnswer) : Type 0 where
  pub answered : Answers old.capacity old.log caller step answer
  pub kept : Keeps (is_logged answer) (λ e. Enters old.capacity old.log caller step answer e) old new caller

-- the answer to a call that is refused
abbrev pub refused : Refusal → DeviceAnswer
refused Why.NoPlan = NoPlan
refused (Why.Lacking i) = Lacking i
refused Why.Small = Small

-- A call may be refused so, or find no memory for the refusal.
pub record Refuses (old : Seen) (caller : ℕ) (step : DeviceStep) (kept : DeviceNoted) (why : Refusal) : Type 0 where
  pub noted : Notes old.capacity (run old.capacity old.log) caller step (refused why) kept
  pub answered : Answers old.capacity old.log caller step (refused why)
  pub memory : Answers old.capacity old.log caller step OutOfMemory
