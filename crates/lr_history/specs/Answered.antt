-- Answered calls: those that jobs tell, and those that entries commit.
use Rattle.std.specs.Prelude.{◌≡◌, ℕ, List, [], ◌∷◌, ◌++◌, Bool, true, false, cond, ◌&&◌, nat_eq, Some, ⊤}
use Rattle.std.specs.List.{flat_map}
use Rattle.lr_device.specs.declared.call.DeviceCall.{DeviceCall}
use Rattle.lr_device.specs.PlainDevice.{Answered}
use Rattle.lr_walk.specs.declared.trail.Answer.{Answer}
use Rattle.lr_walk.specs.declared.trail.Answer.TheVariants.{Done, Range, Fault, Spoiled, Memory, Cut, Unbegun}
use Rattle.lr_walk.specs.declared.trail.JobResult.{JobResult}
use Rattle.lr_walk.specs.Steps.{Call, on_device, on_depot, Reply, by_device, by_depot, Step}
use Rattle.lr_walk.specs.Device as devices
use Rattle.lr_walk.specs.Depot as depots
use Rattle.lr_walk.specs.Calls.{answer_of}
use Rattle.lr_history.specs.Jobs.{JobSeen, calls, another}

-- a call, with the answer that its job has
pub record Outcome : Type 0 where
  pub call : DeviceCall
  pub answer : Answer

abbrev pub outcome : DeviceCall → Answer → Outcome
outcome call answer = record { call = call; answer = answer }

-- the outcome of an answered call
abbrev pub outcome_of : Answered → Outcome
outcome_of e = outcome e.call (answer_of e.reply)

-- the answers of calls that were answered
abbrev pub is_answered : Answer → Bool
is_answered Done = true
is_answered Range = true
is_answered answer = false

-- the outcome of a job, where it is an answered call of this device
abbrev pub answered_job : ℕ → JobSeen → Answer → List Outcome
answered_job device (calls d call) answer = cond (nat_eq d device && is_answered answer) (outcome call answer ∷ []) []
answered_job device another answer = []

-- the outcomes of the jobs that are answered calls of this device, in order
abbrev pub answered_jobs : ℕ → List JobSeen → List JobResult → List Outcome
answered_jobs device (job ∷ jobs) (r ∷ results) = answered_job device job r.answer ++ answered_jobs device jobs results
answered_jobs device jobs results = []

-- the outcome of a step that commits a call of this device
abbrev pub committed_by : ℕ → Call → Reply → List Outcome
committed_by device (on_device d (devices.commits (Some call) used)) (by_device (devices.committed reply)) =
    cond (nat_eq d device) (outcome call (answer_of reply) ∷ []) []
committed_by device call reply = []

abbrev pub committed_in : ℕ → List Step → List Outcome
committed_in device steps = flat_map (λ (s : Step). committed_by device s.call s.reply) steps

-- what the depot told of a get that failed
abbrev pub failed_by : Call → Reply → List Answer
failed_by (on_depot (depots.fetches lease index)) (by_depot (depots.fault key)) = Fault key ∷ []
failed_by (on_depot (depots.fetches lease index)) (by_depot (depots.spoiled key)) = Spoiled key ∷ []
failed_by call reply = []

abbrev pub failed_in : List Step → List Answer
failed_in steps = flat_map (λ (s : Step). failed_by s.call s.reply) steps

-- The answers that a device call may have. Of a call that was cut nothing is said; every other has told just the
-- failures of its own fetches.
abbrev pub IsCallAnswer : Answer → List Answer → Type 0
IsCallAnswer Done failed = failed ≡ []
IsCallAnswer Range failed = failed ≡ []
IsCallAnswer (Fault key) failed = failed ≡ Fault key ∷ []
IsCallAnswer (Spoiled key) failed = failed ≡ Spoiled key ∷ []
IsCallAnswer Memory failed = failed ≡ []
IsCallAnswer Cut failed = ⊤
IsCallAnswer Unbegun failed = failed ≡ []
IsCallAnswer answer failed = ⊥
