-- A whole run: what all its parts deliver, and the premises on its store.
use Rattle.std.specs.Prelude.{◌≡◌, ◌≢◌, ℕ, List, [], ◌++◌, map}
use Rattle.std.specs.List.{AllByRecursion, AllZip}
use Rattle.lr_origin.specs.declared.key.KeyKind.{KeyKind}
use Rattle.lr_opening.specs.Store.{HasChunks}
use Rattle.lr_depot.specs.Begun.{Start}
use Rattle.lr_depot.specs.Depot.{LedTo, first_state}
use Rattle.lr_depot.specs.Machine.{LogEntry}
use Rattle.lr_device.specs.declared.call.DeviceCall.{DeviceCall}
use Rattle.lr_walk.specs.declared.trail.Answer.TheVariants.{Spoiled}
use Rattle.lr_walk.specs.declared.trail.JobResult.{JobResult}
use Rattle.lr_history.specs.Jobs.{JobSeen, calls}
use Rattle.lr_history.specs.Run.{ActorSeen, DeviceSeen, Run}
use Rattle.lr_history.specs.Premises.{IsRun, AreDeviceLogs}
use Rattle.lr_history.specs.Histories.{CommitsArePlanned, OwnListsFollowJobs, HistoriesAreLegal, CallsAreAnsweredOnce, JobsAreAnswered}
use Rattle.lr_setup.specs.Setup.{SetupLine, images_of, devices_of, IsSetup}

-- A run over a store: the depot started on its objects, and its log leads from them to those at the end; the log begins with that
-- of the setup lines, which opened the devices; each device and each actor deliver their part.
pub record IsWhole (start : Start) (lines : List SetupLine) (run : Run) : Type 0 where
  pub led : LedTo start run.opening run.depot run.closing
  pub chunks : HasChunks run.opening
  pub setup : (log : List LogEntry) × (rest : List LogEntry) × (run.depot ≡ log ++ rest) × IsSetup (first_state start) [] lines log
  pub images : run.images ≡ images_of lines
  pub devices : map (λ (d : DeviceSeen). d.line) run.devices ≡ devices_of lines
  pub logs : AreDeviceLogs run
  pub trails : IsRun run

-- No device call finds its chunk spoiled.
abbrev pub NoneIsSpoiled : Run → Type 0
NoneIsSpoiled run =
    AllByRecursion (λ (a : ActorSeen). AllZip (λ (job : JobSeen) (r : JobResult). (device : ℕ) (call : DeviceCall) (key : KeyKind) → job ≡ calls device call → r.answer ≢ Spoiled key) a.jobs a.results) run.actors

-- What follows where digests tell the run's strings apart: each device serves its image.
pub record Serves (run : Run) : Type 0 where
  pub legal : HistoriesAreLegal run
  pub once : CallsAreAnsweredOnce run
  pub jobs : JobsAreAnswered run
  pub planned : CommitsArePlanned run
  pub order : OwnListsFollowJobs run
  pub unspoiled : NoneIsSpoiled run
