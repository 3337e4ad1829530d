-- The whole: from the parts of a run to its devices' histories.
use Rattle.std.proofs.Common.{◌≡◌, ◌≢◌, ℕ, zero, suc, List, [], ◌∷◌, ◌++◌, Some, slice_get, sym, ap, subst, ◌∙◌, inl, option_map}
use Rattle.std.specs.List.{AllByRecursion, AllZip}
use Rattle.std.proofs.lemmas.Option.{slice_get-map, same_Some}
use Rattle.lr_rules.specs.State.{State}
use Rattle.lr_rules.proofs.Start.{start_safe}
use Rattle.lr_depot.proofs.Logged.{leads_run}
use Rattle.lr_depot.specs.Begun.{Start}
use Rattle.lr_depot.specs.Depot.{first_state}
use Rattle.lr_depot.specs.Machine.{LogEntry, after_entry}
use Rattle.lr_depot.specs.Store.{IsRun as IsDepotRun}
use Rattle.lr_history.specs.Run.{ImageLine, DeviceLine, DeviceSeen, Run}
use Rattle.lr_seal.specs.Made.{HaveDistinctDigests}
use Rattle.lr_history.specs.Strings.{strings_of}
use Rattle.lr_history.specs.Premises.{IsOpened, IsSetUp}
use Rattle.lr_history.proofs.Public.{all_weaker, loaded, each_base, histories, answered_once, planned_commits, jobs_told, lists_follow}
use Rattle.lr_setup.specs.Setup.{SetupLine, images_of, devices_of}
use Rattle.lr_origin.specs.declared.key.KeyKind.{KeyKind}
use Rattle.lr_device.specs.declared.call.DeviceCall.{DeviceCall}
use Rattle.lr_walk.specs.declared.trail.Answer.TheVariants.{Spoiled}
use Rattle.lr_walk.specs.declared.trail.JobResult.{JobResult}
use Rattle.lr_history.specs.Jobs.{JobSeen, calls}
use Rattle.lr_history.specs.Run.{ActorSeen}
use Rattle.lr_history.specs.Lists.{own}
use Rattle.lr_history.specs.Histories.{IsAnswered, AreLegalWhereAgreed}
use Rattle.lr_setup.proofs.Unspoiled.{IsUnspoiled, led_unspoiled, jobs_unspoiled, own_unspoiled}
use Rattle.lr_setup.specs.Whole.{IsWhole, NoneIsSpoiled, Serves}
use Rattle.lr_setup.proofs.Opening.{all_opened}

front_runs : (s : State) (log rest : List LogEntry) → IsDepotRun s (log ++ rest) → IsDepotRun s log
front_runs s [] rest is = tt
front_runs s (e ∷ log) rest is = (is.0, is.1, is.2, is.3, front_runs (after_entry s e) log rest is.4)

all_at : {X : Type 0} (P : X → Type 0) (xs : List X) (i : ℕ) (x : X) → AllByRecursion P xs → slice_get xs i ≡ Some x → P x
all_at P [] i x h e = absurd (cc)
all_at P (y ∷ xs) zero x h e = subst P (same_Some y x e) h.0
all_at P (y ∷ xs) (suc i) x h e = all_at P xs i x h.1 e

-- the setup's part of the depot's log is a run
pub setup_runs : (start : Start) (lines : List SetupLine) (run : Run) (w : IsWhole start lines run) → IsDepotRun (first_state start) w.setup.0
setup_runs start lines run w = front_runs (first_state start) w.setup.0 w.setup.1 (subst (IsDepotRun (first_state start)) w.setup.2 (leads_run (first_state start) run.opening run.depot run.closing w.led.leads))

set_up : (start : Start) (lines : List SetupLine) (run : Run) → IsWhole start lines run → IsSetUp run
set_up start lines run w = record { chunks = w.chunks; opened = opened }
  where
    log : List LogEntry
    log = w.setup.0

    all : AllByRecursion (λ (d : DeviceLine). IsOpened run.opening (images_of lines) d) (devices_of lines)
    all = all_opened start.view run.opening w.led.mirrors lines [] (first_state start) log
        (record { safe = start_safe start.view start.number w.led.begun.may; chunks = λ r n h. inl h; made = tt }) (setup_runs start lines run w) w.setup.3

    opened : (i : ℕ) (d : DeviceSeen) → slice_get run.devices i ≡ Some d → IsOpened run.opening run.images d.line
    opened i d at =
        let there : slice_get (devices_of lines) i ≡ Some d.line =
        ap (λ (l : List DeviceLine). slice_get l i) (sym w.devices) ∙ slice_get-map (λ (x : DeviceSeen). x.line) run.devices i ∙ ap (option_map (λ (x : DeviceSeen). x.line)) at in
        subst (λ (l : List ImageLine). IsOpened run.opening l d.line) (sym w.images)
        (all_at (λ (x : DeviceLine). IsOpened run.opening (images_of lines) x) (devices_of lines) i d.line all there)

unspoiled : (start : Start) (lines : List SetupLine) (run : Run) → IsWhole start lines run → NoneIsSpoiled run
unspoiled start lines run w =
    all_weaker (λ (a : ActorSeen). AllZip (λ (job : JobSeen) (r : JobResult). IsAnswered (own run a.number) job r.path.items r.answer) a.jobs a.results)
    (λ (a : ActorSeen). AllZip (λ (job : JobSeen) (r : JobResult). (device : ℕ) (call : DeviceCall) (key : KeyKind) → job ≡ calls device call → r.answer ≢ Spoiled key) a.jobs a.results)
    (λ a h. jobs_unspoiled (own run a.number) (own_unspoiled a.number run.depot all) a.jobs a.results h) run.actors (jobs_told run w.trails)
  where
    all : AllByRecursion (λ (e : LogEntry). IsUnspoiled e.reply) run.depot
    all = led_unspoiled start run.opening run.depot run.closing w.led w.chunks

pub served : (start : Start) (lines : List SetupLine) (run : Run) → IsWhole start lines run → AreLegalWhereAgreed run → HaveDistinctDigests (strings_of run) → Serves run
served start lines run w legal apart = record {
  legal = histories run (each_base run legal (loaded run w.trails)) (set_up start lines run w) apart;
  once = answered_once run w.trails;
  jobs = jobs_told run w.trails;
  planned = planned_commits run w.logs;
  order = lists_follow run w.trails;
  unspoiled = unspoiled start lines run w;
}
