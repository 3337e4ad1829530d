-- What the entries that paths name tell of loads.
use Rattle.std.proofs.Common.{◌≡◌, ℕ, List, [], ◌∷◌, ◌++◌, map, Bool, true, false, cond, refl, ap, ◌∙◌, inl, inr, eq-eqb}
use Rattle.std.specs.List.{AllZip}
use Rattle.lr_manifest.specs.declared.name.Name.{Name}
use Rattle.lr_object.specs.declared.id.ObjectId.TheVariants.{Device, Cache, Depot}
use Rattle.lr_device.specs.declared.call.DeviceCall.{DeviceCall}
use Rattle.lr_walk.specs.declared.trail.Answer.{Answer}
use Rattle.lr_walk.specs.declared.trail.Did.{Did}
use Rattle.lr_walk.specs.declared.trail.JobResult.{JobResult}
use Rattle.lr_walk.specs.Steps.{Call, on_device, on_cache, on_depot, Reply, by_device, by_cache, Step, object_of, is_memory}
use Rattle.lr_walk.specs.Device as devices
use Rattle.lr_walk.specs.Cache as caches
use Rattle.lr_walk.specs.Depot as depots
use Rattle.lr_walk.specs.Calls.{DevicePlace}
use Rattle.lr_walk.specs.Jobs.{Context}
use Rattle.lr_walk.specs.Trails.{Lists, is_same, Reads, IsReap}
use Rattle.lr_history.specs.Jobs.{JobSeen, calls, another, HasTrailSeen}
use Rattle.lr_history.specs.Run.{ActorSeen}
use Rattle.lr_history.specs.Lists.{own, context_of}
use Rattle.lr_history.specs.Told.{Fetched, fetched_by, led_by, Need, need, needed_by}
use Rattle.lr_history.specs.OnDemand.{HasLoads, HasNone, IsOnDemand, LoadsAreOnDemand}
use Rattle.lr_history.proofs.Facts.{all_weaker}
use Rattle.lr_history.proofs.Paths.{IsOn, reads_all}
use Rattle.lr_history.proofs.Owned.{Follows}
use Rattle.lr_history.proofs.Parts.{Still}
use Rattle.lr_history.proofs.Calling.{index_of, CallTells}
use Rattle.lr_history.proofs.Telling.{JobTells, walk_tells}

-- ---- three things that steps tell, each of one object

abbrev pub fetched_step : Step → List Fetched
fetched_step s = fetched_by s.call s.reply

abbrev pub led_step : ℕ → Step → List Name
led_step host s = led_by host s.call s.reply

abbrev pub needed_step : ℕ → Step → List Need
needed_step device s = needed_by device s.call s.reply

fetched_elsewhere : (call : Call) (r : Reply) → is_same (object_of call) Depot ≡ false → fetched_by call r ≡ []
fetched_elsewhere (on_depot (depots.fetches lease index)) r e = absurd (cc)
fetched_elsewhere call r e = refl

fetched_memory : (call : Call) (r : Reply) → is_memory r ≡ true → fetched_by call r ≡ []
fetched_memory (on_depot (depots.fetches lease index)) r e = rw e refl
fetched_memory call r e = refl

fetched_reap : (call : Call) (r : Reply) → IsReap call → fetched_by call r ≡ []
fetched_reap (on_depot (depots.fetches lease index)) r e = absurd e
fetched_reap call r e = refl

pub fetched_on : IsOn fetched_step Depot
fetched_on = record {
  elsewhere = λ s. fetched_elsewhere s.call s.reply;
  no_memory = λ s. fetched_memory s.call s.reply;
  no_reap = λ s. fetched_reap s.call s.reply;
}

led_elsewhere : (host : ℕ) (call : Call) (r : Reply) → is_same (object_of call) (Cache host) ≡ false → led_by host call r ≡ []
led_elsewhere host (on_cache h (caches.looks name)) (by_cache caches.lead) e = rw e refl
led_elsewhere host call r e = refl

led_memory : (host : ℕ) (call : Call) (r : Reply) → is_memory r ≡ true → led_by host call r ≡ []
led_memory host (on_cache h (caches.looks name)) (by_cache caches.lead) e = absurd (cc)
led_memory host call r e = refl

led_reap : (host : ℕ) (call : Call) (r : Reply) → IsReap call → led_by host call r ≡ []
led_reap host (on_cache h (caches.looks name)) r e = absurd e
led_reap host call r e = refl

pub led_on : (host : ℕ) → IsOn (led_step host) (Cache host)
led_on host = record {
  elsewhere = λ s. led_elsewhere host s.call s.reply;
  no_memory = λ s. led_memory host s.call s.reply;
  no_reap = λ s. led_reap host s.call s.reply;
}

needed_elsewhere : (device : ℕ) (call : Call) (r : Reply) → is_same (object_of call) (Device device) ≡ false → needed_by device call r ≡ []
needed_elsewhere device (on_device d (devices.plans call)) (by_device (devices.planned needs pages)) e = rw e refl
needed_elsewhere device call r e = refl

needed_memory : (device : ℕ) (call : Call) (r : Reply) → is_memory r ≡ true → needed_by device call r ≡ []
needed_memory device (on_device d (devices.plans call)) (by_device (devices.planned needs pages)) e = absurd (cc)
needed_memory device call r e = refl

needed_reap : (device : ℕ) (call : Call) (r : Reply) → IsReap call → needed_by device call r ≡ []
needed_reap device (on_device d (devices.plans call)) r e = absurd e
needed_reap device call r e = refl

pub needed_on : (device : ℕ) → IsOn (needed_step device) (Device device)
needed_on device = record {
  elsewhere = λ s. needed_elsewhere device s.call s.reply;
  no_memory = λ s. needed_memory device s.call s.reply;
  no_reap = λ s. needed_reap device s.call s.reply;
}

-- ---- each job's path

module _ (context : Context) (lists : Lists) (path : List Did) where
  none_of : (steps : List Step) → Reads lists path steps → Still steps → HasNone lists path
  none_of steps r h = record {
    fetches = reads_all fetched_step Depot fetched_on lists path steps r ∙ h.fetched;
    leads = λ host. reads_all (led_step host) (Cache host) (led_on host) lists path steps r ∙ h.led host;
  }

  loads_of : (device : ℕ) (place : DevicePlace) (call : DeviceCall) (steps : List Step) → Reads lists path steps → CallTells device place call steps → HasLoads lists device place call path
  loads_of device place call steps r h = record {
    loads = h.loads;
    unmade = h.unmade;
    each = h.each;
    needs = reads_all (needed_step device) (Device device) (needed_on device) lists path steps r ∙ h.needed device
        ∙ ap (λ (b : Bool). cond b (map (need call) (map index_of h.loads ++ h.unmade)) []) (eq-eqb device device refl);
    fetches = reads_all fetched_step Depot fetched_on lists path steps r ∙ h.fetched;
    leads = λ host. reads_all (led_step host) (Cache host) (led_on host) lists path steps r ∙ h.led host;
  }

  demand_of : (job : JobSeen) (steps : List Step) → Reads lists path steps → JobTells context job steps → IsOnDemand context lists job path
  demand_of (calls device call) steps r (inl h) = inl (none_of steps r h)
  demand_of (calls device call) steps r (inr h) = inr (h.0, h.1, loads_of device h.0 call steps r h.2)
  demand_of another steps r h = none_of steps r h

  pub path_demand : (job : JobSeen) (answer : Answer) → Follows context lists job path answer → IsOnDemand context lists job path
  path_demand job answer w = demand_of job w.0 w.1 (walk_tells context job w.0 answer w.2)

pub jobs_demand : (context : Context) (lists : Lists) (jobs : List JobSeen) (results : List JobResult) → AllZip (λ (job : JobSeen) (r : JobResult). Follows context lists job r.path.items r.answer) jobs results
    → AllZip (λ (job : JobSeen) (r : JobResult). IsOnDemand context lists job r.path.items) jobs results
jobs_demand context lists [] [] w = tt
jobs_demand context lists [] (r ∷ results) w = absurd w
jobs_demand context lists (job ∷ jobs) [] w = absurd w
jobs_demand context lists (job ∷ jobs) (r ∷ results) w = (path_demand context lists r.path.items job r.answer w.0, jobs_demand context lists jobs results w.1)

pub loads_demanded : LoadsAreOnDemand
loads_demanded run is =
    all_weaker (λ (a : ActorSeen). HasTrailSeen (context_of run) (own run a.number) a.jobs a.results)
    (λ (a : ActorSeen). AllZip (λ (job : JobSeen) (r : JobResult). IsOnDemand (context_of run) (own run a.number) job r.path.items) a.jobs a.results)
    (λ a h. jobs_demand (context_of run) (own run a.number) a.jobs a.results h.walks) run.actors is.trails
