-- Each load was demanded by the plan of its call.
use Rattle.std.proofs.Common.{◌≡◌, ℕ, List, [], ◌∷◌, ◌++◌, map, Bool, true, false, cond, Option, Some, None, slice_get, option_map, refl, sym, ap, subst, ◌∙◌, inl, inr, append_assoc, append-nil, eq-eqb, eqb-true, nat_eq}
use Rattle.std.specs.Prelude.{◌⊎◌, ◌==◌, ⊤}
use Rattle.std.specs.Arc.{arc_value}
use Rattle.std.specs.List.{AllByRecursion, AllZip, Contains, flat_map}
use Rattle.std.proofs.lemmas.Option.{slice_get-map}
use Rattle.lr_object.specs.Own.{own_entries}
use Rattle.lr_object.specs.Grown.{Grown, same, more}
use Rattle.lr_object.specs.declared.id.ObjectId.TheVariants.{Device, Depot}
use Rattle.lr_device.specs.declared.call.DeviceCall.{DeviceCall}
use Rattle.lr_device.specs.declared.step.DeviceStep.{DeviceStep}
use Rattle.lr_device.specs.declared.step.DeviceStep.TheVariants as asks
use Rattle.lr_device.specs.declared.step.DeviceNoted.{DeviceNoted}
use Rattle.lr_device.specs.declared.step.DeviceNoted.TheVariants.{Plan, Commit, Drop, Reap}
use Rattle.lr_device.specs.declared.step.DeviceAnswer.{DeviceAnswer}
use Rattle.lr_device.specs.declared.step.DeviceAnswer.TheVariants.{Planned}
use Rattle.lr_device.specs.Demand.{demand}
use Rattle.lr_device.specs.Machine.{LogEntry, run as made_by}
use Rattle.lr_device.specs.Answers.{Answers}
use Rattle.lr_device.specs.Enters.{Enters, Notes}
use Rattle.lr_walk.specs.declared.trail.Did.{Did}
use Rattle.lr_walk.specs.declared.trail.JobResult.{JobResult}
use Rattle.lr_walk.specs.Steps.{Step, on_device, by_device}
use Rattle.lr_walk.specs.Device.{seen_noted, seen_reply}
use Rattle.lr_walk.specs.Calls.{DevicePlace}
use Rattle.lr_walk.specs.Trails.{Lists}
use Rattle.lr_history.specs.Jobs.{JobSeen, calls, another, HasTrailSeen}
use Rattle.lr_history.specs.Run.{DeviceSeen, ActorSeen, Run}
use Rattle.lr_history.specs.Premises.{AreDeviceLogs, size_of}
use Rattle.lr_history.specs.Lists.{own, device_log, device_entry, place_of, context_of, entries_in}
use Rattle.lr_history.specs.Told.{Fetched, fetched_in, Need, need, needed_by, needed_in}
use Rattle.lr_history.specs.OnDemand.{LoadMade, fetch_of, HasLoads, HasNone, IsOnDemand, WasDemanded, IsDemandedFetch, FetchesAreDemanded}
use Rattle.lr_history.proofs.Facts.{all_append, all_front, all_back, all_weaker}
use Rattle.lr_history.proofs.Paths.{list_by_jobs}
use Rattle.lr_history.proofs.Among.{first, later}
use Rattle.lr_history.proofs.Calling.{index_of}
use Rattle.lr_history.proofs.Naming.{fetched_step, fetched_on, needed_step, needed_on, jobs_demand}

-- ---- the plans of a device's log

-- each number that a plan tells is in the demand of its moment
abbrev pub Asks : ℕ → List LogEntry → DeviceNoted → DeviceAnswer → Type 0
Asks size before (Plan call) (Planned needs pages) = AllByRecursion (Contains (demand size (made_by size before).written (arc_value call))) needs
Asks size before call answer = ⊤

abbrev pub AsksAll : ℕ → List LogEntry → List LogEntry → Type 0
AsksAll size before [] = ⊤
AsksAll size before (e ∷ log) = Asks size before e.call e.reply × AsksAll size (before ++ e ∷ []) log

asks_more : (size : ℕ) (before log : List LogEntry) (e : LogEntry) → AsksAll size before log → Asks size (before ++ log) e.call e.reply → AsksAll size before (log ++ e ∷ [])
asks_more size before [] e h a = (subst (λ (l : List LogEntry). Asks size l e.call e.reply) (append-nil before) a, tt)
asks_more size before (x ∷ log) e h a =
    (h.0, asks_more size (before ++ x ∷ []) log e h.1 (subst (λ (l : List LogEntry). Asks size l e.call e.reply) (sym (append_assoc before (x ∷ []) log)) a))

members : {X : Type 0} (xs : List X) → AllByRecursion (Contains xs) xs
members [] = tt
members {X} (x ∷ xs) = (first x xs, all_weaker (Contains xs) (Contains (x ∷ xs)) (λ y c. later x xs y c) xs (members xs))

entry_asks : (size : ℕ) (log : List LogEntry) (caller : ℕ) (step : DeviceStep) (answer : DeviceAnswer) (noted : DeviceNoted) → Answers size log caller step answer → Notes size (made_by size log) caller step answer noted → Asks size log noted answer
entry_asks size log caller (asks.Plan call) (Planned needs pages) (Plan kept) a n =
    subst (λ (l : List ℕ). AllByRecursion (Contains (demand size (made_by size log).written (arc_value kept))) l)
    (ap (λ c. demand size (made_by size log).written (arc_value c)) n ∙ sym a.1)
    (members (demand size (made_by size log).written (arc_value kept)))
entry_asks size log caller step (Planned needs pages) (Plan kept) a n = absurd n
entry_asks size log caller step answer (Plan kept) a n = tt
entry_asks size log caller step answer (Commit plan used) a n = tt
entry_asks size log caller step answer Drop a n = tt
entry_asks size log caller step answer Reap a n = tt

pub all_ask : (size : ℕ) (log : List LogEntry) → Grown Answers Enters size [] log → AsksAll size [] log
all_ask size log same = tt
all_ask size log (more {log = before} g step answer e a n) =
    asks_more size [] before e (all_ask size before g) (subst (Asks size before e.call) (sym n.told) (entry_asks size before e.caller step answer e.call a n.noted))

-- ---- the needs that a device's log tells

abbrev entry_needs : ℕ → LogEntry → List Need
entry_needs device e = needed_by device (on_device device (seen_noted e.call)) (by_device (seen_reply e.reply))

mapped_all : {X Y : Type 0} (P : Y → Type 0) (f : X → Y) (xs : List X) → AllByRecursion (λ (x : X). P (f x)) xs → AllByRecursion P (map f xs)
mapped_all P f [] h = tt
mapped_all P f (x ∷ xs) h = (h.0, mapped_all P f xs h.1)

pub all_mapped : {X Y : Type 0} (P : Y → Type 0) (f : X → Y) (xs : List X) → AllByRecursion P (map f xs) → AllByRecursion (λ (x : X). P (f x)) xs
all_mapped P f [] h = tt
all_mapped P f (x ∷ xs) h = (h.0, all_mapped P f xs h.1)

module _ (run : Run) (device : ℕ) (d : DeviceSeen) (at : slice_get run.devices device ≡ Some d) where
  abbrev size : ℕ
  size = size_of d

  abbrev Was : ℕ → Need → Type 0
  Was caller n = WasDemanded run n device caller

  -- the demand of that moment has the need's chunk
  abbrev Had : List LogEntry → Need → Type 0
  Had before n = Contains (demand size (made_by size before).written n.call) n.index

  both : (P Q R : Need → Type 0) → ((n : Need) → P n → Q n → R n) → (ns : List Need) → AllByRecursion P ns → AllByRecursion Q ns → AllByRecursion R ns
  both P Q R f [] h k = tt
  both P Q R f (n ∷ ns) h k = (f n h.0 k.0, both P Q R f ns h.1 k.1)

  had : (before : List LogEntry) (call : DeviceNoted) (answer : DeviceAnswer) → Asks size before call answer
      → AllByRecursion (Had before) (needed_by device (on_device device (seen_noted call)) (by_device (seen_reply answer)))
  had before (Plan call) (Planned needs pages) h =
      subst (λ (b : Bool). AllByRecursion (Had before) (cond b (map (need (arc_value call)) needs) [])) (sym (eq-eqb device device refl))
      (mapped_all (Had before) (need (arc_value call)) needs h)
  had before (Plan call) answer h = tt
  had before (Commit plan used) answer h = tt
  had before Drop answer h = tt
  had before Reap answer h = tt

  asked_one : (before rest : List LogEntry) (e : LogEntry) → d.log ≡ before ++ e ∷ rest → Asks size before e.call e.reply → AllByRecursion (Was e.caller) (entry_needs device e)
  asked_one before rest e m h =
      both (Contains (entry_needs device e)) (Had before) (Was e.caller)
      (λ n told k. record { seen = d; at = at; before = before; plan = e; rest = rest; moment = m; caller_is = refl; told = told; demanded = k })
      (entry_needs device e) (members (entry_needs device e)) (had before e.call e.reply h)

  -- each entry's needs were demanded of its caller
  abbrev EachAsked : List LogEntry → Type 0
  EachAsked [] = ⊤
  EachAsked (e ∷ log) = AllByRecursion (Was e.caller) (entry_needs device e) × EachAsked log

  all_asked : (before log : List LogEntry) → d.log ≡ before ++ log → AsksAll size before log → EachAsked log
  all_asked before [] m h = tt
  all_asked before (e ∷ log) m h = (asked_one before log e m h.0, all_asked (before ++ e ∷ []) log (m ∙ sym (append_assoc before (e ∷ []) log)) h.1)

  own_asked : (n : ℕ) (log : List LogEntry) → EachAsked log → AllByRecursion (Was n) (needed_in device (map (device_entry device) (own_entries n log)))
  own_asked n [] h = tt
  own_asked n (e ∷ log) h = by h.0 (own_asked n log h.1) (e.caller == n) refl
    where
      by : AllByRecursion (Was e.caller) (entry_needs device e) → AllByRecursion (Was n) (needed_in device (map (device_entry device) (own_entries n log)))
          → (b : Bool) → nat_eq e.caller n ≡ b → AllByRecursion (Was n) (needed_in device (map (device_entry device) (cond b (e ∷ own_entries n log) (own_entries n log))))
      by one rest true is =
          let here : AllByRecursion (Was n) (entry_needs device e) = subst (λ (c : ℕ). AllByRecursion (Was c) (entry_needs device e)) (eqb-true e.caller n is) one in
          all_append (Was n) (entry_needs device e) (needed_in device (map (device_entry device) (own_entries n log))) here rest
      by one rest false is = rest

  own_is : (n : ℕ) → own run n (Device device) ≡ map (device_entry device) (own_entries n d.log)
  own_is n = ap (λ (o : Option DeviceSeen). map (device_entry device) (own_entries n (device_log o))) at

  pub own_needs : (n : ℕ) → AsksAll size [] d.log → AllByRecursion (Was n) (needed_in device (own run n (Device device)))
  own_needs n h = subst (λ (l : List Step). AllByRecursion (Was n) (needed_in device l)) (sym (own_is n)) (own_asked n d.log (all_asked [] d.log refl h))

-- ---- zips

pub zip_all : {X : Type 0} (G : JobSeen → JobResult → Type 0) (P : X → Type 0) (R : JobResult → List X) (jobs : List JobSeen) (results : List JobResult)
    → ((job : JobSeen) (r : JobResult) → Contains jobs job → G job r → AllByRecursion P (R r)) → AllZip G jobs results → AllByRecursion P (flat_map R results)
zip_all G P R [] [] w h = tt
zip_all G P R [] (r ∷ results) w h = absurd h
zip_all G P R (job ∷ jobs) [] w h = absurd h
zip_all G P R (job ∷ jobs) (r ∷ results) w h =
    all_append P (R r) (flat_map R results) (w job r (first job jobs) h.0) (zip_all G P R jobs results (λ j s c g. w j s (later job jobs j c) g) h.1)

-- ---- each job's loads were demanded

abbrev pub Good : Run → ℕ → Lists → JobSeen → List Did → Type 0
Good run number lists (calls device call) path =
    HasNone lists path
    ⊎ ((d : DeviceSeen) × (slice_get run.devices device ≡ Some d) × (h : HasLoads lists device (place_of d) call path) × AllByRecursion (λ (l : LoadMade). WasDemanded run (need call l.index) device number) h.loads)
Good run number lists another path = HasNone lists path

placed : (o : Option DeviceSeen) (place : DevicePlace) → option_map place_of o ≡ Some place → (d : DeviceSeen) × (o ≡ Some d) × (place ≡ place_of d)
placed None place e = absurd (cc)
placed (Some d) place e = (d, refl, cc)

module _ (run : Run) (number : ℕ) (lists : Lists) where
  -- what all needs that these results tell are
  abbrev Told : List JobResult → Type 0
  Told results =
      (device : ℕ) (d : DeviceSeen) → slice_get run.devices device ≡ Some d
      → AllByRecursion (λ (n : Need). WasDemanded run n device number) (flat_map (λ (r : JobResult). needed_in device (entries_in lists (Device device) r.path.items)) results)

  good_job : (job : JobSeen) (r : JobResult) (results : List JobResult) → IsOnDemand (context_of run) lists job r.path.items → Told (r ∷ results) → Good run number lists job r.path.items
  good_job another r results h t = h
  good_job (calls device call) r results (inl h) t = inl h
  good_job (calls device call) r results (inr h) t =
      let p = placed (slice_get run.devices device) h.0 (sym (slice_get-map place_of run.devices device) ∙ h.1) in
      let loads : HasLoads lists device (place_of p.0) call r.path.items = subst (λ (z : DevicePlace). HasLoads lists device z call r.path.items) p.2 h.2 in
      let all = t device p.0 p.1 in
      let here = all_front (λ (n : Need). WasDemanded run n device number) (needed_in device (entries_in lists (Device device) r.path.items)) _ all in
      let needs = subst (λ (l : List Need). AllByRecursion (λ (n : Need). WasDemanded run n device number) l) loads.needs here in
      let each = all_mapped (λ (n : Need). WasDemanded run n device number) (need call) (map index_of loads.loads ++ loads.unmade) needs in
      let some = all_front (λ (i : ℕ). WasDemanded run (need call i) device number) (map index_of loads.loads) loads.unmade each in
      inr (p.0, p.1, loads, all_mapped (λ (i : ℕ). WasDemanded run (need call i) device number) index_of loads.loads some)

  good_jobs : (jobs : List JobSeen) (results : List JobResult) → AllZip (λ (job : JobSeen) (r : JobResult). IsOnDemand (context_of run) lists job r.path.items) jobs results → Told results
      → AllZip (λ (job : JobSeen) (r : JobResult). Good run number lists job r.path.items) jobs results
  good_jobs [] [] h t = tt
  good_jobs [] (r ∷ results) h t = absurd h
  good_jobs (job ∷ jobs) [] h t = absurd h
  good_jobs (job ∷ jobs) (r ∷ results) h t =
      (good_job job r results h.0 t, good_jobs jobs results h.1 (λ device d at. all_back (λ (n : Need). WasDemanded run n device number) (needed_in device (entries_in lists (Device device) r.path.items)) _ (t device d at)))

pub trail_good : (run : Run) → AreDeviceLogs run → (a : ActorSeen) → HasTrailSeen (context_of run) (own run a.number) a.jobs a.results
    → AllZip (λ (job : JobSeen) (r : JobResult). Good run a.number (own run a.number) job r.path.items) a.jobs a.results
trail_good run grown a h =
    let lists : Lists = own run a.number in
    good_jobs run a.number lists a.jobs a.results (jobs_demand (context_of run) lists a.jobs a.results h.walks)
    (λ device d at.
    subst (λ (l : List Need). AllByRecursion (λ (n : Need). WasDemanded run n device a.number) l)
    (list_by_jobs (needed_step device) (Device device) (needed_on device) lists a.results (h.counted (Device device)) (h.beyond (Device device)))
    (own_needs run device d at a.number (all_ask (size_of d) d.log (grown device d at))))

-- ---- each fetch was

module _ (run : Run) (a : ActorSeen) where
  loads_fetched : (device : ℕ) (call : DeviceCall) (place : DevicePlace) (loads : List LoadMade) → Contains a.jobs (calls device call) → slice_get (context_of run).devices device ≡ Some place
      → AllByRecursion (λ (l : LoadMade). WasDemanded run (need call l.index) device a.number) loads → AllByRecursion (IsDemandedFetch run a) (flat_map (fetch_of place) loads)
  loads_fetched device call place [] c at h = tt
  loads_fetched device call place (l ∷ loads) c at h =
      all_append (IsDemandedFetch run a) (fetch_of place l) (flat_map (fetch_of place) loads) (by l.fetched) (loads_fetched device call place loads c at h.1)
    where
      by : (b : Bool) → AllByRecursion (IsDemandedFetch run a) (cond b (record { lease = place.lease; index = l.index } ∷ []) [])
      by true = ((device, call, place, c, at, refl, h.0), tt)
      by false = tt

  job_fetched : (job : JobSeen) (r : JobResult) → Contains a.jobs job → Good run a.number (own run a.number) job r.path.items
      → AllByRecursion (IsDemandedFetch run a) (fetched_in (entries_in (own run a.number) Depot r.path.items))
  job_fetched another r c h = subst (λ (l : List Fetched). AllByRecursion (IsDemandedFetch run a) l) (sym h.fetches) tt
  job_fetched (calls device call) r c (inl h) = subst (λ (l : List Fetched). AllByRecursion (IsDemandedFetch run a) l) (sym h.fetches) tt
  job_fetched (calls device call) r c (inr h) =
      subst (λ (l : List Fetched). AllByRecursion (IsDemandedFetch run a) l) (sym h.2.fetches)
      (loads_fetched device call (place_of h.0) h.2.loads c (slice_get-map place_of run.devices device ∙ ap (option_map place_of) h.1) h.3)

pub fetches_demanded : FetchesAreDemanded
fetches_demanded run is grown =
    all_weaker (λ (a : ActorSeen). HasTrailSeen (context_of run) (own run a.number) a.jobs a.results)
    (λ (a : ActorSeen). AllByRecursion (IsDemandedFetch run a) (fetched_in (own run a.number Depot)))
    (λ a h.
    let lists : Lists = own run a.number in
    subst (λ (l : List Fetched). AllByRecursion (IsDemandedFetch run a) l)
    (sym (list_by_jobs fetched_step Depot fetched_on lists a.results (h.counted Depot) (h.beyond Depot)))
    (zip_all (λ (job : JobSeen) (r : JobResult). Good run a.number lists job r.path.items) (IsDemandedFetch run a) (λ (r : JobResult). fetched_in (entries_in lists Depot r.path.items)) a.jobs a.results
    (λ job r c g. job_fetched run a job r c g) (trail_good run grown a h)))
    run.actors is.trails
