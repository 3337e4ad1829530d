-- What an actor has out, by its own lists, is what the steps of the job under way left.
use Rattle.std.proofs.Common.{◌≡◌, ◌≤◌, ℕ, zero, suc, ◌+◌, List, [], ◌∷◌, ◌++◌, length, take, drop, map, filter, Bool, true, false, not, cond, fold, nat_eq, Option, Some, None, slice_get, refl, sym, ap, subst, ◌∙◌, arith, add-one, eq-eqb}
use Rattle.std.specs.Prelude.{◌&&◌, ◌==◌, option_map}
use Rattle.std.specs.Option.{option_to_list}
use Rattle.std.specs.List.{AllByRecursion, flat_map, range_with_len}
use Rattle.std.proofs.Math.Seq.{take-length}
use Rattle.std.proofs.lemmas.List.Concat.{flat_map-append}
use Rattle.std.proofs.lemmas.List.Sums.{fold-append}
use Rattle.lr_manifest.specs.declared.name.Name.{Name}
use Rattle.lr_object.specs.Own.{own_entries}
use Rattle.lr_object.specs.declared.id.ObjectId.{ObjectId}
use Rattle.lr_object.specs.declared.id.ObjectId.TheVariants.{Device, Cache}
use Rattle.lr_device.specs.declared.call.DeviceCall.{DeviceCall}
use Rattle.lr_device.specs.declared.step.DeviceNoted.{DeviceNoted}
use Rattle.lr_device.specs.declared.step.DeviceNoted.TheVariants as noted
use Rattle.lr_device.specs.declared.step.DeviceAnswer.{DeviceAnswer}
use Rattle.lr_device.specs.declared.step.DeviceAnswer.TheVariants as told
use Rattle.lr_device.specs.Machine.{LogEntry}
use Rattle.lr_walk.specs.declared.trail.Answer.{Answer}
use Rattle.lr_walk.specs.declared.trail.Answer.TheVariants.{Cut, Unbegun}
use Rattle.lr_walk.specs.declared.trail.Did.{Did}
use Rattle.lr_walk.specs.declared.trail.JobResult.{JobResult}
use Rattle.lr_walk.specs.Steps.{Call, on_device, Reply, by_device, Step, step}
use Rattle.lr_walk.specs.Device as devices
use Rattle.lr_walk.specs.Jobs.{Context}
use Rattle.lr_walk.specs.Trails.{Lists, is_same, IsAt, ReadsOne, Reads, is_entry_of, places_in, places, AreCounted}
use Rattle.lr_history.specs.Lists.{device_entry, entries_in}
use Rattle.lr_history.specs.Ready.{claim_by, FitsClaim, plan_by, FitsPlan, out_after, Fit, WalksFit, PathsTell}
use Rattle.lr_actors.specs.Jobs.{Job, WalksJob, IsWalk}
use Rattle.lr_actors.specs.Actor.{MayBeGiven, AreEnded}
use Rattle.lr_actors.specs.Records.{HasWalk}
use Rattle.lr_actors.specs.Accounts.{Account, places_of, Stands, IsEnd}
use Rattle.lr_actors.specs.Serving.{Work, IsElsewhere, IsPlanned}
use Rattle.lr_replies.specs.Seen.{seen_job}
use Rattle.lr_replies.proofs.Seen.{jobs_seen}
use Rattle.lr_replies.proofs.Told.{Told, told_after, told_then}

-- ---- an actor's own list is what its paths name

abbrev read : {X : Type 0} → List X → ℕ → List X
read xs i = option_to_list (slice_get xs i)

one_taken : {X : Type 0} (xs : List X) (k n : ℕ) → read xs k ++ take n (drop (suc k) xs) ≡ take (suc n) (drop k xs)
one_taken [] zero zero = refl
one_taken [] zero (suc n) = refl
one_taken [] (suc k) zero = refl
one_taken [] (suc k) (suc n) = refl
one_taken (x ∷ xs) zero n = refl
one_taken (x ∷ xs) (suc k) n = one_taken xs k n

ranged : {X : Type 0} (xs : List X) (k n : ℕ) → flat_map (read xs) (range_with_len k n) ≡ take n (drop k xs)
ranged xs k zero = refl
ranged xs k (suc n) =
    ap (λ (l : _). read xs k ++ l) (ranged xs (k + 1) n)
    ∙ ap (λ (i : ℕ). read xs k ++ take n (drop i xs)) (add-one k)
    ∙ one_taken xs k n

counted_read : {X : Type 0} (xs : List X) (numbers : List ℕ) → AreCounted numbers → length xs ≡ length numbers → flat_map (read xs) numbers ≡ xs
counted_read xs numbers e f = ap (λ (l : List ℕ). flat_map (read xs) l) e ∙ ranged xs 0 (length numbers) ∙ ap (λ (n : ℕ). take n xs) (sym f) ∙ take-length xs

-- the entries of ended jobs
abbrev entries_of : Lists → ObjectId → List JobResult → List Step
entries_of lists o results = flat_map (λ (r : JobResult). entries_in lists o r.path.items) results

paths_joined : (lists : Lists) (o : ObjectId) (results : List JobResult) → flat_map (read (lists o)) (places o results) ≡ entries_of lists o results
paths_joined lists o [] = refl
paths_joined lists o (r ∷ results) =
    flat_map-append (read (lists o)) (places_in o r.path.items) (places o results)
    ∙ ap (λ (l : List Step). entries_in lists o r.path.items ++ l) (paths_joined lists o results)

pub list_is : (lists : Lists) (a : Account) (o : ObjectId) → AreCounted (places_of o a) → length (lists o) ≡ length (places_of o a)
    → lists o ≡ entries_of lists o a.results ++ entries_in lists o a.path
list_is lists a o counted whole =
    sym (counted_read (lists o) (places_of o a) counted whole)
    ∙ flat_map-append (read (lists o)) (places o a.results) (places_in o a.path)
    ∙ ap (λ (l : List Step). l ++ entries_in lists o a.path) (paths_joined lists o a.results)

-- ---- ended jobs leave nothing out

fit_end : {S : Type 0} (after : S → Call → Reply → S) (fits : S → Call → Type 0) (a b : S) (steps : List Step) → Fit after fits a steps b → out_after after a steps ≡ b
fit_end after fits a b [] h = h
fit_end after fits a b (s ∷ steps) h = fit_end after fits (after a s.call s.reply) b steps h.1

ended_walk : (context : Context) (job : Job) (steps : List Step) (answer : Answer) → IsEnd answer → IsWalk context job steps answer → WalksJob context job steps answer
ended_walk context job steps Cut p w = absurd p
ended_walk context job steps Unbegun p w = absurd p
ended_walk context job steps answer p w = w

module _ (context : Context) (hosts : ℕ) (lists : Lists) where
  each_ended : (P : JobResult → Type 0) (jobs : List Job) (results : List JobResult) → length results ≤ length jobs → AllByRecursion (MayBeGiven context hosts) jobs → AreEnded results
      → ((i : ℕ) (job : Job) (r : JobResult) → slice_get jobs i ≡ Some job → slice_get results i ≡ Some r → HasWalk context lists job r.path.items r.answer)
      → ((job : Job) (r : JobResult) → MayBeGiven context hosts job → IsEnd r.answer → HasWalk context lists job r.path.items r.answer → P r) → AllByRecursion P results
  each_ended P jobs [] few m ends done one = tt
  each_ended P [] (r ∷ results) few m ends done one = absurd (omega (arith, few))
  each_ended P (job ∷ jobs) (r ∷ results) few m ends done one =
      (one job r m.0 ends.0 (done 0 job r refl refl), each_ended P jobs results (omega (arith, few)) m.1 ends.1 (λ i j q e f. done (suc i) j q e f) one)

all_none : {S : Type 0} (after : S → Call → Reply → S) (a : S) (lists : Lists) (o : ObjectId) (results : List JobResult)
    → AllByRecursion (λ (r : JobResult). out_after after a (entries_in lists o r.path.items) ≡ a) results → out_after after a (entries_of lists o results) ≡ a
all_none after a lists o [] h = refl
all_none {S} after a lists o (r ∷ results) h =
    fold-append (λ z step. after z step.call step.reply) a (entries_in lists o r.path.items) (entries_of lists o results)
    ∙ ap (λ (z : S). out_after after z (entries_of lists o results)) h.0
    ∙ all_none after a lists o results h.1

module _ (fit : WalksFit) (tell : PathsTell) (context : Context) (hosts : ℕ) (lists : Lists) where
  claim_ended : (host : ℕ) (job : Job) (r : JobResult) → MayBeGiven context hosts job → IsEnd r.answer → HasWalk context lists job r.path.items r.answer
      → out_after (claim_by host) None (entries_in lists (Cache host) r.path.items) ≡ None
  claim_ended host job r m ends w =
      tell.claim lists r.path.items w.0 w.1 host None
      ∙ fit_end (claim_by host) (FitsClaim host) None None w.0 (fit.claims context (seen_job job) w.0 r.answer (jobs_seen context hosts job w.0 r.answer m (ended_walk context job w.0 r.answer ends w.2)) host)

  plan_ended : (device : ℕ) (job : Job) (r : JobResult) → MayBeGiven context hosts job → IsEnd r.answer → HasWalk context lists job r.path.items r.answer
      → out_after (plan_by device) None (entries_in lists (Device device) r.path.items) ≡ None
  plan_ended device job r m ends w =
      tell.plan lists r.path.items w.0 w.1 device None
      ∙ fit_end (plan_by device) (FitsPlan device) None None w.0 (fit.plans context (seen_job job) w.0 r.answer (jobs_seen context hosts job w.0 r.answer m (ended_walk context job w.0 r.answer ends w.2)) device)

  module _ (jobs : List Job) (a : Account) (stands : Stands context lists jobs a) (m : AllByRecursion (MayBeGiven context hosts) jobs) (ends : AreEnded a.results) (few : length a.results ≤ length jobs) where
    claims_none : (host : ℕ) → out_after (claim_by host) None (entries_of lists (Cache host) a.results) ≡ None
    claims_none host = all_none (claim_by host) None lists (Cache host) a.results
        (each_ended context hosts lists (λ (r : JobResult). out_after (claim_by host) None (entries_in lists (Cache host) r.path.items) ≡ None) jobs a.results few m ends stands.done (claim_ended host))

    plans_none : (device : ℕ) → out_after (plan_by device) None (entries_of lists (Device device) a.results) ≡ None
    plans_none device = all_none (plan_by device) None lists (Device device) a.results
        (each_ended context hosts lists (λ (r : JobResult). out_after (plan_by device) None (entries_in lists (Device device) r.path.items) ≡ None) jobs a.results few m ends stands.done (plan_ended device))

    pub claim_now : (steps : List Step) → Reads lists a.path steps → (host : ℕ) → out_after (claim_by host) None (lists (Cache host)) ≡ out_after (claim_by host) None steps
    claim_now steps reads host =
        ap (out_after (claim_by host) None) (list_is lists a (Cache host) (stands.counted (Cache host)) (stands.whole (Cache host)))
        ∙ fold-append (λ z step. claim_by host z step.call step.reply) None (entries_of lists (Cache host) a.results) (entries_in lists (Cache host) a.path)
        ∙ ap (λ (z : Option Name). out_after (claim_by host) z (entries_in lists (Cache host) a.path)) (claims_none host)
        ∙ tell.claim lists a.path steps reads host None

    pub plan_now : (steps : List Step) → Reads lists a.path steps → (device : ℕ) → out_after (plan_by device) None (lists (Device device)) ≡ out_after (plan_by device) None steps
    plan_now steps reads device =
        ap (out_after (plan_by device) None) (list_is lists a (Device device) (stands.counted (Device device)) (stands.whole (Device device)))
        ∙ fold-append (λ z step. plan_by device z step.call step.reply) None (entries_of lists (Device device) a.results) (entries_in lists (Device device) a.path)
        ∙ ap (λ (z : Option DeviceCall). out_after (plan_by device) z (entries_in lists (Device device) a.path)) (plans_none device)
        ∙ tell.plan lists a.path steps reads device None

-- ---- what answers to Plans told, by steps

abbrev pub told_by : ℕ → Option Told → Call → Reply → Option Told
told_by device t (on_device d (devices.plans call)) (by_device (devices.planned needs pages)) = cond (nat_eq d device) (Some (record { call = call; needs = needs; pages = pages })) t
told_by device t (on_device d (devices.commits (Some call) used)) (by_device (devices.committed reply)) = cond (nat_eq d device) None t
told_by device t (on_device d devices.drops) (by_device devices.dropped) = cond (nat_eq d device) None t
told_by device t (on_device d devices.reaps) (by_device devices.reaped) = cond (nat_eq d device) None t
told_by device t call reply = t

one_told : (device : ℕ) (t : Option Told) (call : DeviceNoted) (reply : DeviceAnswer) → told_after t call reply ≡ told_by device t (on_device device (devices.seen_noted call)) (by_device (devices.seen_reply reply))
one_told device t (noted.Plan call) (told.Planned needs pages) = rw (eq-eqb device device refl) refl
one_told device t (noted.Plan call) reply = refl
one_told device t (noted.Commit (Some call) used) (told.Committed reply) = rw (eq-eqb device device refl) refl
one_told device t (noted.Commit (Some call) used) reply = refl
one_told device t (noted.Commit None used) reply = refl
one_told device t noted.Drop told.Dropped = rw (eq-eqb device device refl) refl
one_told device t noted.Drop reply = refl
one_told device t noted.Reap told.Reaped = rw (eq-eqb device device refl) refl
one_told device t noted.Reap reply = refl

pub from_told : (device caller : ℕ) (log : List LogEntry) (t : Option Told) → fold (told_then caller) t log ≡ out_after (told_by device) t (map (device_entry device) (own_entries caller log))
from_told device caller [] t = refl
from_told device caller (e ∷ log) t = by (from_told device caller log) (e.caller == caller)
  where
    by : ((c : Option Told) → fold (told_then caller) c log ≡ out_after (told_by device) c (map (device_entry device) (own_entries caller log))) → (b : Bool)
        → fold (told_then caller) (cond b (told_after t e.call e.reply) t) log ≡ out_after (told_by device) t (map (device_entry device) (cond b (e ∷ own_entries caller log) (own_entries caller log)))
    by more true = more (told_after t e.call e.reply) ∙ ap (λ (c : Option Told). out_after (told_by device) c (map (device_entry device) (own_entries caller log))) (one_told device t e.call e.reply)
    by more false = more t

-- the plan is the call that was told
abbrev call_of : Option Told → Option DeviceCall
call_of = option_map (λ t. t.call)

cond_call : (b : Bool) (x y : Option Told) → call_of (cond b x y) ≡ cond b (call_of x) (call_of y)
cond_call true x y = refl
cond_call false x y = refl

told_plan : (device : ℕ) (t : Option Told) (call : Call) (reply : Reply) → call_of (told_by device t call reply) ≡ plan_by device (call_of t) call reply
told_plan device t (on_device d (devices.plans call)) (by_device (devices.planned needs pages)) = cond_call (nat_eq d device) _ t
told_plan device t (on_device d (devices.commits (Some call) used)) (by_device (devices.committed reply)) = cond_call (nat_eq d device) None t
told_plan device t (on_device d devices.drops) (by_device devices.dropped) = cond_call (nat_eq d device) None t
told_plan device t (on_device d devices.reaps) (by_device devices.reaped) = cond_call (nat_eq d device) None t
told_plan device t call reply = refl

told_plans : (device : ℕ) (t : Option Told) (steps : List Step) → call_of (out_after (told_by device) t steps) ≡ out_after (plan_by device) (call_of t) steps
told_plans device t [] = refl
told_plans device t (s ∷ steps) =
    told_plans device (told_by device t s.call s.reply) steps ∙ ap (λ (p : Option DeviceCall). out_after (plan_by device) p steps) (told_plan device t s.call s.reply)

no_call : (t : Option Told) → call_of t ≡ None → t ≡ None
no_call None e = refl
no_call (Some t) e = absurd (cc)

-- ---- of a planned call the path names one entry of the device

same_is : (a b : ObjectId) (n : ℕ) → a ≡ Device n → is_same a (Device n) ≡ true
same_is a b n e = subst (λ (o : ObjectId). is_same o (Device n) ≡ true) (sym e) (eq-eqb n n refl)

and_false : (a b : Bool) → b ≡ false → (a && b) ≡ false
and_false true b e = e
and_false false b e = refl

none_named : (lists : Lists) (n : ℕ) (path : List Did) (later : List Step) → Reads lists path later → AllByRecursion (IsElsewhere n) later → filter (is_entry_of (Device n)) path ≡ []
none_named lists n [] later r h = refl
none_named lists n (d ∷ path) [] r h = absurd r
none_named lists n (d ∷ path) (s ∷ later) r h =
    let off : is_same d.object (Device n) ≡ false = subst (λ (o : ObjectId). is_same o (Device n) ≡ false) r.0.0 h.0 in
    let not_one : is_entry_of (Device n) d ≡ false = and_false (not d.memory) (is_same d.object (Device n)) off in
    rw not_one (none_named lists n path later r.1 h.1)

abbrev planned_step : Work → List ℕ → ℕ → Step
planned_step w needs pages = step (on_device w.device (devices.plans w.call)) (by_device (devices.planned needs pages))

first_named : (lists : Lists) (w : Work) (needs : List ℕ) (pages : ℕ) (d : Did) (path : List Did) → ReadsOne lists d (planned_step w needs pages) → filter (is_entry_of (Device w.device)) path ≡ []
    → entries_in lists (Device w.device) (d ∷ path) ≡ planned_step w needs pages ∷ []
first_named lists w needs pages d path r none = by d.memory r.1
  where
    at : d.object ≡ Device w.device
    at = sym r.0

    one : (b : Bool) → b ≡ true → slice_get (lists (Device w.device)) d.place ≡ Some (planned_step w needs pages)
        → flat_map (read (lists (Device w.device))) (map (λ (d : Did). d.place) (cond b (d ∷ filter (is_entry_of (Device w.device)) path) (filter (is_entry_of (Device w.device)) path))) ≡ planned_step w needs pages ∷ []
    one true e got = rw (none, got) refl
    one false e got = absurd (cc)

    by : (b : Bool) → IsAt b (lists d.object) d.place (planned_step w needs pages)
        → flat_map (read (lists (Device w.device))) (map (λ (d : Did). d.place) (cond (not b && is_same d.object (Device w.device)) (d ∷ filter (is_entry_of (Device w.device)) path) (filter (is_entry_of (Device w.device)) path))) ≡ planned_step w needs pages ∷ []
    by true e = absurd (cc)
    by false e = one (is_same d.object (Device w.device)) (same_is d.object d.object w.device at) (subst (λ (o : ObjectId). slice_get (lists o) d.place ≡ Some (planned_step w needs pages)) at e)

planned_named : (lists : Lists) (w : Work) (needs : List ℕ) (pages : ℕ) (path : List Did) (steps : List Step) → Reads lists path steps → IsPlanned w needs pages steps
    → entries_in lists (Device w.device) path ≡ planned_step w needs pages ∷ []
planned_named lists w needs pages path steps reads p = by path (subst (λ (l : List Step). Reads lists path l) p.first reads)
  where
    by : (path : List Did) → Reads lists path (planned_step w needs pages ∷ p.later) → entries_in lists (Device w.device) path ≡ planned_step w needs pages ∷ []
    by [] r = absurd r
    by (d ∷ path) r = first_named lists w needs pages d path r.0 (none_named lists w.device path p.later r.1 p.elsewhere)

module _ (fit : WalksFit) (tell : PathsTell) (context : Context) (hosts : ℕ) (lists : Lists) (jobs : List Job) (a : Account) (stands : Stands context lists jobs a)
    (m : AllByRecursion (MayBeGiven context hosts) jobs) (ends : AreEnded a.results) (few : length a.results ≤ length jobs) where
  -- what the answer to the Plan of the call under way told
  pub told_now : (w : Work) (needs : List ℕ) (pages : ℕ) (steps : List Step) → Reads lists a.path steps → IsPlanned w needs pages steps
      → out_after (told_by w.device) None (lists (Device w.device)) ≡ Some (record { call = w.call; needs = needs; pages = pages })
  told_now w needs pages steps reads p =
      let n : ℕ = w.device in
      let before : out_after (told_by n) None (entries_of lists (Device n) a.results) ≡ None =
      no_call (out_after (told_by n) None (entries_of lists (Device n) a.results)) (told_plans n None (entries_of lists (Device n) a.results) ∙ plans_none fit tell context hosts lists jobs a stands m ends few n) in
      ap (out_after (told_by n) None) (list_is lists a (Device n) (stands.counted (Device n)) (stands.whole (Device n)))
      ∙ fold-append (λ z step. told_by n z step.call step.reply) None (entries_of lists (Device n) a.results) (entries_in lists (Device n) a.path)
      ∙ ap (λ (z : Option Told). out_after (told_by n) z (entries_in lists (Device n) a.path)) before
      ∙ ap (out_after (told_by n) None) (planned_named lists w needs pages a.path steps reads p)
      ∙ ap (λ (b : Bool). cond b (Some (record { call = w.call; needs = needs; pages = pages })) None) (eq-eqb n n refl)
