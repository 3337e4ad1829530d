-- What entries tell is out, and the cache's machine.
use Rattle.std.proofs.Common.{◌≡◌, ℕ, List, [], ◌∷◌, map, filter, Bool, true, false, not, cond, fold, nat_eq, Option, Some, None, slice_get, option_map, inl, inr, refl, sym, ap, subst, ◌∙◌, eq-eqb}
use Rattle.std.specs.Prelude.{◌⊎◌, ◌&&◌, ◌==◌, IsSome, IsNone}
use Rattle.std.specs.Option.{option_to_list}
use Rattle.std.specs.List.{flat_map, AllByRecursion, AllZip}
use Rattle.std.specs.Arc.{arc_value}
use Rattle.std.proofs.lemmas.List.Sums.{fold-append}
use Rattle.std.proofs.lemmas.Slice.Eq.{bytes_eq-Decides}
use Rattle.sha2.specs.Sha256.{sha256}
use Rattle.lr_manifest.specs.declared.name.Name.{Name}
use Rattle.lr_object.specs.Own.{own_entries}
use Rattle.lr_object.specs.declared.id.ObjectId.{ObjectId}
use Rattle.lr_object.specs.declared.id.ObjectId.TheVariants.{Device, Cache}
use Rattle.lr_device.specs.declared.call.DeviceCall.{DeviceCall}
use Rattle.lr_device.specs.declared.step.DeviceNoted.{DeviceNoted}
use Rattle.lr_device.specs.declared.step.DeviceNoted.TheVariants.{Plan, Commit, Drop, Reap as DeviceReap}
use Rattle.lr_device.specs.declared.step.DeviceAnswer.{DeviceAnswer}
use Rattle.lr_device.specs.declared.step.DeviceAnswer.TheVariants.{Planned, Committed, Dropped, Reaped, NoPlan, OutOfMemory}
use Rattle.lr_device.specs.declared.step.DeviceStep.TheVariants as asks
use Rattle.lr_device.specs.Machine.{LogEntry as DeviceEntry, OpenPlan, plan_of, run as made_by}
use Rattle.lr_device.specs.Answers.{Answers}
use Rattle.lr_device.specs.Enters.{Enters}
use Rattle.lr_device.proofs.OnesOwn.{planned_is}
use Rattle.lr_object.specs.Grown.{Grown}
use Rattle.lr_device.specs.Plans.{planned_after, planned_then}
use Rattle.lr_cache.specs.declared.call.Claim.{Claim}
use Rattle.lr_cache.specs.declared.call.CacheCall.{CacheCall}
use Rattle.lr_cache.specs.declared.call.CacheCall.TheVariants.{Look, Fill, GiveUp, Evict, Reap}
use Rattle.lr_cache.specs.declared.call.CacheReply.{CacheReply}
use Rattle.lr_cache.specs.declared.call.CacheReply.TheVariants as cached
use Rattle.lr_cache.specs.Machine.{LogEntry, CacheStep, claim_of, empty, run}
use Rattle.lr_claims.specs.Logs.{IsLegal}
use Rattle.lr_claims.specs.Own.{claim_after, claim_then, claimed}
use Rattle.lr_claims.proofs.Public.{ones_own, held_own, refused_own, busy_own}
use Rattle.lr_walk.specs.declared.trail.Answer.{Answer}
use Rattle.lr_walk.specs.declared.trail.Answer.TheVariants.{Cut, Unbegun}
use Rattle.lr_walk.specs.declared.trail.Did.{Did}
use Rattle.lr_walk.specs.declared.trail.JobResult.{JobResult}
use Rattle.lr_walk.specs.Steps.{Call, on_device, on_cache, Reply, by_device, by_cache, Step, object_of, is_memory}
use Rattle.lr_walk.specs.Device as devices
use Rattle.lr_walk.specs.Cache as caches
use Rattle.lr_walk.specs.Jobs.{Context}
use Rattle.lr_walk.specs.Trails.{Lists, is_same, IsAt, Reads, is_entry_of, IsReap}
use Rattle.lr_history.specs.Jobs.{JobSeen, WalksSeen, OrCut, HasTrailSeen}
use Rattle.lr_history.specs.Lists.{device_entry, cache_entry, entries_in}
use Rattle.lr_history.specs.Ready.{claim_by, FitsClaim, plan_by, FitsPlan, out_after, PathsTell, PlansAreTold, ClaimsAreTold, own_in, own_of, FitIsPlanned, FitIsGranted, BusyWaitsForAnother, IsWhole, EndedHasNone}
use Rattle.lr_history.proofs.Paths.{same_is, list_follows}
use Rattle.lr_history.proofs.Owned.{Follows}
use Rattle.lr_history.proofs.Fits.{fit_end, walks_fit}

-- ---- what is out by entries and by steps

module _ {S : Type 0} (after : S → Call → Reply → S) (o : ObjectId)
    (elsewhere : (a : S) (call : Call) (r : Reply) → is_same (object_of call) o ≡ false → after a call r ≡ a) (no_memory : (a : S) (call : Call) (r : Reply) → is_memory r ≡ true → after a call r ≡ a) (lists : Lists) where
  abbrev read : ℕ → List Step
  read i = option_to_list (slice_get (lists o) i)

  one_read : (a : S) (d : Did) (s : Step) (path : List Did) (steps : List Step) (here m : Bool) → is_same d.object o ≡ here → d.memory ≡ m
      → object_of s.call ≡ d.object → IsAt m (lists d.object) d.place s
      → ((b : S) → out_after after b (entries_in lists o path) ≡ out_after after b steps)
      → out_after after a (flat_map read (map (λ (d : Did). d.place) (cond (not m && here) (d ∷ filter (is_entry_of o) path) (filter (is_entry_of o) path)))) ≡ out_after after (after a s.call s.reply) steps
  one_read a d s path steps true false h m at there rest =
      let is : d.object ≡ o = same_is d.object o h in
      let got : slice_get (lists o) d.place ≡ Some s = subst (λ (x : ObjectId). slice_get (lists x) d.place ≡ Some s) is there in
      rw got (rest (after a s.call s.reply))
  one_read a d s path steps here true h m at there rest =
      let stays : after a s.call s.reply ≡ a = no_memory a s.call s.reply there in
      rest a ∙ ap (λ (b : S). out_after after b steps) (sym stays)
  one_read a d s path steps false false h m at there rest =
      let off : is_same (object_of s.call) o ≡ false = subst (λ (x : ObjectId). is_same x o ≡ false) (sym at) h in
      rest a ∙ ap (λ (b : S). out_after after b steps) (sym (elsewhere a s.call s.reply off))

  pub reads_tell : (path : List Did) (steps : List Step) → Reads lists path steps → (a : S) → out_after after a (entries_in lists o path) ≡ out_after after a steps
  reads_tell [] [] r a = refl
  reads_tell [] (s ∷ steps) r a = absurd r
  reads_tell (d ∷ path) [] r a = absurd r
  reads_tell (d ∷ path) (s ∷ steps) r a = one_read a d s path steps (is_same d.object o) d.memory refl refl r.0.0 r.0.1 (reads_tell path steps r.1)

claim_elsewhere : (host : ℕ) (a : Option Name) (call : Call) (r : Reply) → is_same (object_of call) (Cache host) ≡ false → claim_by host a call r ≡ a
claim_elsewhere host a (on_cache h (caches.looks name)) (by_cache caches.lead) e = rw e refl
claim_elsewhere host a (on_cache h (caches.fills chunk)) (by_cache caches.filled) e = rw e refl
claim_elsewhere host a (on_cache h caches.gives_up) (by_cache caches.given) e = rw e refl
claim_elsewhere host a (on_cache h caches.reaps) (by_cache caches.reaped) e = rw e refl
claim_elsewhere host a call r e = refl

claim_memory : (host : ℕ) (a : Option Name) (call : Call) (r : Reply) → is_memory r ≡ true → claim_by host a call r ≡ a
claim_memory host a (on_cache h (caches.looks name)) (by_cache caches.lead) e = absurd (cc)
claim_memory host a (on_cache h (caches.fills chunk)) (by_cache caches.filled) e = absurd (cc)
claim_memory host a (on_cache h caches.gives_up) (by_cache caches.given) e = absurd (cc)
claim_memory host a (on_cache h caches.reaps) (by_cache caches.reaped) e = absurd (cc)
claim_memory host a call r e = refl

plan_elsewhere : (device : ℕ) (a : Option DeviceCall) (call : Call) (r : Reply) → is_same (object_of call) (Device device) ≡ false → plan_by device a call r ≡ a
plan_elsewhere device a (on_device d (devices.plans call)) (by_device (devices.planned needs pages)) e = rw e refl
plan_elsewhere device a (on_device d (devices.commits (Some call) used)) (by_device (devices.committed reply)) e = rw e refl
plan_elsewhere device a (on_device d devices.drops) (by_device devices.dropped) e = rw e refl
plan_elsewhere device a (on_device d devices.reaps) (by_device devices.reaped) e = rw e refl
plan_elsewhere device a call r e = refl

plan_memory : (device : ℕ) (a : Option DeviceCall) (call : Call) (r : Reply) → is_memory r ≡ true → plan_by device a call r ≡ a
plan_memory device a (on_device d (devices.plans call)) (by_device (devices.planned needs pages)) e = absurd (cc)
plan_memory device a (on_device d (devices.commits (Some call) used)) (by_device (devices.committed reply)) e = absurd (cc)
plan_memory device a (on_device d devices.drops) (by_device devices.dropped) e = absurd (cc)
plan_memory device a (on_device d devices.reaps) (by_device devices.reaped) e = absurd (cc)
plan_memory device a call r e = refl

pub paths_tell : PathsTell
paths_tell = record {
  claim = λ lists path steps r host claim. reads_tell (claim_by host) (Cache host) (claim_elsewhere host) (claim_memory host) lists path steps r claim;
  plan = λ lists path steps r device plan. reads_tell (plan_by device) (Device device) (plan_elsewhere device) (plan_memory device) lists path steps r plan;
}

-- ---- the cache's machine

one_told : (host : ℕ) (claim : Option Name) (call : CacheCall) (reply : CacheReply) → claim_after claim call reply ≡ claim_by host claim (on_cache host (caches.seen_call call)) (by_cache (caches.seen_reply reply))
one_told host claim (Look name) cached.Lead = rw (eq-eqb host host refl) refl
one_told host claim (Look name) reply = refl
one_told host claim (Fill chunk) cached.Filled = rw (eq-eqb host host refl) refl
one_told host claim (Fill chunk) reply = refl
one_told host claim GiveUp cached.Given = rw (eq-eqb host host refl) refl
one_told host claim GiveUp reply = refl
one_told host claim Evict reply = refl
one_told host claim Reap cached.Reaped = rw (eq-eqb host host refl) refl
one_told host claim Reap reply = refl

from_told : (host caller : ℕ) (log : List LogEntry) (claim : Option Name) → fold (claim_then caller) claim (own_entries caller log) ≡ out_after (claim_by host) claim (own_in host caller log)
from_told host caller [] claim = refl
from_told host caller (e ∷ log) claim = by (from_told host caller log) (e.caller == caller) refl
  where
    by : ((c : Option Name) → fold (claim_then caller) c (own_entries caller log) ≡ out_after (claim_by host) c (own_in host caller log)) → (b : Bool) → (e.caller == caller) ≡ b
        → fold (claim_then caller) claim (cond b (e ∷ own_entries caller log) (own_entries caller log)) ≡ out_after (claim_by host) claim (map (cache_entry host) (cond b (e ∷ own_entries caller log) (own_entries caller log)))
    by more true t =
        ap (λ (b : Bool). fold (claim_then caller) (cond b (claim_after claim e.call e.reply) claim) (own_entries caller log)) t
        ∙ more (claim_after claim e.call e.reply)
        ∙ ap (λ (c : Option Name). out_after (claim_by host) c (own_in host caller log)) (one_told host claim e.call e.reply)
    by more false t = more claim

pub claims_told : ClaimsAreTold
claims_told host caller log = from_told host caller log None

none_some : {P : Type 0} (o : Option Name) → o ≡ None → IsSome o → P
none_some None e s = absurd (cc)
none_some (Some x) e s = absurd (cc)

pub fit_granted : FitIsGranted
fit_granted = record {
  look = λ host capacity caller log name h f s.
      none_some (claimed caller (own_entries caller log)) (claims_told host caller log ∙ f) (held_own capacity caller log name h s);
  fill = λ host capacity caller log chunk h f s.
      let g = f (eq-eqb host host refl) in
      refused_own.fills capacity caller log g.0 chunk h (claims_told host caller log ∙ g.1) ((bytes_eq-Decides (sha256 (arc_value chunk)) g.0.bytes).1 g.2) s;
  give = λ host capacity caller log h f reply s.
      let g = f (eq-eqb host host refl) in
      given_only capacity caller log g.0 h (claims_told host caller log ∙ g.1) reply s;
}
  where
    given_only : (capacity caller : ℕ) (log : List LogEntry) (name : Name) → IsLegal capacity empty log → claimed caller (own_entries caller log) ≡ Some name
        → (reply : CacheReply) → CacheStep (run capacity log) caller GiveUp reply → reply ≡ cached.Given
    given_only capacity caller log name h e cached.Given s = refl
    given_only capacity caller log name h e cached.NoClaim s = absurd (refused_own.refused capacity caller log name h e s)
    given_only capacity caller log name h e cached.OutOfMemory s = absurd (refused_own.memory capacity caller log name h e s)
    given_only capacity caller log name h e reply s = absurd s

pub busy_waits : BusyWaitsForAnother
busy_waits = record {
  holder = λ host capacity caller holder log name h s.
      let b = busy_own capacity caller holder log name h s in
      (subst (λ (o : Option Name). IsSome o) (claims_told host holder log) b.0, b.1);
  alone = λ host capacity caller holder log name h none s.
      let b = busy_own capacity caller holder log name h s in
      none_some (claimed holder (own_entries holder log)) (claims_told host holder log ∙ none holder b.1) b.0;
  reap = λ host capacity caller log h s.
      sym (claims_told host caller log) ∙ sym (ones_own capacity caller log h) ∙ none_named (claim_of caller (run capacity log)) s;
}
  where
    none_named : (o : Option Claim) → IsNone o → option_map (λ (c : Claim). c.name) o ≡ None
    none_named None n = refl
    none_named (Some c) n = absurd (cc)

-- ---- an actor that ended

module _ {S : Type 0} (after : S → Call → Reply → S) (o : ObjectId) (a : S) (lists : Lists) where
  jobs_none : (results : List JobResult) → AllByRecursion (λ (r : JobResult). out_after after a (entries_in lists o r.path.items) ≡ a) results
      → out_after after a (flat_map (λ (r : JobResult). entries_in lists o r.path.items) results) ≡ a
  jobs_none [] h = refl
  jobs_none (r ∷ results) h =
      fold-append (λ z step. after z step.call step.reply) a (entries_in lists o r.path.items) (flat_map (λ (r : JobResult). entries_in lists o r.path.items) results)
      ∙ ap (λ (z : S). out_after after z (flat_map (λ (r : JobResult). entries_in lists o r.path.items) results)) h.0
      ∙ jobs_none results h.1

  reaps_none : ((call : Call) (reply : Reply) → IsReap call → after a call reply ≡ a) → (steps : List Step) → AllByRecursion (λ (s : Step). IsReap s.call) steps → out_after after a steps ≡ a
  reaps_none r [] h = refl
  reaps_none r (s ∷ steps) h = ap (λ (z : S). out_after after z steps) (r s.call s.reply h.0) ∙ reaps_none r steps h.1

  ended_none : (context : Context) (jobs : List JobSeen) (results : List JobResult) → HasTrailSeen context lists jobs results → ((call : Call) (reply : Reply) → IsReap call → after a call reply ≡ a)
      → AllByRecursion (λ (r : JobResult). out_after after a (entries_in lists o r.path.items) ≡ a) results → out_after after a (lists o) ≡ a
  ended_none context jobs results h r k =
      let f = list_follows (OrCut (WalksSeen context)) lists jobs results h o in
      ap (out_after after a) f.1
      ∙ fold-append (λ z step. after z step.call step.reply) a (flat_map (λ (r : JobResult). entries_in lists o r.path.items) results) f.0
      ∙ ap (λ (z : S). out_after after z f.0) (jobs_none results k)
      ∙ reaps_none r f.0 f.2.0

walk_whole : (context : Context) (job : JobSeen) (steps : List Step) (answer : Answer) → IsWhole answer → OrCut (WalksSeen context) job steps answer → (steps ≡ []) ⊎ WalksSeen context job steps answer
walk_whole context job steps Cut w h = absurd w
walk_whole context job steps Unbegun w h = inl h
walk_whole context job steps answer w h = inr h

claim_whole : (context : Context) (lists : Lists) (host : ℕ) (job : JobSeen) (r : JobResult) → Follows context lists job r.path.items r.answer → IsWhole r.answer
    → out_after (claim_by host) None (entries_in lists (Cache host) r.path.items) ≡ None
claim_whole context lists host job r w i = paths_tell.claim lists r.path.items w.0 w.1 host None ∙ by (walk_whole context job w.0 r.answer i w.2)
  where
    by : (w.0 ≡ []) ⊎ WalksSeen context job w.0 r.answer → out_after (claim_by host) None w.0 ≡ None
    by (inl e) = ap (out_after (claim_by host) None) e
    by (inr k) = fit_end (claim_by host) (FitsClaim host) None None w.0 (walks_fit.claims context job w.0 r.answer k host)

plan_whole : (context : Context) (lists : Lists) (device : ℕ) (job : JobSeen) (r : JobResult) → Follows context lists job r.path.items r.answer → IsWhole r.answer
    → out_after (plan_by device) None (entries_in lists (Device device) r.path.items) ≡ None
plan_whole context lists device job r w i = paths_tell.plan lists r.path.items w.0 w.1 device None ∙ by (walk_whole context job w.0 r.answer i w.2)
  where
    by : (w.0 ≡ []) ⊎ WalksSeen context job w.0 r.answer → out_after (plan_by device) None w.0 ≡ None
    by (inl e) = ap (out_after (plan_by device) None) e
    by (inr k) = fit_end (plan_by device) (FitsPlan device) None None w.0 (walks_fit.plans context job w.0 r.answer k device)

zip_results : (G : JobSeen → JobResult → Type 0) (I P : JobResult → Type 0) → ((job : JobSeen) (r : JobResult) → G job r → I r → P r) → (jobs : List JobSeen) (results : List JobResult)
    → AllZip G jobs results → AllByRecursion I results → AllByRecursion P results
zip_results G I P w [] [] h i = tt
zip_results G I P w [] (r ∷ results) h i = absurd h
zip_results G I P w (job ∷ jobs) [] h i = absurd h
zip_results G I P w (job ∷ jobs) (r ∷ results) h i = (w job r h.0 i.0, zip_results G I P w jobs results h.1 i.1)

none_either : {X : Type 0} (b : Bool) → ◌≡◌ {A = Option X} (cond b None None) None
none_either true = refl
none_either false = refl

claim_reaped : (host : ℕ) (call : Call) (reply : Reply) → IsReap call → claim_by host None call reply ≡ None
claim_reaped host (on_cache h caches.reaps) (by_cache caches.reaped) r = none_either (nat_eq h host)
claim_reaped host (on_cache h (caches.looks name)) reply r = absurd r
claim_reaped host (on_cache h (caches.fills chunk)) reply r = absurd r
claim_reaped host (on_cache h caches.gives_up) reply r = absurd r
claim_reaped host call reply r = refl

plan_reaped : (device : ℕ) (call : Call) (reply : Reply) → IsReap call → plan_by device None call reply ≡ None
plan_reaped device (on_device d devices.reaps) (by_device devices.reaped) r = none_either (nat_eq d device)
plan_reaped device (on_device d (devices.plans call)) reply r = absurd r
plan_reaped device (on_device d (devices.commits plan used)) reply r = absurd r
plan_reaped device (on_device d devices.drops) reply r = absurd r
plan_reaped device call reply r = refl

pub ended_has_none : EndedHasNone
ended_has_none = record {
  claim = λ context lists jobs results h i host.
      ended_none (claim_by host) (Cache host) None lists context jobs results h (claim_reaped host)
      (zip_results (λ (job : JobSeen) (r : JobResult). Follows context lists job r.path.items r.answer) (λ (r : JobResult). IsWhole r.answer)
      (λ (r : JobResult). out_after (claim_by host) None (entries_in lists (Cache host) r.path.items) ≡ None) (claim_whole context lists host) jobs results h.walks i);
  plan = λ context lists jobs results h i device.
      ended_none (plan_by device) (Device device) None lists context jobs results h (plan_reaped device)
      (zip_results (λ (job : JobSeen) (r : JobResult). Follows context lists job r.path.items r.answer) (λ (r : JobResult). IsWhole r.answer)
      (λ (r : JobResult). out_after (plan_by device) None (entries_in lists (Device device) r.path.items) ≡ None) (plan_whole context lists device) jobs results h.walks i);
}

-- ---- a device's plans

plan_told : (device : ℕ) (plan : Option DeviceCall) (call : DeviceNoted) (reply : DeviceAnswer) → planned_after plan call reply ≡ plan_by device plan (on_device device (devices.seen_noted call)) (by_device (devices.seen_reply reply))
plan_told device plan (Plan call) (Planned needs pages) = rw (eq-eqb device device refl) refl
plan_told device plan (Plan call) reply = refl
plan_told device plan (Commit (Some call) used) (Committed reply) = rw (eq-eqb device device refl) refl
plan_told device plan (Commit (Some call) used) reply = refl
plan_told device plan (Commit None used) reply = refl
plan_told device plan Drop Dropped = rw (eq-eqb device device refl) refl
plan_told device plan Drop reply = refl
plan_told device plan DeviceReap Reaped = rw (eq-eqb device device refl) refl
plan_told device plan DeviceReap reply = refl

own_plan : (device caller : ℕ) (log : List DeviceEntry) (plan : Option DeviceCall) → fold (planned_then caller) plan log ≡ out_after (plan_by device) plan (map (device_entry device) (own_entries caller log))
own_plan device caller [] plan = refl
own_plan device caller (e ∷ log) plan = by (own_plan device caller log) (e.caller == caller)
  where
    by : ((p : Option DeviceCall) → fold (planned_then caller) p log ≡ out_after (plan_by device) p (map (device_entry device) (own_entries caller log))) → (b : Bool)
        → fold (planned_then caller) (cond b (planned_after plan e.call e.reply) plan) log ≡ out_after (plan_by device) plan (map (device_entry device) (cond b (e ∷ own_entries caller log) (own_entries caller log)))
    by more true =
        more (planned_after plan e.call e.reply)
        ∙ ap (λ (p : Option DeviceCall). out_after (plan_by device) p (map (device_entry device) (own_entries caller log))) (plan_told device plan e.call e.reply)
    by more false = more plan

pub plans_told : PlansAreTold
plans_told device caller log = own_plan device caller log None

-- what the machine has of a caller's plan is what its own list tells
machine_tells : (device size caller : ℕ) (log : List DeviceEntry) → Grown Answers Enters size [] log
    → option_map (λ (p : OpenPlan). p.call) (plan_of caller (made_by size log)) ≡ out_after (plan_by device) None (own_of device caller log)
machine_tells device size caller log g = planned_is size log g caller ∙ plans_told device caller log

has_plan : {P : Type 0} (o : Option OpenPlan) → option_map (λ (p : OpenPlan). p.call) o ≡ None → IsSome o → P
has_plan None e s = absurd (cc)
has_plan (Some p) e s = absurd (cc)

has_none : {P : Type 0} (o : Option OpenPlan) (call : DeviceCall) → option_map (λ (p : OpenPlan). p.call) o ≡ Some call → IsNone o → P
has_none None call e n = absurd (cc)
has_none (Some p) call e n = absurd (cc)

none_planned : (o : Option OpenPlan) → IsNone o → option_map (λ (p : OpenPlan). p.call) o ≡ None
none_planned None n = refl
none_planned (Some p) n = absurd (cc)

pub fit_planned : FitIsPlanned
fit_planned = record {
  plan = λ device size caller log call g f a. has_plan (plan_of caller (made_by size log)) (machine_tells device size caller log g ∙ f (eq-eqb device device refl)) a;
  commit = λ device size caller log call used pieces room g f a.
      let k = f (eq-eqb device device refl) in
      has_none (plan_of caller (made_by size log)) k.0 (machine_tells device size caller log g ∙ k.1) a;
  drop = λ device size caller log g f answer a.
      let k = f (eq-eqb device device refl) in
      dropped size caller log k.0 (machine_tells device size caller log g ∙ k.1) answer a;
  reap = λ device size caller log g a. sym (machine_tells device size caller log g) ∙ none_planned (plan_of caller (made_by size log)) a;
}
  where
    dropped : (size caller : ℕ) (log : List DeviceEntry) (call : DeviceCall) → option_map (λ (p : OpenPlan). p.call) (plan_of caller (made_by size log)) ≡ Some call
        → (answer : DeviceAnswer) → Answers size log caller asks.Drop answer → answer ≡ Dropped
    dropped size caller log call e Dropped a = refl
    dropped size caller log call e NoPlan a = has_none (plan_of caller (made_by size log)) call e a
    dropped size caller log call e OutOfMemory a = has_none (plan_of caller (made_by size log)) call e a
    dropped size caller log call e answer a = absurd a
