-- Over a sound store no entry tells of a spoiled chunk, and so no device call ends with one.
use Rattle.std.proofs.Common.{◌≡◌, ◌≢◌, ℕ, zero, suc, List, [], ◌∷◌, map, Some, slice_get, cond, Bool, true, false, refl, subst}
use Rattle.std.specs.Prelude.{⊤, ◌==◌}
use Rattle.std.specs.Option.{option_to_list}
use Rattle.std.specs.List.{AllByRecursion, AllZip, flat_map}
use Rattle.lr_origin.specs.Objects.{Objects}
use Rattle.lr_origin.specs.declared.key.KeyKind.{KeyKind}
use Rattle.lr_object.specs.Own.{own_entries}
use Rattle.lr_object.specs.declared.id.ObjectId.TheVariants.{Depot}
use Rattle.lr_opening.specs.Store.{HasChunks}
use Rattle.lr_rules.specs.State.{State}
use Rattle.lr_rules.specs.Safe.{IsSafe}
use Rattle.lr_rules.proofs.Start.{start_safe}
use Rattle.lr_depot.specs.Begun.{Start}
use Rattle.lr_depot.specs.Depot.{LedTo, first_state}
use Rattle.lr_depot.specs.declared.call.DepotReply.{DepotReply}
use Rattle.lr_depot.specs.declared.call.DepotReply.TheVariants as reply
use Rattle.lr_depot.specs.declared.call.DepotTold.{DepotTold}
use Rattle.lr_depot.specs.declared.call.DepotTold.TheVariants as told
use Rattle.lr_depot.specs.Machine.{LogEntry, IsTold, DepotStep, after_entry}
use Rattle.lr_depot.specs.Store.{LeadsTo, StoreStep, Follows}
use Rattle.lr_depot.proofs.Moved.{entry_safe}
use Rattle.lr_depot.proofs.Followed.{never_spoiled, start_follows, entry_follows, entry_chunks}
use Rattle.lr_device.specs.declared.call.DeviceCall.{DeviceCall}
use Rattle.lr_walk.specs.declared.trail.Answer.{Answer}
use Rattle.lr_walk.specs.declared.trail.Answer.TheVariants.{Spoiled}
use Rattle.lr_walk.specs.declared.trail.Did.{Did}
use Rattle.lr_walk.specs.declared.trail.JobResult.{JobResult}
use Rattle.lr_walk.specs.Steps.{Call, on_depot, Reply, by_depot, Step}
use Rattle.lr_walk.specs.Depot as depots
use Rattle.lr_history.specs.Jobs.{JobSeen, calls}
use Rattle.lr_walk.specs.Trails.{Lists, places_in}
use Rattle.lr_history.specs.Lists.{depot_entry, entries_in}
use Rattle.lr_history.specs.Answered.{failed_by, failed_in, IsCallAnswer}
use Rattle.lr_history.specs.Histories.{IsAnswered}
use Rattle.lr_history.proofs.Public.{all_append}

-- ---- the depot's log

abbrev pub IsUnspoiled : DepotTold → Type 0
IsUnspoiled (told.Spoiled key) = ⊥
IsUnspoiled t = ⊤

spoiled_reply : (r : DepotReply) (key : KeyKind) → IsTold r (told.Spoiled key) → (k : KeyKind) × (r ≡ reply.Spoiled k)
spoiled_reply (reply.Spoiled k) key t = (k, refl)
spoiled_reply (reply.Opened l m) key t = absurd t
spoiled_reply (reply.Fetched chunk) key t = absurd t
spoiled_reply (reply.Copied chunk) key t = absurd t
spoiled_reply (reply.Moving session from to m) key t = absurd t
spoiled_reply reply.Nothing key t = absurd t
spoiled_reply reply.OutOfMemory key t = absurd t
spoiled_reply r key t = absurd (cc)

told_unspoiled : (r : DepotReply) (t : DepotTold) → IsTold r t → ((k : KeyKind) → r ≡ reply.Spoiled k → ⊥) → IsUnspoiled t
told_unspoiled r (told.Spoiled key) h never = let s = spoiled_reply r key h in never s.0 s.1
told_unspoiled r t h never = tt

log_unspoiled : (s : State) (m : Objects) (log : List LogEntry) (n : Objects) → IsSafe s → Follows s.known m → HasChunks m → LeadsTo s m log n
    → AllByRecursion (λ (e : LogEntry). IsUnspoiled e.reply) log
log_unspoiled s m [] n safe follows chunks leads = tt
log_unspoiled s m (e ∷ es) n safe follows chunks leads = (
  told_unspoiled leads.1 e.reply leads.4.told (λ k is.
      never_spoiled s safe e.caller leads.0 k m (Some leads.2) follows chunks
      (subst (λ (r : DepotReply). DepotStep s e.caller leads.0 r) is leads.3)
      (subst (λ (r : DepotReply). StoreStep s e.caller leads.0 r m (Some leads.2)) is leads.5)),
  log_unspoiled (after_entry s e) leads.2 es n (entry_safe s safe e leads.0 leads.1 leads.3 leads.4)
      (entry_follows s safe e leads.0 leads.1 m leads.2 leads.3 leads.5 leads.4 follows)
      (entry_chunks s safe e leads.0 leads.1 m leads.2 leads.3 leads.5 leads.4 chunks) leads.6,
)

pub led_unspoiled : (start : Start) (m : Objects) (log : List LogEntry) (n : Objects) → LedTo start m log n → HasChunks m → AllByRecursion (λ (e : LogEntry). IsUnspoiled e.reply) log
led_unspoiled start m log n led chunks =
    log_unspoiled (first_state start) m log n (start_safe start.view start.number led.begun.may) (start_follows start.view start.number m led.mirrors) chunks led.leads

-- ---- its entries as steps

abbrev pub IsUnspoiledReply : Reply → Type 0
IsUnspoiledReply (by_depot (depots.spoiled key)) = ⊥
IsUnspoiledReply r = ⊤

entry_unspoiled : (t : DepotTold) → IsUnspoiled t → IsUnspoiledReply (by_depot (depots.seen_told t))
entry_unspoiled (told.Spoiled key) h = h
entry_unspoiled t h = tt

-- an actor's own list of the depot
pub own_unspoiled : (n : ℕ) (log : List LogEntry) → AllByRecursion (λ (e : LogEntry). IsUnspoiled e.reply) log
    → AllByRecursion (λ (s : Step). IsUnspoiledReply s.reply) (map depot_entry (own_entries n log))
own_unspoiled n [] h = tt
own_unspoiled n (e ∷ log) h = by (e.caller == n) (own_unspoiled n log h.1)
  where
    by : (b : Bool) → AllByRecursion (λ (s : Step). IsUnspoiledReply s.reply) (map depot_entry (own_entries n log))
        → AllByRecursion (λ (s : Step). IsUnspoiledReply s.reply) (map depot_entry (cond b (e ∷ own_entries n log) (own_entries n log)))
    by true r = (entry_unspoiled e.reply h.0, r)
    by false r = r

read_unspoiled : (P : Step → Type 0) (xs : List Step) → AllByRecursion P xs → (place : ℕ) → AllByRecursion P (option_to_list (slice_get xs place))
read_unspoiled P [] h place = tt
read_unspoiled P (x ∷ xs) h zero = (h.0, tt)
read_unspoiled P (x ∷ xs) h (suc place) = read_unspoiled P xs h.1 place

reads_unspoiled : (P : Step → Type 0) (xs : List Step) → AllByRecursion P xs → (places : List ℕ) → AllByRecursion P (flat_map (λ (place : ℕ). option_to_list (slice_get xs place)) places)
reads_unspoiled P xs h [] = tt
reads_unspoiled P xs h (p ∷ places) = all_append P (option_to_list (slice_get xs p)) _ (read_unspoiled P xs h p) (reads_unspoiled P xs h places)

-- ---- the failures of a call

abbrev IsNoSpoil : Answer → Type 0
IsNoSpoil (Spoiled key) = ⊥
IsNoSpoil answer = ⊤

step_unspoiled : (call : Call) (r : Reply) → IsUnspoiledReply r → AllByRecursion IsNoSpoil (failed_by call r)
step_unspoiled (on_depot (depots.fetches lease index)) (by_depot (depots.spoiled key)) h = absurd h
step_unspoiled (on_depot (depots.fetches lease index)) (by_depot (depots.fault key)) h = (tt, tt)
step_unspoiled call r h = tt

failed_unspoiled : (steps : List Step) → AllByRecursion (λ (s : Step). IsUnspoiledReply s.reply) steps → AllByRecursion IsNoSpoil (failed_in steps)
failed_unspoiled [] h = tt
failed_unspoiled (s ∷ steps) h = all_append IsNoSpoil (failed_by s.call s.reply) (failed_in steps) (step_unspoiled s.call s.reply h.0) (failed_unspoiled steps h.1)

job_unspoiled : (lists : Lists) → AllByRecursion (λ (s : Step). IsUnspoiledReply s.reply) (lists Depot) → (job : JobSeen) (path : List Did) (answer : Answer) → IsAnswered lists job path answer
    → (device : ℕ) (call : DeviceCall) (key : KeyKind) → job ≡ calls device call → answer ≢ Spoiled key
job_unspoiled lists all job path answer a device call key is same =
    let failed : failed_in (entries_in lists Depot path) ≡ Spoiled key ∷ [] =
    subst (λ (x : Answer). IsCallAnswer x (failed_in (entries_in lists Depot path))) same (a.cause device call is) in
    let none = failed_unspoiled (entries_in lists Depot path) (reads_unspoiled (λ (s : Step). IsUnspoiledReply s.reply) (lists Depot) all (places_in Depot path)) in
    let bad : AllByRecursion IsNoSpoil (Spoiled key ∷ []) = subst (AllByRecursion IsNoSpoil) failed none in
    bad.0

pub jobs_unspoiled : (lists : Lists) → AllByRecursion (λ (s : Step). IsUnspoiledReply s.reply) (lists Depot) → (jobs : List JobSeen) (results : List JobResult)
    → AllZip (λ (job : JobSeen) (r : JobResult). IsAnswered lists job r.path.items r.answer) jobs results
    → AllZip (λ (job : JobSeen) (r : JobResult). (device : ℕ) (call : DeviceCall) (key : KeyKind) → job ≡ calls device call → r.answer ≢ Spoiled key) jobs results
jobs_unspoiled lists all [] [] h = tt
jobs_unspoiled lists all [] (r ∷ results) h = absurd h
jobs_unspoiled lists all (job ∷ jobs) [] h = absurd h
jobs_unspoiled lists all (job ∷ jobs) (r ∷ results) h = (job_unspoiled lists all job r.path.items r.answer h.0, jobs_unspoiled lists all jobs results h.1)
