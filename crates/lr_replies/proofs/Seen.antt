-- Walks of jobs and trails, as the history of a run sees them.
use Rattle.std.proofs.Common.{◌≡◌, ◌<◌, ℕ, zero, suc, List, [], ◌∷◌, ◌++◌, length, map, Some, None, slice_get, Option, refl, sym, subst, inl, inr, arith}
use Rattle.std.specs.List.{AllByRecursion, AllZip}
use Rattle.lr_spec.specs.Rose.{next_count}
use Rattle.lr_manifest.specs.declared.name.Name.{Name}
use Rattle.lr_stripe.specs.declared.stripe.Stripe.{Stripe}
use Rattle.lr_walk.specs.declared.trail.Answer.{Answer}
use Rattle.lr_walk.specs.declared.trail.Answer.TheVariants.{Cut, Unbegun, Forged, Dropped, Flipped, Memory}
use Rattle.lr_walk.specs.declared.trail.JobResult.{JobResult}
use Rattle.lr_walk.specs.Walk.{Walks, Ends}
use Rattle.lr_walk.specs.Steps.{Call, on_cache, on_node, on_depot, Reply, by_cache, by_node, by_depot, Step, Asks, depot_step}
use Rattle.lr_walk.specs.Stripes.{node_at}
use Rattle.lr_walk.specs.Cache as caches
use Rattle.lr_walk.specs.Node as nodes
use Rattle.lr_walk.specs.Depot as depots
use Rattle.lr_walk.specs.Calls.{DevicePlace}
use Rattle.lr_walk.specs.Damage.{after_evict, after_loss, Damages, after_damage, DropsStripe, FlipsStripe, forged_so_far, PutsForged, Forges}
use Rattle.lr_walk.specs.Jobs.{Context, after_depot}
use Rattle.lr_walk.specs.Trails.{Lists, Reads}
use Rattle.lr_collector.specs.declared.collect.CollectJob.{CollectJob}
use Rattle.lr_collector.specs.declared.collect.CollectJob.TheVariants as collect
use Rattle.lr_collector.specs.Collection as collections
use Rattle.lr_migrator.specs.Migration as migrations
use Rattle.lr_creator.specs.declared.create.Place.{Place}
use Rattle.lr_creator.specs.Creation as creations
use Rattle.lr_history.specs.Jobs.{JobSeen, IsApart, IsAnother, StaysApart, WalksSeen, OrCut}
use Rattle.lr_actors.specs.Lifted.{OfDepot, answer_to}
use Rattle.lr_actors.specs.Collecting.{collected, IsRemoval, Stops}
use Rattle.lr_actors.specs.Migrating.{migrated}
use Rattle.lr_actors.specs.Creating.{created, CreatesAll}
use Rattle.lr_actors.specs.Jobs.{Job, calls, creates, migrates, collects, closes, evicts, drops_stripe, flips_stripe, forges, loses, MakesJob, WalksJob, IsWalk}
use Rattle.lr_actors.specs.Actor.{MayBeGiven}
use Rattle.lr_actors.specs.Records.{HasWalk}
use Rattle.lr_replies.specs.Seen.{seen_job, JobsAreSeen, TrailsAreSeen}

-- ---- endings

another_by : (a answer : Answer) → IsAnother a → answer ≡ a → IsAnother answer
another_by a answer h e = subst IsAnother (sym e) h

reply_another : (r : depots.Reply) → IsAnother (answer_to r)
reply_another (depots.made root) = tt
reply_another (depots.rotated root) = tt
reply_another (depots.moved from to) = tt
reply_another depots.withdrawn = tt
reply_another depots.expired = tt
reply_another depots.deleted = tt
reply_another depots.there = tt
reply_another depots.absent = tt
reply_another depots.closed = tt
reply_another depots.no_image = tt
reply_another depots.no_root = tt
reply_another depots.taken = tt
reply_another depots.full = tt
reply_another depots.roots_end = tt
reply_another (depots.overtaken home) = tt
reply_another depots.not_expired = tt
reply_another depots.not_deleted = tt
reply_another depots.no_doubt = tt
reply_another (depots.serves image) = tt
reply_another (depots.session_on session) = tt
reply_another (depots.doubt key) = tt
reply_another (depots.not_retired_home home) = tt
reply_another depots.not_retired = tt
reply_another (depots.fault key) = tt
reply_another (depots.spoiled key) = tt
reply_another r = tt

collected_another : (end : collections.Ending) → IsAnother (collected end)
collected_another (collections.with_reply r) = reply_another r
collected_another (collections.with_count count) = tt
collected_another collections.with_memory = tt

migrated_another : (end : migrations.Ending) → IsAnother (migrated end)
migrated_another (migrations.with_roots from to) = tt
migrated_another (migrations.with_reply r) = reply_another r
migrated_another migrations.with_memory = tt

created_another : (end : creations.Ending) → IsAnother (created end)
created_another (creations.with_root root) = tt
created_another (creations.with_reply r) = reply_another r
created_another creations.with_memory = tt
created_another creations.with_stop = tt

-- ---- walks of the depot's jobs

-- each call stays apart
abbrev AreApart : List depots.Step → Type 0
AreApart own = AllByRecursion (λ (s : depots.Step). IsApart (on_depot s.call)) own

none_apart : (own : List depots.Step) → own ≡ [] → AreApart own
none_apart own e = subst AreApart (sym e) tt

asks_apart : {E : Type 0} (call : depots.Call) (after : depots.Reply → Walks depots.Step E) (own : List depots.Step) (end : E) → IsApart (on_depot call)
    → ((reply : depots.Reply) (tail : List depots.Step) → after reply tail end → AreApart tail) → depots.Asks call after own end → AreApart own
asks_apart call after own end h goes w =
    subst AreApart (sym w.3) (subst (λ (s : depots.Step). IsApart (on_depot s.call)) (sym w.4.0) h, goes w.0 w.2 w.5)

abandons_apart : {E : Type 0} (session : ℕ) (last : E) (own : List depots.Step) (end : E) → depots.Asks (depots.abandons session) (λ _. Ends last) own end → AreApart own
abandons_apart session last own end w = asks_apart (depots.abandons session) (λ _. Ends last) own end tt (λ reply tail r. none_apart tail r.0) w

removes_apart : (root count left : ℕ) (own : List depots.Step) (end : collections.Ending) → collections.Removes root count left own end → AreApart own
removes_apart root count zero own end w = asks_apart (depots.sweeps root) (collections.after_last count) own end tt by w
  where
    by : (reply : depots.Reply) (tail : List depots.Step) → collections.after_last count reply tail end → AreApart tail
    by (depots.removed key) tail r = absurd r
    by reply tail r = none_apart tail r.0
removes_apart root count (suc left) own end w =
    asks_apart (depots.sweeps root) (collections.after_removal (collections.Removes root (next_count count) left)) own end tt (by (λ tail. removes_apart root (next_count count) left tail end)) w
  where
    by : ((tail : List depots.Step) → collections.Removes root (next_count count) left tail end → AreApart tail)
        → (reply : depots.Reply) (tail : List depots.Step) → collections.after_removal (collections.Removes root (next_count count) left) reply tail end → AreApart tail
    by more (depots.removed key) tail r = more tail r
    by more reply tail r = absurd r

one_apart : (job : CollectJob) (own : List depots.Step) (end : collections.Ending) → IsApart (on_depot (collections.call_of job))
    → depots.Asks (collections.call_of job) (λ reply. Ends (collections.end_of reply)) own end → AreApart own
one_apart job own end h w = asks_apart (collections.call_of job) (λ reply. Ends (collections.end_of reply)) own end h (λ reply tail r. none_apart tail r.0) w

collects_apart : (job : CollectJob) (own : List depots.Step) (end : collections.Ending) → collections.Collects job own end → AreApart own
collects_apart (collect.Sweep root) own end w = removes_apart root 0 w.0 own end w.1
collects_apart (collect.Rotate bytes) own end w = one_apart (collect.Rotate bytes) own end tt w
collects_apart (collect.Withdraw image) own end w = one_apart (collect.Withdraw image) own end tt w
collects_apart (collect.Expire root) own end w = one_apart (collect.Expire root) own end tt w
collects_apart (collect.Delete root) own end w = one_apart (collect.Delete root) own end tt w
collects_apart (collect.Settle key) own end w = one_apart (collect.Settle key) own end tt w

module _ (session : ℕ) where
  finish_apart : (own : List depots.Step) (end : migrations.Ending) → migrations.Finishes session own end → AreApart own
  finish_apart own end w = asks_apart (depots.finishes_move session) (migrations.after_finish session) own end tt by w
    where
      by : (reply : depots.Reply) (tail : List depots.Step) → migrations.after_finish session reply tail end → AreApart tail
      by (depots.moved from to) tail r = none_apart tail r.0
      by depots.memory tail r = abandons_apart session migrations.with_memory tail end r
      by reply tail r = abandons_apart session (migrations.with_reply reply) tail end r

  put_apart : (name : List ℕ) (more : Walks depots.Step migrations.Ending) (own : List depots.Step) (end : migrations.Ending)
      → ((tail : List depots.Step) → more tail end → AreApart tail) → migrations.PutsOne session name more own end → AreApart own
  put_apart name more own end goes w = asks_apart (depots.puts_chunk session name) (migrations.after_put session more) own end tt by w
    where
      by : (reply : depots.Reply) (tail : List depots.Step) → migrations.after_put session more reply tail end → AreApart tail
      by depots.kept tail r = goes tail r
      by depots.memory tail r = abandons_apart session migrations.with_memory tail end r
      by reply tail r = abandons_apart session (migrations.with_reply reply) tail end r

  copy_apart : (index : ℕ) (more : Walks depots.Step migrations.Ending) (own : List depots.Step) (end : migrations.Ending)
      → ((tail : List depots.Step) → more tail end → AreApart tail) → migrations.CopiesOne session index more own end → AreApart own
  copy_apart index more own end goes w = asks_apart (depots.copies session index) (migrations.after_copy session more) own end tt by w
    where
      by : (reply : depots.Reply) (tail : List depots.Step) → migrations.after_copy session more reply tail end → AreApart tail
      by (depots.copied name) tail r = put_apart name more tail end goes r
      by depots.memory tail r = abandons_apart session migrations.with_memory tail end r
      by reply tail r = abandons_apart session (migrations.with_reply reply) tail end r

  copies_apart : (index left : ℕ) (own : List depots.Step) (end : migrations.Ending) → migrations.Copies session index left own end → AreApart own
  copies_apart index zero own end w = finish_apart own end w
  copies_apart index (suc left) own end w =
      copy_apart index (migrations.Copies session (suc index) left) own end (λ tail r. copies_apart (suc index) left tail end r) w

migrates_apart : (image : List ℕ) (own : List depots.Step) (end : migrations.Ending) → migrations.Migrates image own end → AreApart own
migrates_apart image own end w = asks_apart (depots.begins_move image) migrations.after_begin own end tt by w
  where
    by : (reply : depots.Reply) (tail : List depots.Step) → migrations.after_begin reply tail end → AreApart tail
    by (depots.moving session from to fields) tail r = copies_apart session 0 (length fields.names) tail end r
    by depots.memory tail r = none_apart tail r.0
    by reply tail r = none_apart tail r.0

module _ (tenant : List ℕ) (place : Place) where
  early_apart : (own : List depots.Step) (end : creations.Ending) → creations.LeavesEarly place.session own end → AreApart own
  early_apart own end (inl w) = abandons_apart place.session creations.with_memory own end w
  early_apart own end (inr w) = abandons_apart place.session creations.with_stop own end w

  manifest_apart : (parts : creations.Parts) (own : List depots.Step) (end : creations.Ending) → creations.Finishes place (creations.fields_of tenant place parts) own end → AreApart own
  manifest_apart parts own end w =
      asks_apart (depots.puts_manifest place.session (creations.fields_of tenant place parts)) (creations.after_manifest place) own end tt by w
    where
      by : (reply : depots.Reply) (tail : List depots.Step) → creations.after_manifest place reply tail end → AreApart tail
      by (depots.made root) tail r = none_apart tail r.0
      by depots.memory tail r = abandons_apart place.session creations.with_memory tail end r
      by reply tail r = abandons_apart place.session (creations.with_reply reply) tail end r

  chunk_apart : (name : Name) (more : Walks depots.Step creations.Ending) (own : List depots.Step) (end : creations.Ending)
      → ((tail : List depots.Step) → more tail end → AreApart tail) → creations.PutsOne place name more own end → AreApart own
  chunk_apart name more own end goes w = asks_apart (depots.puts_chunk place.session name.bytes) (creations.after_chunk place more) own end tt by w
    where
      by : (reply : depots.Reply) (tail : List depots.Step) → creations.after_chunk place more reply tail end → AreApart tail
      by depots.kept tail r = goes tail r
      by depots.memory tail r = abandons_apart place.session creations.with_memory tail end r
      by reply tail r = abandons_apart place.session (creations.with_reply reply) tail end r

  puts_apart : (parts : creations.Parts) (given : List creations.Input) (own : List depots.Step) (end : creations.Ending) → creations.Puts tenant place parts given own end → AreApart own
  puts_apart parts [] own end w = early_apart own end w
  puts_apart parts (creations.last ∷ given) own end (inl w) = manifest_apart parts own end w
  puts_apart parts (creations.last ∷ given) own end (inr w) = early_apart own end w
  puts_apart parts (creations.piece plain ∷ given) own end (inl w) =
      chunk_apart w.1.0 (creations.Puts tenant place (creations.with_piece place w.1.0 plain parts) given) own end
      (λ tail r. puts_apart (creations.with_piece place w.1.0 plain parts) given tail end r) w.1.2
  puts_apart parts (creations.piece plain ∷ given) own end (inr w) = early_apart own end w

creates_apart : (image tenant : List ℕ) (given : List creations.Input) (own : List depots.Step) (end : creations.Ending) → creations.Creates image tenant given own end → AreApart own
creates_apart image tenant given own end w = asks_apart (depots.begins image) (λ reply. creations.after_begin tenant reply given) own end tt by w
  where
    by : (reply : depots.Reply) (tail : List depots.Step) → creations.after_begin tenant reply given tail end → AreApart tail
    by (depots.began session root salt number) tail r = puts_apart tenant (creations.place_of session root salt number) creations.no_parts given tail end r
    by depots.memory tail r = none_apart tail r.0
    by reply tail r = none_apart tail r.0

-- as a job's steps
lifted_apart : (own : List depots.Step) → AreApart own → AllByRecursion (λ (s : Step). IsApart s.call) (map depot_step own)
lifted_apart [] h = tt
lifted_apart (s ∷ own) h = (h.0, lifted_apart own h.1)

of_depot : {E : Type 0} (answer_of : E → Answer) (walk : Walks depots.Step E) (steps : List Step) (answer : Answer) → ((own : List depots.Step) (end : E) → walk own end → AreApart own)
    → ((end : E) → IsAnother (answer_of end)) → OfDepot answer_of walk steps answer → StaysApart steps answer
of_depot answer_of walk steps answer apart ends w =
    let own = w.1.0 in
    (subst (AllByRecursion (λ (s : Step). IsApart s.call)) (sym w.1.1) (lifted_apart own (apart own w.0 w.1.2)), another_by (answer_of w.0) answer (ends w.0) w.2)

removals_apart : (root : ℕ) (steps : List Step) → AllByRecursion (IsRemoval root) steps → AllByRecursion (λ (s : Step). IsApart s.call) steps
removals_apart root [] h = tt
removals_apart root (s ∷ steps) h = (subst (λ (s : Step). IsApart s.call) (sym h.0.1) tt, removals_apart root steps h.1)

stops_apart : (job : CollectJob) (steps : List Step) (answer : Answer) → Stops job steps answer → StaysApart steps answer
stops_apart (collect.Sweep root) steps answer w = (removals_apart root steps w.0, another_by Memory answer tt w.1)
stops_apart job steps answer w = absurd w

-- ---- walks of other jobs

-- one step, and then the end
one_step : (call : Call) (after : Reply → Walks Step Answer) (steps : List Step) (answer : Answer) → IsApart call
    → ((reply : Reply) (tail : List Step) → after reply tail answer → (tail ≡ []) × IsAnother answer) → Asks call after steps answer → StaysApart steps answer
one_step call after steps answer h ends w =
    let e = ends w.0 w.2 w.5 in
    (rw (w.3, e.0, w.4.0) (h, tt), e.1)

ended : (a answer : Answer) (tail : List Step) → IsAnother a → Ends {S = Step} a tail answer → (tail ≡ []) × IsAnother answer
ended a answer tail h e = (e.0, another_by a answer h e.1)

evict_ends : (answer : Answer) (reply : Reply) (tail : List Step) → after_evict reply tail answer → (tail ≡ []) × IsAnother answer
evict_ends answer (by_cache (caches.evicted n)) tail r = ended _ answer tail tt r
evict_ends answer (by_cache caches.memory) tail r = ended _ answer tail tt r
evict_ends answer reply tail r = absurd r

loss_ends : (answer : Answer) (reply : Reply) (tail : List Step) → after_loss reply tail answer → (tail ≡ []) × IsAnother answer
loss_ends answer (by_node (nodes.lost n)) tail r = ended _ answer tail tt r
loss_ends answer (by_node nodes.memory) tail r = ended _ answer tail tt r
loss_ends answer reply tail r = absurd r

damage_ends : (a answer : Answer) → IsAnother a → (reply : Reply) (tail : List Step) → after_damage a reply tail answer → (tail ≡ []) × IsAnother answer
damage_ends a answer h (by_node nodes.dropped) tail r = ended a answer tail h r
damage_ends a answer h (by_node nodes.flipped) tail r = ended a answer tail h r
damage_ends a answer h (by_node nodes.absent) tail r = ended _ answer tail tt r
damage_ends a answer h (by_node nodes.memory) tail r = ended _ answer tail tt r
damage_ends a answer h reply tail r = absurd r

depot_ends : (answer : Answer) (reply : Reply) (tail : List Step) → after_depot reply tail answer → (tail ≡ []) × IsAnother answer
depot_ends answer (by_depot (depots.rotated root)) tail r = ended _ answer tail tt r
depot_ends answer (by_depot depots.roots_end) tail r = ended _ answer tail tt r
depot_ends answer (by_depot depots.closed) tail r = ended _ answer tail tt r
depot_ends answer (by_depot (depots.doubt key)) tail r = ended _ answer tail tt r
depot_ends answer (by_depot (depots.fault key)) tail r = ended _ answer tail tt r
depot_ends answer (by_depot (depots.spoiled key)) tail r = ended _ answer tail tt r
depot_ends answer (by_depot depots.memory) tail r = ended _ answer tail tt r
depot_ends answer reply tail r = absurd r

-- damage to a chunk: past the device's chunks nothing is done
damages : (place : DevicePlace) (i : ℕ) (more : Name → Walks Step Answer) (steps : List Step) (answer : Answer)
    → ((name : Name) → more name steps answer → StaysApart steps answer) → Damages place i more steps answer → StaysApart steps answer
damages place i more steps answer each w = by (slice_get place.names i) refl
  where
    by : (o : Option Name) → slice_get place.names i ≡ o → StaysApart steps answer
    by None e = let r = w.1 e in rw (r.0, r.1) (tt, tt)
    by (Some name) e = each name (w.0 name e)

forged_another : (answer : Answer) (reply : Reply) → IsAnother answer → IsAnother (forged_so_far answer reply)
forged_another answer (by_node nodes.kept) h = h
forged_another answer reply h = tt

forged : (count : ℕ) (name : Name) (stripes : List Stripe) (a : Answer) (steps : List Step) (answer : Answer) → IsAnother a → PutsForged count name stripes a steps answer → StaysApart steps answer
forged count name [] a steps answer h w = rw (w.0, w.1) (tt, h)
forged count name (s ∷ stripes) a steps answer h w =
    let r = forged count name stripes (forged_so_far a w.0) w.2 answer (forged_another a w.0 h) w.5 in
    (rw (w.3, w.4.0) (tt, r.0), r.1)

forges_apart : (count : ℕ) (name : Name) (steps : List Step) (answer : Answer) → Forges count name steps answer → StaysApart steps answer
forges_apart count name steps answer (inl w) = forged count name w.0 Forged steps answer tt w.2
forges_apart count name steps answer (inr w) = rw (w.0, w.1) (tt, tt)

-- ---- each job

none_made : (steps : List Step) (answer : Answer) → Ends {S = Step} Memory steps answer → StaysApart steps answer
none_made steps answer w = rw (w.0, w.1) (tt, tt)

there : {X : Type 0} (xs : List X) (i : ℕ) → i < length xs → (x : X) × (slice_get xs i ≡ Some x)
there [] i h = absurd (omega (arith, h))
there (x ∷ xs) zero h = (x, refl)
there (x ∷ xs) (suc i) h = there xs i (omega (arith, h))

other_seen : (context : Context) (job : Job) (steps : List Step) (answer : Answer) → seen_job job ≡ JobSeen.another → MakesJob context job steps answer → StaysApart steps answer
other_seen context (calls device call) steps answer e w = absurd (cc)
other_seen context (creates image tenant raw) steps answer e w =
    of_depot created (CreatesAll image tenant raw) steps answer (λ own end v. creates_apart image tenant v.0 own end v.2) created_another w
other_seen context (migrates image) steps answer e w = of_depot migrated (migrations.Migrates image) steps answer (migrates_apart image) migrated_another w
other_seen context (collects job) steps answer e (inl w) = of_depot collected (collections.Collects job) steps answer (collects_apart job) collected_another w
other_seen context (collects job) steps answer e (inr w) = stops_apart job steps answer w
other_seen context (closes device) steps answer e w = one_step (on_depot (depots.closes w.0.lease)) after_depot steps answer tt (depot_ends answer) w.2
other_seen context (evicts host) steps answer e w = one_step (on_cache host caches.evicts) after_evict steps answer tt (evict_ends answer) w
other_seen context (drops_stripe index device chunk) steps answer e w =
    damages w.0 chunk (DropsStripe context.nodes index) steps answer (λ name. one_step (on_node (node_at name index context.nodes) (nodes.drops name index)) (after_damage Dropped) steps answer tt (damage_ends Dropped answer tt)) w.2
other_seen context (flips_stripe index device chunk at) steps answer e w =
    damages w.0 chunk (FlipsStripe context.nodes index at) steps answer (λ name. one_step (on_node (node_at name index context.nodes) (nodes.flips name index at)) (after_damage Flipped) steps answer tt (damage_ends Flipped answer tt)) w.2
other_seen context (forges device chunk) steps answer e w = damages w.0 chunk (Forges context.nodes) steps answer (λ name. forges_apart context.nodes name steps answer) w.2
other_seen context (loses node) steps answer e w = one_step (on_node node nodes.loses) after_loss steps answer tt (loss_ends answer) w

other_walk : (context : Context) (job : Job) (steps : List Step) (answer : Answer) → seen_job job ≡ JobSeen.another → WalksJob context job steps answer → StaysApart steps answer
other_walk context job steps answer e (inl w) = other_seen context job steps answer e w
other_walk context job steps answer e (inr w) = none_made steps answer w

pub jobs_seen : JobsAreSeen
jobs_seen context hosts (calls device call) steps answer h (inl w) = w
jobs_seen context hosts (calls device call) steps answer h (inr w) = let at = there context.devices device h.0 in (at.0, at.1, inr w)
jobs_seen context hosts (creates image tenant raw) steps answer h w = other_walk context (creates image tenant raw) steps answer refl w
jobs_seen context hosts (migrates image) steps answer h w = other_walk context (migrates image) steps answer refl w
jobs_seen context hosts (collects job) steps answer h w = other_walk context (collects job) steps answer refl w
jobs_seen context hosts (closes device) steps answer h w = other_walk context (closes device) steps answer refl w
jobs_seen context hosts (evicts host) steps answer h w = other_walk context (evicts host) steps answer refl w
jobs_seen context hosts (drops_stripe index device chunk) steps answer h w = other_walk context (drops_stripe index device chunk) steps answer refl w
jobs_seen context hosts (flips_stripe index device chunk at) steps answer h w = other_walk context (flips_stripe index device chunk at) steps answer refl w
jobs_seen context hosts (forges device chunk) steps answer h w = other_walk context (forges device chunk) steps answer refl w
jobs_seen context hosts (loses node) steps answer h w = other_walk context (loses node) steps answer refl w

-- ---- trails

module _ (context : Context) (hosts : ℕ) (lists : Lists) where
  one_seen : (job : Job) (steps : List Step) (answer : Answer) → MayBeGiven context hosts job → IsWalk context job steps answer → OrCut (WalksSeen context) (seen_job job) steps answer
  one_seen job steps Cut h w = (w.0, w.1, w.2, w.3, w.4, w.5, jobs_seen context hosts job (steps ++ w.2 ∷ w.3) w.4 h w.6)
  one_seen job steps Unbegun h w = w
  one_seen job steps answer h w = jobs_seen context hosts job steps answer h w

  walks_seen : (jobs : List Job) (results : List JobResult) → AllByRecursion (MayBeGiven context hosts) jobs
      → AllZip (λ (job : Job) (r : JobResult). HasWalk context lists job r.path.items r.answer) jobs results
      → AllZip (λ (job : JobSeen) (r : JobResult). (steps : List Step) × Reads lists r.path.items steps × OrCut (WalksSeen context) job steps r.answer) (map seen_job jobs) results
  walks_seen [] [] m h = tt
  walks_seen [] (r ∷ results) m h = absurd h
  walks_seen (job ∷ jobs) [] m h = absurd h
  walks_seen (job ∷ jobs) (r ∷ results) m h = ((h.0.0, h.0.1, one_seen job h.0.0 r.answer m.0 h.0.2), walks_seen jobs results m.1 h.1)

pub trails_seen : TrailsAreSeen
trails_seen context hosts lists jobs results m h =
    record { walks = walks_seen context hosts lists jobs results m h.walks; counted = h.counted; beyond = h.beyond }
