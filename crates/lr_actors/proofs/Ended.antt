-- a job that ended has an answer of its own
use Rattle.std.proofs.Common.{◌≡◌, inl, inr, ℕ, List, [], ◌∷◌, ◌++◌, Option, Some, None, refl, sym, subst}
use Rattle.std.specs.Prelude.{slice_get}
use Rattle.lr_manifest.specs.declared.name.Name.{Name}
use Rattle.lr_stripe.specs.declared.stripe.Stripe.{Stripe}
use Rattle.lr_device.specs.declared.call.DeviceCall.{DeviceCall}
use Rattle.lr_device.specs.declared.call.DeviceReply.{DeviceReply}
use Rattle.lr_device.specs.declared.call.DeviceReply.TheVariants as reply
use Rattle.lr_walk.specs.declared.trail.Answer.{Answer}
use Rattle.lr_walk.specs.declared.trail.Answer.TheVariants.{Dropped, Flipped, Forged, Memory}
use Rattle.lr_walk.specs.Walk.{Walks}
use Rattle.lr_walk.specs.Steps.{Reply, by_device, by_cache, by_node, by_depot, Step}
use Rattle.lr_walk.specs.Load.{Ending, with_chunk, with_reply, with_memory}
use Rattle.lr_walk.specs.Calls.{DevicePlace, answer_of, after_drop, Drops, after_load, LoadsAll, after_plan, CallsDevice}
use Rattle.lr_walk.specs.Damage.{after_evict, after_loss, after_damage, DropsStripe, FlipsStripe, Damages, forged_so_far, PutsForged, Forges}
use Rattle.lr_walk.specs.Jobs.{Context, after_depot}
use Rattle.lr_walk.specs.Depot as depots
use Rattle.lr_walk.specs.Cache as caches
use Rattle.lr_walk.specs.Node as nodes
use Rattle.lr_walk.specs.Device as devices
use Rattle.lr_collector.specs.declared.collect.CollectJob.{CollectJob}
use Rattle.lr_collector.specs.declared.collect.CollectJob.TheVariants as collect
use Rattle.lr_collector.specs.Collection as collections
use Rattle.lr_migrator.specs.Migration as migrations
use Rattle.lr_creator.specs.Creation as creations
use Rattle.lr_actors.specs.Lifted.{answer_to}
use Rattle.lr_actors.specs.Collecting.{collected, Stops}
use Rattle.lr_actors.specs.Migrating.{migrated}
use Rattle.lr_actors.specs.Creating.{created}
use Rattle.lr_actors.specs.Jobs.{Job, calls, creates, migrates, collects, closes, evicts, drops_stripe, flips_stripe, forges, loses, MakesJob, WalksJob}
use Rattle.lr_actors.specs.Accounts.{IsEnd}

is_end : (answer last : Answer) → IsEnd last → answer ≡ last → IsEnd answer
is_end answer last h e = subst IsEnd (sym e) h

reply_end : (r : depots.Reply) → IsEnd (answer_to r)
reply_end (depots.made root) = tt
reply_end (depots.rotated root) = tt
reply_end (depots.moved from to) = tt
reply_end depots.withdrawn = tt
reply_end depots.expired = tt
reply_end depots.deleted = tt
reply_end depots.there = tt
reply_end depots.absent = tt
reply_end depots.closed = tt
reply_end depots.no_image = tt
reply_end depots.no_root = tt
reply_end depots.taken = tt
reply_end depots.full = tt
reply_end depots.roots_end = tt
reply_end (depots.overtaken home) = tt
reply_end depots.not_expired = tt
reply_end depots.not_deleted = tt
reply_end depots.no_doubt = tt
reply_end (depots.serves image) = tt
reply_end (depots.session_on session) = tt
reply_end (depots.doubt key) = tt
reply_end (depots.not_retired_home home) = tt
reply_end depots.not_retired = tt
reply_end (depots.fault key) = tt
reply_end (depots.spoiled key) = tt
reply_end r = tt

collected_end : (end : collections.Ending) → IsEnd (collected end)
collected_end (collections.with_reply r) = reply_end r
collected_end (collections.with_count count) = tt
collected_end collections.with_memory = tt

migrated_end : (end : migrations.Ending) → IsEnd (migrated end)
migrated_end (migrations.with_roots from to) = tt
migrated_end (migrations.with_reply r) = reply_end r
migrated_end migrations.with_memory = tt

created_end : (end : creations.Ending) → IsEnd (created end)
created_end (creations.with_root root) = tt
created_end (creations.with_reply r) = reply_end r
created_end creations.with_memory = tt
created_end creations.with_stop = tt

told_end : (told : DeviceReply) → IsEnd (answer_of told)
told_end reply.Range = tt
told_end told = tt

drop_end : (last : Answer) → IsEnd last → (r : Reply) (tail : List Step) (answer : Answer) → after_drop last r tail answer → IsEnd answer
drop_end last h (by_device devices.dropped) tail answer w = is_end answer last h w.1
drop_end last h r tail answer w = absurd w

drops_end : (device : ℕ) (last : Answer) → IsEnd last → (steps : List Step) (answer : Answer) → Drops device last steps answer → IsEnd answer
drops_end device last h steps answer w = drop_end last h w.0 w.2 answer w.5

load_end : (device : ℕ) (more : List ℕ → Walks Step Answer) (end : Ending) (rest : List Step) (answer : Answer) → ((chunk : List ℕ) (steps : List Step) → more chunk steps answer → IsEnd answer)
    → after_load device more end rest answer → IsEnd answer
load_end device more (with_chunk chunk) rest answer goes w = goes chunk rest w
load_end device more (with_reply (depots.fault key)) rest answer goes w = drops_end device _ tt rest answer w
load_end device more (with_reply (depots.spoiled key)) rest answer goes w = drops_end device _ tt rest answer w
load_end device more with_memory rest answer goes w = drops_end device Memory tt rest answer w
load_end device more end rest answer goes w = absurd w

loads_end : (n device : ℕ) (place : DevicePlace) (call : DeviceCall) (needs : List ℕ) (pieces : List devices.Piece) (steps : List Step) (answer : Answer) → LoadsAll n device place call needs pieces steps answer → IsEnd answer
loads_end n device place call [] pieces steps answer (inl w) = is_end answer (answer_of w.1) (told_end w.1) w.4
loads_end n device place call [] pieces steps answer (inr w) = drops_end device Memory tt steps answer w
loads_end n device place call (i ∷ needs) pieces steps answer (inr w) = drops_end device Memory tt steps answer w
loads_end n device place call (i ∷ needs) pieces steps answer (inl w) =
    load_end device _ w.4.2 w.4.1 answer (λ chunk tail more. loads_end n device place call needs (pieces ++ record { index = i; chunk = chunk; key = w.1 } ∷ []) tail answer more) w.4.5

plan_end : (n device : ℕ) (place : DevicePlace) (call : DeviceCall) (r : Reply) (tail : List Step) (answer : Answer) → after_plan n device place call r tail answer → IsEnd answer
plan_end n device place call (by_device (devices.planned needs pages)) tail answer w = loads_end n device place call needs [] tail answer w
plan_end n device place call (by_device devices.memory) tail answer w = is_end answer Memory tt w.1
plan_end n device place call r tail answer w = absurd w

call_end : (n device : ℕ) (place : DevicePlace) (call : DeviceCall) (steps : List Step) (answer : Answer) → CallsDevice n device place call steps answer → IsEnd answer
call_end n device place call steps answer (inl w) = plan_end n device place call w.0 w.2 answer w.5
call_end n device place call steps answer (inr w) = is_end answer Memory tt w.1

depot_end : (r : Reply) (tail : List Step) (answer : Answer) → after_depot r tail answer → IsEnd answer
depot_end (by_depot (depots.rotated root)) tail answer w = is_end answer _ tt w.1
depot_end (by_depot depots.roots_end) tail answer w = is_end answer _ tt w.1
depot_end (by_depot depots.closed) tail answer w = is_end answer _ tt w.1
depot_end (by_depot (depots.doubt key)) tail answer w = is_end answer _ tt w.1
depot_end (by_depot (depots.fault key)) tail answer w = is_end answer _ tt w.1
depot_end (by_depot (depots.spoiled key)) tail answer w = is_end answer _ tt w.1
depot_end (by_depot depots.memory) tail answer w = is_end answer _ tt w.1
depot_end r tail answer w = absurd w

evict_end : (r : Reply) (tail : List Step) (answer : Answer) → after_evict r tail answer → IsEnd answer
evict_end (by_cache (caches.evicted n)) tail answer w = is_end answer _ tt w.1
evict_end (by_cache caches.memory) tail answer w = is_end answer _ tt w.1
evict_end r tail answer w = absurd w

loss_end : (r : Reply) (tail : List Step) (answer : Answer) → after_loss r tail answer → IsEnd answer
loss_end (by_node (nodes.lost n)) tail answer w = is_end answer _ tt w.1
loss_end (by_node nodes.memory) tail answer w = is_end answer _ tt w.1
loss_end r tail answer w = absurd w

damage_end : (last : Answer) → IsEnd last → (r : Reply) (tail : List Step) (answer : Answer) → after_damage last r tail answer → IsEnd answer
damage_end last h (by_node nodes.dropped) tail answer w = is_end answer last h w.1
damage_end last h (by_node nodes.flipped) tail answer w = is_end answer last h w.1
damage_end last h (by_node nodes.absent) tail answer w = is_end answer _ tt w.1
damage_end last h (by_node nodes.memory) tail answer w = is_end answer _ tt w.1
damage_end last h r tail answer w = absurd w

-- damage ends as its own walk does, or past the chunks
damages_end : (place : DevicePlace) (chunk : ℕ) (more : Name → Walks Step Answer) (steps : List Step) (answer : Answer) → ((name : Name) → more name steps answer → IsEnd answer) → Damages place chunk more steps answer → IsEnd answer
damages_end place chunk more steps answer goes w = by (slice_get place.names chunk) refl
  where
    by : (m : Option Name) → slice_get place.names chunk ≡ m → IsEnd answer
    by (Some name) e = goes name (w.0 name e)
    by None e = is_end answer _ tt (w.1 e).1

forged_end : (last : Answer) (r : Reply) → IsEnd last → IsEnd (forged_so_far last r)
forged_end last (by_node nodes.kept) h = h
forged_end last r h = tt

puts_end : (n : ℕ) (name : Name) (stripes : List Stripe) (last : Answer) (steps : List Step) (answer : Answer) → IsEnd last → PutsForged n name stripes last steps answer → IsEnd answer
puts_end n name [] last steps answer h w = is_end answer last h w.1
puts_end n name (s ∷ stripes) last steps answer h w = puts_end n name stripes (forged_so_far last w.0) w.2 answer (forged_end last w.0 h) w.5

forge_end : (n : ℕ) (name : Name) (steps : List Step) (answer : Answer) → Forges n name steps answer → IsEnd answer
forge_end n name steps answer (inl w) = puts_end n name w.0 Forged steps answer tt w.2
forge_end n name steps answer (inr w) = is_end answer Memory tt w.1

-- a sweep that stopped
stop_end : (job : CollectJob) (steps : List Step) (answer : Answer) → Stops job steps answer → IsEnd answer
stop_end (collect.Sweep root) steps answer w = is_end answer Memory tt w.1
stop_end job steps answer w = absurd w

made_end : (context : Context) (job : Job) (steps : List Step) (answer : Answer) → MakesJob context job steps answer → IsEnd answer
made_end context (calls device call) steps answer w = call_end context.nodes device w.0 call steps answer w.2
made_end context (creates image tenant raw) steps answer w = is_end answer (created w.0) (created_end w.0) w.2
made_end context (migrates image) steps answer w = is_end answer (migrated w.0) (migrated_end w.0) w.2
made_end context (collects job) steps answer (inl w) = is_end answer (collected w.0) (collected_end w.0) w.2
made_end context (collects job) steps answer (inr w) = stop_end job steps answer w
made_end context (closes device) steps answer w = depot_end w.2.0 w.2.2 answer w.2.5
made_end context (evicts host) steps answer w = evict_end w.0 w.2 answer w.5
made_end context (drops_stripe index device chunk) steps answer w = damages_end w.0 chunk (DropsStripe context.nodes index) steps answer (λ name v. damage_end Dropped tt v.0 v.2 answer v.5) w.2
made_end context (flips_stripe index device chunk at) steps answer w = damages_end w.0 chunk (FlipsStripe context.nodes index at) steps answer (λ name v. damage_end Flipped tt v.0 v.2 answer v.5) w.2
made_end context (forges device chunk) steps answer w = damages_end w.0 chunk (Forges context.nodes) steps answer (λ name v. forge_end context.nodes name steps answer v) w.2
made_end context (loses node) steps answer w = loss_end w.0 w.2 answer w.5

pub job_ends : (context : Context) (job : Job) (steps : List Step) (answer : Answer) → WalksJob context job steps answer → IsEnd answer
job_ends context job steps answer (inl w) = made_end context job steps answer w
job_ends context job steps answer (inr w) = is_end answer Memory tt w.1
