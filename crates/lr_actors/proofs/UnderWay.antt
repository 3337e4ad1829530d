-- a job under way: its call stands within the context, and a reply may always come
use Rattle.std.proofs.Common.{◌≡◌, ◌<◌, ◌≤◌, ℕ, zero, suc, List, [], ◌∷◌, ◌++◌, length, inr, Some, refl, sym, ap, subst, ◌∙◌, arith}
use Rattle.std.specs.Prelude.{slice_get}
use Rattle.std.specs.List.{AllByRecursion}
use Rattle.std.proofs.lemmas.List.{append_assoc}
use Rattle.lr_object.specs.declared.id.ObjectId.TheVariants.{Device, Cache, Node, Depot}
use Rattle.lr_manifest.specs.declared.name.Name.{Name}
use Rattle.lr_device.specs.declared.call.DeviceReply.TheVariants as told
use Rattle.lr_device.specs.declared.step.DeviceStep.TheVariants as asks
use Rattle.lr_walk.specs.declared.place.LoadPlace.{LoadPlace}
use Rattle.lr_walk.specs.declared.trail.Answer.TheVariants.{Memory, Cut}
use Rattle.lr_walk.specs.declared.trail.Did.{Did}
use Rattle.lr_walk.specs.Stands.{IsFront}
use Rattle.lr_walk.specs.Steps.{on_depot, Reply, by_device, by_cache, by_node, by_depot, Step, object_of}
use Rattle.lr_walk.specs.Stripes.{node_at}
use Rattle.lr_walk.specs.Calls.{DevicePlace}
use Rattle.lr_walk.specs.Jobs.{Context}
use Rattle.lr_walk.specs.Trails.{Lists, Reads}
use Rattle.lr_walk.specs.Depot as depots
use Rattle.lr_walk.specs.Cache as caches
use Rattle.lr_walk.specs.Node as nodes
use Rattle.lr_walk.specs.Device as devices
use Rattle.lr_loader.specs.Progress as loads
use Rattle.lr_origin.specs.declared.key.KeyKind.{KeyKind}
use Rattle.lr_collector.specs.declared.collect.CollectJob.{CollectJob}
use Rattle.lr_collector.specs.declared.collect.CollectJob.TheVariants as collect
use Rattle.lr_collector.specs.Progress as collections
use Rattle.lr_migrator.specs.Progress as migrations
use Rattle.lr_creator.specs.Progress as creations
use Rattle.lr_actors.specs.declared.action.ActorCall.{ActorCall}
use Rattle.lr_actors.specs.declared.action.ActorCall.TheVariants as call
use Rattle.lr_actors.specs.declared.single.Single.{Single}
use Rattle.lr_actors.specs.declared.single.Single.TheVariants as one
use Rattle.lr_actors.specs.declared.running.Running.{Running}
use Rattle.lr_actors.specs.declared.running.Running.TheVariants.{Serves, Makes, Forges, Collects, Migrates, Creates}
use Rattle.lr_actors.specs.Asked.{Asked, a_call, a_commit, an_end, no_call, HandsCall, MayCall, Adds}
use Rattle.lr_actors.specs.Serving as serving
use Rattle.lr_actors.specs.Singles as singles
use Rattle.lr_actors.specs.Forging as forging
use Rattle.lr_actors.specs.Collecting as collecting
use Rattle.lr_actors.specs.Migrating as migrating
use Rattle.lr_actors.specs.Creating as creating
use Rattle.lr_actors.specs.Bounds.{collects_left}
use Rattle.lr_actors.specs.Running.{Task, serves, makes, forges, collects, Walk, task_of, asked, Admits, StandsFor, IsAtHome, steps_left, IsOut}
use Rattle.lr_actors.specs.Jobs.{Job, WalksJob}
use Rattle.lr_actors.specs.Jobs as jobs
use Rattle.lr_actors.specs.Begun.{IsContext, IsTask, IsTaskOf}
use Rattle.lr_actors.specs.Records.{HasWalk}
use Rattle.lr_actors.specs.Accounts.{StandsAt}
use Rattle.lr_actors.specs.Actor.{AreHosted, IsWithin, MayBeGiven, object_called, IsCall, IsUnderWay, ClosesFor}
use Rattle.lr_actors.specs.Body.{object_asked, IsGoing, IsHeld, IsSweep}
use Rattle.lr_actors.proofs.Stopped.{may_stop}
use Rattle.lr_actors.proofs.Accounted.{some_same}

-- ---- a reply that adds a step

abbrev pub SomeReply : Running → Type 0
SomeReply r = (reply : Reply) × (x : Step) × Admits r reply × Adds (asked r) reply (x ∷ [])

load_reply : (device : ℕ) (w : serving.Work) (chunk : serving.Chunk) (need : loads.Need) (left : serving.Left) (ready : _) → IsCall (serving.asked w (serving.loading chunk need left))
    → SomeReply (Serves device (record { work = w; need = serving.loading chunk need left; ready = ready }))
load_reply device w chunk loads.looking left ready h = (by_cache caches.memory, _, (record { answers = tt; claim = tt; named = tt }, tt), refl)
load_reply device w chunk (loads.asking n held) left ready h = (by_node nodes.memory, _, (record { answers = tt; claim = tt; named = tt }, tt), refl)
load_reply device w chunk loads.fetching left ready h = (by_depot depots.memory, _, (record { answers = tt; claim = tt; named = tt }, tt), refl)
load_reply device w chunk (loads.putting c s more) left ready h = (by_node nodes.memory, _, (record { answers = tt; claim = tt; named = tt }, tt), refl)
load_reply device w chunk (loads.filling c) left ready h = (by_cache caches.memory, _, (record { answers = tt; claim = tt; named = tt }, tt), refl)
load_reply device w chunk (loads.giving end) left ready h = (by_cache caches.given, _, (record { answers = tt; claim = tt; named = tt }, tt), refl)
load_reply device w chunk (loads.ended end) left ready h = absurd h

serving_reply : (device : ℕ) (w : serving.Work) (need : serving.Need) (ready : _) → IsCall (serving.asked w need) → SomeReply (Serves device (record { work = w; need = need; ready = ready }))
serving_reply device w serving.planning ready h = (by_device devices.memory, _, tt, refl)
serving_reply device w (serving.loading chunk need left) ready h = load_reply device w chunk need left ready h
serving_reply device w (serving.committing pages pieces) ready h = (by_device (devices.committed told.Done), _, tt, ([], tt, refl))
serving_reply device w (serving.dropping answer) ready h = (by_device devices.dropped, _, tt, refl)
serving_reply device w (serving.ended answer) ready h = absurd h

single_reply : (single : Single) (need : singles.Need) (ready : _) → IsCall (singles.asked single need) → SomeReply (Makes (record { single = single; need = need; ready = ready }))
single_reply (one.Evict host) singles.asking ready h = (by_cache caches.memory, _, tt, refl)
single_reply (one.Drop node name index) singles.asking ready h = (by_node nodes.memory, _, tt, refl)
single_reply (one.Flip node name index at) singles.asking ready h = (by_node nodes.memory, _, tt, refl)
single_reply (one.Lose node) singles.asking ready h = (by_node nodes.memory, _, tt, refl)
single_reply (one.Close lease) singles.asking ready h = (by_depot depots.memory, _, tt, refl)
single_reply single (singles.ended answer) ready h = absurd h

forge_reply : (t : forging.Target) (need : forging.Need) (ready : _) → IsCall (forging.asked t need) → SomeReply (Forges (record { target = t; need = need; ready = ready }))
forge_reply t (forging.putting stripe more answer) ready h = (by_node nodes.memory, _, tt, refl)
forge_reply t (forging.ended answer) ready h = absurd h

collect_reply : (j : CollectJob) (need : collections.Need) (ready : _) → IsCall (collecting.asked_by (collections.asked j need)) → SomeReply (Collects (record { job = j; need = need; ready = ready }))
collect_reply (collect.Withdraw image) (collections.asking count) ready h = (by_depot depots.memory, _, tt, refl)
collect_reply (collect.Rotate salt) (collections.asking count) ready h = (by_depot depots.memory, _, tt, refl)
collect_reply (collect.Expire root) (collections.asking count) ready h = (by_depot depots.memory, _, tt, refl)
collect_reply (collect.Delete root) (collections.asking count) ready h = (by_depot depots.memory, _, tt, refl)
collect_reply (collect.Sweep root) (collections.asking count) ready h = (by_depot depots.memory, _, tt, refl)
collect_reply (collect.Settle key) (collections.asking count) ready h = (by_depot depots.memory, _, tt, refl)
collect_reply j (collections.ended end) ready h = absurd h

migrate_reply : (image : List ℕ) (need : migrations.Need) (ready : _) → IsCall (migrating.asked_by (migrations.asked image need)) → SomeReply (Migrates (record { image = image; need = need; ready = ready }))
migrate_reply image migrations.beginning ready h = (by_depot depots.memory, _, tt, refl)
migrate_reply image (migrations.copying session index left) ready h = (by_depot depots.memory, _, tt, refl)
migrate_reply image (migrations.putting session index left name) ready h = (by_depot depots.memory, _, tt, refl)
migrate_reply image (migrations.finishing session) ready h = (by_depot depots.memory, _, tt, refl)
migrate_reply image (migrations.leaving session end) ready h = (by_depot depots.memory, _, tt, refl)
migrate_reply image (migrations.ended end) ready h = absurd h

create_reply : (image tenant : List ℕ) (need : creations.Need) (ready : _) (raw : List ℕ) (given : ℕ) → IsCall (creating.asked_by (creations.asked need))
    → SomeReply (Creates (record { create = record { image = image; tenant = tenant; need = need; ready = ready }; raw = raw; given = given }))
create_reply image tenant (creations.beginning i) ready raw given h = (by_depot depots.memory, _, tt, refl)
create_reply image tenant (creations.wanting place parts) ready raw given h = absurd h
create_reply image tenant (creations.putting place parts name) ready raw given h = (by_depot depots.memory, _, tt, refl)
create_reply image tenant (creations.finishing place fields) ready raw given h = (by_depot depots.memory, _, tt, refl)
create_reply image tenant (creations.leaving session end) ready raw given h = (by_depot depots.memory, _, tt, refl)
create_reply image tenant (creations.ended end) ready raw given h = absurd h

pub some_reply : (r : Running) → IsCall (asked r) → SomeReply r
some_reply (Serves device p) h = serving_reply device p.work p.need p.ready h
some_reply (Makes p) h = single_reply p.single p.need p.ready h
some_reply (Forges p) h = forge_reply p.target p.need p.ready h
some_reply (Collects p) h = collect_reply p.job p.need p.ready h
some_reply (Migrates p) h = migrate_reply p.image p.need p.ready h
some_reply (Creates p) h = create_reply p.create.image p.create.tenant p.create.need p.create.ready p.raw p.given h

-- ---- what a cut job made

walked : (context : Context) (lists : Lists) (job : Job) (d : Did) (rest : List Did) (r : Running) (under : IsUnderWay context job r) (steps : List Step) → Reads lists (d ∷ rest) steps → StandsFor r steps
    → HasWalk context lists job (d ∷ rest) Cut
walked context lists job d rest r under [] reads stands = absurd reads
walked context lists job d rest r under (first ∷ more) reads stands =
    let some = some_reply r under.calls in
    let front = under.front (first ∷ more) (some.1 ∷ []) some.0 some.2 some.3 stands in
    let walk = under.task (((first ∷ more) ++ some.1 ∷ []) ++ front.0) front.1 front.2 in
    (first ∷ more, reads, (first, more, some.1, front.0, front.1, refl, subst (λ (l : List Step). WalksJob context job l front.1) (append_assoc (first ∷ more) (some.1 ∷ []) front.0) walk))

pub cut_walk : (context : Context) (lists : Lists) (job : Job) (d : Did) (rest : List Did) (r : Running) → IsUnderWay context job r → StandsAt lists (d ∷ rest) r → HasWalk context lists job (d ∷ rest) Cut
cut_walk context lists job d rest r under at = walked context lists job d rest r under at.0 at.1 at.2

-- ---- a sweep

load_removal : (w : serving.Work) (chunk : serving.Chunk) (need : loads.Need) (left : serving.Left) (key : KeyKind) → serving.Admits w (serving.loading chunk need left) (by_depot (depots.removed key)) → ⊥
load_removal w chunk loads.looking left key a = a.0.answers
load_removal w chunk (loads.asking n held) left key a = a.0.answers
load_removal w chunk loads.fetching left key a = a.0.answers
load_removal w chunk (loads.putting c s more) left key a = a.0.answers
load_removal w chunk (loads.filling c) left key a = a.0.answers
load_removal w chunk (loads.giving end) left key a = a.0.answers
load_removal w chunk (loads.ended end) left key a = a.0.answers

serving_removal : (w : serving.Work) (need : serving.Need) (key : KeyKind) → serving.Admits w need (by_depot (depots.removed key)) → ⊥
serving_removal w serving.planning key a = a
serving_removal w (serving.loading chunk need left) key a = load_removal w chunk need left key a
serving_removal w (serving.committing pages pieces) key a = a
serving_removal w (serving.dropping answer) key a = a
serving_removal w (serving.ended answer) key a = a

single_removal : (single : Single) (need : singles.Need) (key : KeyKind) → singles.Admits single need (by_depot (depots.removed key)) → ⊥
single_removal (one.Evict host) singles.asking key a = a
single_removal (one.Drop node name index) singles.asking key a = a
single_removal (one.Flip node name index at) singles.asking key a = a
single_removal (one.Lose node) singles.asking key a = a
single_removal (one.Close lease) singles.asking key a = a
single_removal single (singles.ended answer) key a = a

forge_removal : (need : forging.Need) (key : KeyKind) → forging.Admits need (by_depot (depots.removed key)) → ⊥
forge_removal (forging.putting stripe more answer) key a = a
forge_removal (forging.ended answer) key a = a

collect_removal : (j : CollectJob) (need : collections.Need) (key : KeyKind) → collections.AnswersAsked (collections.asked j need) (depots.removed key) → IsSweep (collects j)
collect_removal (collect.Sweep root) need key a = tt
collect_removal (collect.Withdraw image) (collections.asking count) key a = a
collect_removal (collect.Rotate salt) (collections.asking count) key a = a
collect_removal (collect.Expire root) (collections.asking count) key a = a
collect_removal (collect.Delete root) (collections.asking count) key a = a
collect_removal (collect.Settle key2) (collections.asking count) key a = a
collect_removal j (collections.ended end) key a = absurd a

migrate_removal : (image : List ℕ) (need : migrations.Need) (key : KeyKind) → migrations.AnswersAsked (migrations.asked image need) (depots.removed key) → ⊥
migrate_removal image migrations.beginning key a = a
migrate_removal image (migrations.copying session index left) key a = a
migrate_removal image (migrations.putting session index left name) key a = a
migrate_removal image (migrations.finishing session) key a = a
migrate_removal image (migrations.leaving session end) key a = a
migrate_removal image (migrations.ended end) key a = a

create_removal : (need : creations.Need) (key : KeyKind) → creations.AnswersAsked (creations.asked need) (depots.removed key) → ⊥
create_removal (creations.beginning i) key a = a
create_removal (creations.wanting place parts) key a = a
create_removal (creations.putting place parts name) key a = a
create_removal (creations.finishing place fields) key a = a
create_removal (creations.leaving session end) key a = a
create_removal (creations.ended end) key a = a

-- a key is removed by a sweep alone
pub removal_sweeps : (r : Running) (key : KeyKind) → Admits r (by_depot (depots.removed key)) → IsSweep (task_of r)
removal_sweeps (Serves device p) key a = absurd (serving_removal p.work p.need key a)
removal_sweeps (Makes p) key a = absurd (single_removal p.single p.need key a)
removal_sweeps (Forges p) key a = absurd (forge_removal p.need key a)
removal_sweeps (Collects p) key a = collect_removal p.job p.need key a
removal_sweeps (Migrates p) key a = absurd (migrate_removal p.image p.need key a)
removal_sweeps (Creates p) key a = absurd (create_removal p.create.need key a)

collect_last : (need : collections.Need) → collects_left need ≤ 1
collect_last (collections.asking count) = omega arith
collect_last (collections.ended end) = omega arith

-- at most its next call is known to come
pub sweep_last : (r : Running) → IsSweep (task_of r) → steps_left r ≤ 1
sweep_last (Serves device p) h = absurd h
sweep_last (Makes p) h = absurd h
sweep_last (Forges p) h = absurd h
sweep_last (Collects p) h = collect_last p.need
sweep_last (Migrates p) h = absurd h
sweep_last (Creates p) h = absurd h

sweep_at : (p : collections.Progress) (j : CollectJob) (need : collections.Need) → p.job ≡ j → p.need ≡ need → IsSweep (collects j) → IsCall (collecting.asked_by (collections.asked j need)) → (steps : List Step) → collecting.StandsFor p steps
    → collecting.Stops p.job steps Memory
sweep_at p (collect.Sweep root) (collections.asking count) ej en h c steps l = may_stop p steps root count l en ej
sweep_at p j (collections.ended end) ej en h c steps l = absurd c
sweep_at p (collect.Withdraw image) (collections.asking count) ej en h c steps l = absurd h
sweep_at p (collect.Rotate salt) (collections.asking count) ej en h c steps l = absurd h
sweep_at p (collect.Expire root) (collections.asking count) ej en h c steps l = absurd h
sweep_at p (collect.Delete root) (collections.asking count) ej en h c steps l = absurd h
sweep_at p (collect.Settle key) (collections.asking count) ej en h c steps l = absurd h

-- it may end there for want of memory
pub sweep_stops : (r : Running) → IsSweep (task_of r) → IsCall (asked r) → (steps : List Step) → StandsFor r steps → Walk (task_of r) steps Memory
sweep_stops (Serves device p) h c steps l = absurd h
sweep_stops (Makes p) h c steps l = absurd h
sweep_stops (Forges p) h c steps l = absurd h
sweep_stops (Collects p) h c steps l = inr (sweep_at p p.job p.need refl refl h c steps l)
sweep_stops (Migrates p) h c steps l = absurd h
sweep_stops (Creates p) h c steps l = absurd h

-- ---- the call handed out

pub object_handed : (c : ActorCall) (a : Asked) → HandsCall c a → object_called c ≡ object_asked a
object_handed (call.Device n (asks.Plan q)) a h = subst (λ (x : Asked). Device n ≡ object_asked x) h refl
object_handed (call.Device n (asks.Commit pieces room)) (a_commit device planned pages handed) h = ap Device h.0
object_handed (call.Device n (asks.Commit pieces room)) (a_call q) h = absurd h
object_handed (call.Device n (asks.Commit pieces room)) (an_end answer) h = absurd h
object_handed (call.Device n (asks.Commit pieces room)) no_call h = absurd h
object_handed (call.Device n asks.Drop) a h = subst (λ (x : Asked). Device n ≡ object_asked x) h refl
object_handed (call.Device n asks.Reap) a h = subst (λ (x : Asked). Device n ≡ object_asked x) h refl
object_handed (call.Cache n c) a h = subst (λ (x : Asked). Cache n ≡ object_asked x) h refl
object_handed (call.Node n c) a h = subst (λ (x : Asked). Node n ≡ object_asked x) h refl
object_handed (call.Depot c) a h = subst (λ (x : Asked). Depot ≡ object_asked x) h refl

pub is_call : (c : ActorCall) (a : Asked) → HandsCall c a → IsCall a
is_call (call.Device n (asks.Plan q)) a h = subst IsCall h tt
is_call (call.Device n (asks.Commit pieces room)) (a_commit device planned pages handed) h = tt
is_call (call.Device n (asks.Commit pieces room)) (a_call q) h = absurd h
is_call (call.Device n (asks.Commit pieces room)) (an_end answer) h = absurd h
is_call (call.Device n (asks.Commit pieces room)) no_call h = absurd h
is_call (call.Device n asks.Drop) a h = subst IsCall h tt
is_call (call.Device n asks.Reap) a h = subst IsCall h tt
is_call (call.Cache n c) a h = subst IsCall h tt
is_call (call.Node n c) a h = subst IsCall h tt
is_call (call.Depot c) a h = subst IsCall h tt

-- ---- within the context

pub slice_get_lt : {X : Type 0} (xs : List X) (i : ℕ) (x : X) → slice_get xs i ≡ Some x → i < length xs
slice_get_lt [] i x e = cc
slice_get_lt (y ∷ xs) zero x e = omega arith
slice_get_lt (y ∷ xs) (suc i) x e = omega (arith, slice_get_lt xs i x e)

pub all_at : {X : Type 0} (P : X → Type 0) (xs : List X) (i : ℕ) (x : X) → AllByRecursion P xs → slice_get xs i ≡ Some x → P x
all_at P [] i x a e = cc
all_at P (y ∷ xs) zero x a e = subst P (sym (some_same x y e)) a.0
all_at P (y ∷ xs) (suc i) x a e = all_at P xs i x a.1 e

node_within : (name : Name) (index n nodes : ℕ) → 5 ≤ nodes → n ≡ nodes → node_at name index n < nodes
node_within name index n nodes h e = rw e (omega arith)

-- a device call is of a device of the context
record IsWorkAt (context : Context) (w : serving.Work) : Type 0 where
  place : DevicePlace
  at : slice_get context.devices w.device ≡ Some place
  is : w.place ≡ place
  nodes : w.nodes ≡ context.nodes

work_at : (context : Context) (job : Job) (w : serving.Work) → IsTaskOf context job (serves w) → IsWorkAt context w
work_at context (jobs.calls device call) w t =
    let e : w ≡ record { nodes = context.nodes; device = device; place = t.0; call = call } = cc (t.2) in
    record { place = t.0; at = rw e t.1; is = ap (λ (x : serving.Work). x.place) e; nodes = ap (λ (x : serving.Work). x.nodes) e }
work_at context (jobs.creates image tenant raw) w t = absurd (cc (t))
work_at context (jobs.migrates image) w t = absurd (cc (t))
work_at context (jobs.collects job) w t = absurd (cc (t))
work_at context (jobs.closes device) w t = absurd (cc (t.2))
work_at context (jobs.evicts host) w t = absurd (cc (t))
work_at context (jobs.drops_stripe index device chunk) w t = absurd (cc (t.2.2))
work_at context (jobs.flips_stripe index device chunk at) w t = absurd (cc (t.2.2))
work_at context (jobs.forges device chunk) w t = absurd (cc (t.2.2))
work_at context (jobs.loses node) w t = absurd (cc (t))

load_within : (context : Context) (hosts : ℕ) (w : serving.Work) (place : LoadPlace) (need : loads.Need) → 5 ≤ context.nodes → place.host < hosts → place.nodes ≡ context.nodes
    → IsWithin context hosts (object_asked (serving.asked_by (loads.asked place need)))
load_within context hosts w place loads.looking five h n = h
load_within context hosts w place (loads.asking left held) five h n = node_within place.name _ place.nodes context.nodes five n
load_within context hosts w place loads.fetching five h n = tt
load_within context hosts w place (loads.putting chunk stripe more) five h n = node_within place.name _ place.nodes context.nodes five n
load_within context hosts w place (loads.filling chunk) five h n = h
load_within context hosts w place (loads.giving end) five h n = h
load_within context hosts w place (loads.ended end) five h n = tt

serving_within : (context : Context) (hosts : ℕ) (w : serving.Work) (need : serving.Need) → 5 ≤ context.nodes → AreHosted context hosts → IsWorkAt context w → serving.IsAtPlace w need
    → IsWithin context hosts (object_asked (serving.asked w need))
serving_within context hosts w serving.planning five hosted at home = slice_get_lt context.devices w.device at.place at.at
serving_within context hosts w (serving.loading chunk need left) five hosted at home =
    let host : chunk.place.host ≡ at.place.host = ap (λ (x : LoadPlace). x.host) home.is ∙ ap (λ (x : DevicePlace). x.host) at.is in
    let count : chunk.place.nodes ≡ context.nodes = ap (λ (x : LoadPlace). x.nodes) home.is ∙ at.nodes in
    load_within context hosts w chunk.place need five (rw host (all_at (λ (p : DevicePlace). p.host < hosts) context.devices w.device at.place hosted at.at)) count
serving_within context hosts w (serving.committing pages pieces) five hosted at home = slice_get_lt context.devices w.device at.place at.at
serving_within context hosts w (serving.dropping answer) five hosted at home = slice_get_lt context.devices w.device at.place at.at
serving_within context hosts w (serving.ended answer) five hosted at home = tt

abbrev IsSingleIn : Context → ℕ → Single → Type 0
IsSingleIn context hosts single = IsWithin context hosts (object_of (singles.call_of single))

single_in : (context : Context) (hosts : ℕ) (job : Job) (single : Single) → 5 ≤ context.nodes → MayBeGiven context hosts job → IsTaskOf context job (makes single) → IsSingleIn context hosts single
single_in context hosts (jobs.calls device call) single five m t = absurd (cc (t.2))
single_in context hosts (jobs.creates image tenant raw) single five m t = absurd (cc (t))
single_in context hosts (jobs.migrates image) single five m t = absurd (cc (t))
single_in context hosts (jobs.collects job) single five m t = absurd (cc (t))
single_in context hosts (jobs.closes device) single five m t =
    let e : single ≡ one.Close t.0.lease = cc (t.2) in subst (IsSingleIn context hosts) (sym e) tt
single_in context hosts (jobs.evicts host) single five m t =
    let e : single ≡ one.Evict host = cc (t) in subst (IsSingleIn context hosts) (sym e) m
single_in context hosts (jobs.drops_stripe index device chunk) single five m t =
    let e : single ≡ one.Drop (node_at t.2.0 index context.nodes) t.2.0 index = cc (t.2.2) in
    subst (IsSingleIn context hosts) (sym e) (node_within t.2.0 index context.nodes context.nodes five refl)
single_in context hosts (jobs.flips_stripe index device chunk at) single five m t =
    let e : single ≡ one.Flip (node_at t.2.0 index context.nodes) t.2.0 index at = cc (t.2.2) in
    subst (IsSingleIn context hosts) (sym e) (node_within t.2.0 index context.nodes context.nodes five refl)
single_in context hosts (jobs.forges device chunk) single five m t = absurd (cc (t.2.2))
single_in context hosts (jobs.loses node) single five m t =
    let e : single ≡ one.Lose node = cc (t) in subst (IsSingleIn context hosts) (sym e) m

single_within : (context : Context) (hosts : ℕ) (single : Single) (need : singles.Need) → IsSingleIn context hosts single → IsWithin context hosts (object_asked (singles.asked single need))
single_within context hosts single singles.asking h = h
single_within context hosts single (singles.ended answer) h = tt

target_nodes : (context : Context) (job : Job) (t : forging.Target) → IsTaskOf context job (forges t) → t.nodes ≡ context.nodes
target_nodes context (jobs.calls device call) t h = absurd (cc (h.2))
target_nodes context (jobs.creates image tenant raw) t h = absurd (cc (h))
target_nodes context (jobs.migrates image) t h = absurd (cc (h))
target_nodes context (jobs.collects job) t h = absurd (cc (h))
target_nodes context (jobs.closes device) t h = absurd (cc (h.2))
target_nodes context (jobs.evicts host) t h = absurd (cc (h))
target_nodes context (jobs.drops_stripe index device chunk) t h = absurd (cc (h.2.2))
target_nodes context (jobs.flips_stripe index device chunk at) t h = absurd (cc (h.2.2))
target_nodes context (jobs.forges device chunk) t h =
    let e : t ≡ record { nodes = context.nodes; name = h.2.0 } = cc (h.2.2) in ap (λ (x : forging.Target). x.nodes) e
target_nodes context (jobs.loses node) t h = absurd (cc (h))

forge_within : (context : Context) (hosts : ℕ) (t : forging.Target) (need : forging.Need) → 5 ≤ context.nodes → t.nodes ≡ context.nodes → IsWithin context hosts (object_asked (forging.asked t need))
forge_within context hosts t (forging.putting stripe more answer) five e = node_within t.name stripe.index t.nodes context.nodes five e
forge_within context hosts t (forging.ended answer) five e = tt

collect_within : (context : Context) (hosts : ℕ) (a : collections.Asked) → IsWithin context hosts (object_asked (collecting.asked_by a))
collect_within context hosts (collections.a_call c) = tt
collect_within context hosts (collections.an_end end) = tt

migrate_within : (context : Context) (hosts : ℕ) (a : migrations.Asked) → IsWithin context hosts (object_asked (migrating.asked_by a))
migrate_within context hosts (migrations.a_call c) = tt
migrate_within context hosts (migrations.an_end end) = tt

create_within : (context : Context) (hosts : ℕ) (a : creations.Asked) → IsWithin context hosts (object_asked (creating.asked_by a))
create_within context hosts (creations.a_call c) = tt
create_within context hosts (creations.an_end end) = tt
create_within context hosts creations.no_call = tt

pub asked_within : (context : Context) (hosts : ℕ) (job : Job) (r : Running) → IsContext context → AreHosted context hosts → MayBeGiven context hosts job → IsTaskOf context job (task_of r) → IsAtHome context r
    → IsWithin context hosts (object_asked (asked r))
asked_within context hosts job (Serves device p) is hosted m t home = serving_within context hosts p.work p.need is.nodes hosted (work_at context job p.work t) home.1
asked_within context hosts job (Makes p) is hosted m t home = single_within context hosts p.single p.need (single_in context hosts job p.single is.nodes m t)
asked_within context hosts job (Forges p) is hosted m t home = forge_within context hosts p.target p.need is.nodes (target_nodes context job p.target t)
asked_within context hosts job (Collects p) is hosted m t home = collect_within context hosts (collections.asked p.job p.need)
asked_within context hosts job (Migrates p) is hosted m t home = migrate_within context hosts (migrations.asked p.image p.need)
asked_within context hosts job (Creates p) is hosted m t home = create_within context hosts (creations.asked p.create.need)

-- ---- a close is of a close job

load_close : (place : LoadPlace) (need : loads.Need) (lease : ℕ) → a_call (on_depot (depots.closes lease)) ≡ serving.asked_by (loads.asked place need) → ⊥
load_close place loads.looking lease e = cc
load_close place (loads.asking left held) lease e = cc
load_close place loads.fetching lease e = cc
load_close place (loads.putting chunk stripe more) lease e = cc
load_close place (loads.filling chunk) lease e = cc
load_close place (loads.giving end) lease e = cc
load_close place (loads.ended end) lease e = cc

serving_close : (w : serving.Work) (need : serving.Need) (lease : ℕ) → a_call (on_depot (depots.closes lease)) ≡ serving.asked w need → ⊥
serving_close w serving.planning lease e = cc
serving_close w (serving.loading chunk need left) lease e = load_close chunk.place need lease e
serving_close w (serving.committing pages pieces) lease e = cc
serving_close w (serving.dropping answer) lease e = cc
serving_close w (serving.ended answer) lease e = cc

forge_close : (t : forging.Target) (need : forging.Need) (lease : ℕ) → a_call (on_depot (depots.closes lease)) ≡ forging.asked t need → ⊥
forge_close t (forging.putting stripe more answer) lease e = cc
forge_close t (forging.ended answer) lease e = cc

collect_close : (j : CollectJob) (need : collections.Need) (lease : ℕ) → a_call (on_depot (depots.closes lease)) ≡ collecting.asked_by (collections.asked j need) → ⊥
collect_close (collect.Withdraw image) (collections.asking count) lease e = cc
collect_close (collect.Rotate salt) (collections.asking count) lease e = cc
collect_close (collect.Expire root) (collections.asking count) lease e = cc
collect_close (collect.Delete root) (collections.asking count) lease e = cc
collect_close (collect.Sweep root) (collections.asking count) lease e = cc
collect_close (collect.Settle key) (collections.asking count) lease e = cc
collect_close j (collections.ended end) lease e = cc

migrate_close : (image : List ℕ) (need : migrations.Need) (lease : ℕ) → a_call (on_depot (depots.closes lease)) ≡ migrating.asked_by (migrations.asked image need) → ⊥
migrate_close image migrations.beginning lease e = cc
migrate_close image (migrations.copying session index left) lease e = cc
migrate_close image (migrations.putting session index left name) lease e = cc
migrate_close image (migrations.finishing session) lease e = cc
migrate_close image (migrations.leaving session end) lease e = cc
migrate_close image (migrations.ended end) lease e = cc

create_close : (need : creations.Need) (lease : ℕ) → a_call (on_depot (depots.closes lease)) ≡ creating.asked_by (creations.asked need) → ⊥
create_close (creations.beginning i) lease e = cc
create_close (creations.wanting place parts) lease e = cc
create_close (creations.putting place parts name) lease e = cc
create_close (creations.finishing place fields) lease e = cc
create_close (creations.leaving session end) lease e = cc
create_close (creations.ended end) lease e = cc

single_close : (single : Single) (need : singles.Need) (lease : ℕ) → a_call (on_depot (depots.closes lease)) ≡ singles.asked single need → single ≡ one.Close lease
single_close (one.Evict host) singles.asking lease e = absurd (cc)
single_close (one.Drop node name index) singles.asking lease e = absurd (cc)
single_close (one.Flip node name index at) singles.asking lease e = absurd (cc)
single_close (one.Lose node) singles.asking lease e = absurd (cc)
single_close (one.Close l) singles.asking lease e = cc
single_close single (singles.ended answer) lease e = absurd (cc)

close_job : (context : Context) (job : Job) (lease : ℕ) → IsTaskOf context job (makes (one.Close lease)) → ClosesFor context job lease
close_job context (jobs.calls device call) lease t = cc (t.2)
close_job context (jobs.creates image tenant raw) lease t = cc (t)
close_job context (jobs.migrates image) lease t = cc (t)
close_job context (jobs.collects job) lease t = cc (t)
close_job context (jobs.closes device) lease t = (t.0, t.1, cc (t.2))
close_job context (jobs.evicts host) lease t = cc (t)
close_job context (jobs.drops_stripe index device chunk) lease t = cc (t.2.2)
close_job context (jobs.flips_stripe index device chunk at) lease t = cc (t.2.2)
close_job context (jobs.forges device chunk) lease t = cc (t.2.2)
close_job context (jobs.loses node) lease t = cc (t)

pub close_is : (context : Context) (job : Job) (r : Running) (lease : ℕ) → IsTaskOf context job (task_of r) → a_call (on_depot (depots.closes lease)) ≡ asked r → ClosesFor context job lease
close_is context job (Serves device p) lease t e = absurd (serving_close p.work p.need lease e)
close_is context job (Makes p) lease t e = close_job context job lease (subst (λ (s : Single). IsTaskOf context job (makes s)) (single_close p.single p.need lease e) t)
close_is context job (Forges p) lease t e = absurd (forge_close p.target p.need lease e)
close_is context job (Collects p) lease t e = absurd (collect_close p.job p.need lease e)
close_is context job (Migrates p) lease t e = absurd (migrate_close p.image p.need lease e)
close_is context job (Creates p) lease t e = absurd (create_close p.create.need lease e)

-- ---- a job whose call was handed out

pub under_way : (context : Context) (job : Job) (old new : Running) (c : ActorCall) → IsGoing context job old → IsOut old new → HandsCall c (asked old) → IsUnderWay context job new
under_way context job old new c going out h = record {
  is = subst (λ (t : Task). IsTaskOf context job t) (sym out.task) going.is;
  task = subst (λ (t : Task). IsTask context job t) (sym out.task) going.task;
  home = out.home context going.home;
  handed = out.out;
  calls = subst IsCall (sym out.call) (is_call c (asked old) h);
  front = λ steps more reply a adds stands. subst (λ (t : Task). IsFront (Walk t) (steps ++ more)) (sym out.task)
      (out.front steps more reply (out.admits reply a) (subst (λ (q : Asked). Adds q reply more) out.call adds) (out.stood steps stands));
  bound = rw out.left going.bound;
}

pub held : (context : Context) (hosts : ℕ) (job : Job) (old new : Running) (c : ActorCall) → IsContext context → AreHosted context hosts → MayBeGiven context hosts job → IsGoing context job old → IsOut old new → HandsCall c (asked old) → MayCall c
    → IsHeld context hosts job new c
held context hosts job old new c is hosted m going out h may = record {
  asked = subst (λ (q : Asked). HandsCall c q) (sym out.call) h;
  may = may;
  within = subst (IsWithin context hosts) (sym (object_handed c (asked old) h)) (asked_within context hosts job old is hosted m going.is going.home);
  closes = λ lease e. close_is context job old lease going.is (subst (λ (x : ActorCall). HandsCall x (asked old)) e h);
}
