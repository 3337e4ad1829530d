-- What a run left is what its history needs.
use Rattle.std.proofs.Common.{◌≡◌, ◌<◌, ℕ, zero, suc, List, [], ◌∷◌, ◌++◌, length, map, Option, Some, None, slice_get, refl, sym, ap, ◌∙◌, subst, arith}
use Rattle.std.specs.List.{AllByRecursion, AllZip, Contains}
use Rattle.std.proofs.lemmas.List.{length-map}
use Rattle.lr_origin.specs.Objects.{Objects as Store}
use Rattle.lr_opening.specs.Store.{HasChunks}
use Rattle.lr_object.specs.declared.entry.Entry.{Entry}
use Rattle.lr_object.specs.declared.id.ObjectId.{ObjectId}
use Rattle.lr_object.specs.declared.id.ObjectId.TheVariants.{Device, Cache, Node, Depot}
use Rattle.lr_object.specs.Kept.{Sized}
use Rattle.lr_object.specs.Own.{own_entries}
use Rattle.lr_object.specs.Grown.{Grown}
use Rattle.lr_device.specs.declared.step.DeviceNoted.{DeviceNoted}
use Rattle.lr_device.specs.declared.step.DeviceAnswer.{DeviceAnswer}
use Rattle.lr_device.specs.Answers.{Answers}
use Rattle.lr_device.specs.Enters.{Enters}
use Rattle.lr_cache.specs.declared.call.CacheCall.{CacheCall}
use Rattle.lr_cache.specs.declared.call.CacheReply.{CacheReply}
use Rattle.lr_cache.specs.Orderly.{IsCacheLog}
use Rattle.lr_nodes.specs.declared.call.NodeCall.{NodeCall}
use Rattle.lr_nodes.specs.declared.call.NodeReply.{NodeReply}
use Rattle.lr_depot.specs.Depot.{LedTo}
use Rattle.lr_walk.specs.declared.trail.JobResult.{JobResult}
use Rattle.lr_walk.specs.Jobs.{Context}
use Rattle.lr_walk.specs.Trails.{Lists}
use Rattle.lr_history.specs.Jobs.{HasTrailSeen}
use Rattle.lr_history.specs.Run.{DeviceLine, DeviceSeen, CacheSeen, ActorSeen, Run}
use Rattle.lr_history.specs.Lists.{own, context_of, device_log, cache_log, node_log as log_at, device_entry, cache_entry, node_entry}
use Rattle.lr_history.specs.Lists as history
use Rattle.lr_history.specs.Premises.{IsRun, AreCallers, AreDeviceLogs, AreCacheLogs}
use Rattle.lr_history.specs.Premises as premises
use Rattle.lr_history.specs.Claims.{HaveOwnLeases, AreApart}
use Rattle.lr_setup.specs.Setup.{devices_of}
use Rattle.lr_setup.specs.Whole.{IsWhole}
use Rattle.lr_actors.specs.Jobs.{Job}
use Rattle.lr_actors.specs.Records.{HasTrail}
use Rattle.lr_replies.specs.Seen.{seen_job}
use Rattle.lr_replies.specs.Objects.{Objects, log_of, own_lists}
use Rattle.lr_actors.specs.Actor.{MayBeGiven}
use Rattle.lr_headline.specs.Closing.{Left, Closing, place_of, size_of, numbers_of, AreOf, IsClosing, cache_seen, node_log, actor_seen, devices_seen, run_of}

-- ---- lists

get_map : {A B : Type 0} (f : A → B) (xs : List A) (i : ℕ) (y : B) → slice_get (map f xs) i ≡ Some y → (x : A) × (slice_get xs i ≡ Some x) × (f x ≡ y)
get_map f [] zero y e = absurd (cc)
get_map f [] (suc i) y e = absurd (cc)
get_map f (x ∷ xs) zero y e = (x, refl, cc)
get_map f (x ∷ xs) (suc i) y e = get_map f xs i y e

map_get : {A B : Type 0} (f : A → B) (xs : List A) (i : ℕ) (x : A) → slice_get xs i ≡ Some x → slice_get (map f xs) i ≡ Some (f x)
map_get f [] zero x e = absurd (cc)
map_get f [] (suc i) x e = absurd (cc)
map_get f (y ∷ xs) zero x e = let s : y ≡ x = cc in rw s refl
map_get f (y ∷ xs) (suc i) x e = map_get f xs i x e

pub all_get : {X : Type 0} (P : X → Type 0) (xs : List X) (i : ℕ) (x : X) → AllByRecursion P xs → slice_get xs i ≡ Some x → P x
all_get P [] zero x h e = absurd (cc)
all_get P [] (suc i) x h e = absurd (cc)
all_get P (y ∷ xs) zero x h e = let s : y ≡ x = cc in subst P s h.0
all_get P (y ∷ xs) (suc i) x h e = all_get P xs i x h.1 e

pub all_by : {X : Type 0} (P Q : X → Type 0) → ((x : X) → P x → Q x) → (xs : List X) → AllByRecursion P xs → AllByRecursion Q xs
all_by P Q f [] h = tt
all_by P Q f (x ∷ xs) h = (f x h.0, all_by P Q f xs h.1)

map_map : {A B C : Type 0} (f : A → B) (g : B → C) (xs : List A) → map g (map f xs) ≡ map (λ (x : A). g (f x)) xs
map_map f g [] = refl
map_map f g (x ∷ xs) = ap (λ (l : List _). g (f x) ∷ l) (map_map f g xs)

-- ---- devices

-- where there are as many devices as lines, each device stands with its line
Sizes : List DeviceLine → List (Sized DeviceNoted DeviceAnswer) → Type 0
Sizes lines devices = map (λ (d : Sized DeviceNoted DeviceAnswer). d.capacity) devices ≡ map size_of lines

lines_seen : (lines : List DeviceLine) (devices : List (Sized DeviceNoted DeviceAnswer)) → length devices ≡ length lines → map (λ (d : DeviceSeen). d.line) (devices_seen lines devices) ≡ lines
lines_seen [] devices e = refl
lines_seen (line ∷ lines) [] e = absurd (omega arith)
lines_seen (line ∷ lines) (d ∷ devices) e = ap (λ (l : List DeviceLine). line ∷ l) (lines_seen lines devices (omega arith))

seen_at : (lines : List DeviceLine) (devices : List (Sized DeviceNoted DeviceAnswer)) (i : ℕ) (s : DeviceSeen) → slice_get (devices_seen lines devices) i ≡ Some s
    → (d : Sized DeviceNoted DeviceAnswer) × (slice_get devices i ≡ Some d) × (slice_get lines i ≡ Some s.line) × (s.log ≡ d.log)
seen_at [] devices zero s e = absurd (cc)
seen_at [] devices (suc i) s e = absurd (cc)
seen_at (line ∷ lines) [] zero s e = absurd (cc)
seen_at (line ∷ lines) [] (suc i) s e = absurd (cc)
seen_at (line ∷ lines) (d ∷ devices) zero s e = let t : record { line = line; log = d.log } ≡ s = cc in (d, refl, ap (λ (x : DeviceSeen). Some x.line) t, sym (ap (λ (x : DeviceSeen). x.log) t))
seen_at (line ∷ lines) (d ∷ devices) (suc i) s e = seen_at lines devices i s e

-- the log at a place
log_seen : (lines : List DeviceLine) (devices : List (Sized DeviceNoted DeviceAnswer)) (i : ℕ) → length devices ≡ length lines → device_log (slice_get (devices_seen lines devices) i) ≡ log_of (slice_get devices i)
log_seen [] [] zero e = refl
log_seen [] [] (suc i) e = refl
log_seen [] (d ∷ devices) i e = absurd (omega arith)
log_seen (line ∷ lines) [] i e = absurd (omega arith)
log_seen (line ∷ lines) (d ∷ devices) zero e = refl
log_seen (line ∷ lines) (d ∷ devices) (suc i) e = log_seen lines devices i (omega arith)

cache_log_seen : (caches : List (Sized CacheCall CacheReply)) (i : ℕ) → cache_log (slice_get (map cache_seen caches) i) ≡ log_of (slice_get caches i)
cache_log_seen [] zero = refl
cache_log_seen [] (suc i) = refl
cache_log_seen (c ∷ caches) zero = refl
cache_log_seen (c ∷ caches) (suc i) = cache_log_seen caches i

node_log_seen : (nodes : List (Sized NodeCall NodeReply)) (i : ℕ) → log_at (slice_get (map node_log nodes) i) ≡ log_of (slice_get nodes i)
node_log_seen [] zero = refl
node_log_seen [] (suc i) = refl
node_log_seen (n ∷ nodes) zero = refl
node_log_seen (n ∷ nodes) (suc i) = node_log_seen nodes i

many : (c : Closing) → IsClosing c → length c.objects.devices ≡ length (devices_of c.lines)
many c k =
    let a = length-map c.objects.devices (λ (d : Sized DeviceNoted DeviceAnswer). d.capacity) in
    let b = length-map (devices_of c.lines) size_of in
    sym a ∙ (ap length k.sizes ∙ b)

-- an actor's own lists are the same
own_same : (c : Closing) (opening closing : Store) (number : ℕ) → IsClosing c → (o : ObjectId) → own (run_of c opening closing) number o ≡ own_lists c.objects number o
own_same c opening closing number k (Device i) = ap (λ l. map (device_entry i) (own_entries number l)) (log_seen (devices_of c.lines) c.objects.devices i (many c k))
own_same c opening closing number k (Cache i) = ap (λ l. map (cache_entry i) (own_entries number l)) (cache_log_seen c.objects.caches i)
own_same c opening closing number k (Node i) = ap (λ l. map (node_entry i) (own_entries number l)) (node_log_seen c.objects.nodes i)
own_same c opening closing number k Depot = refl

places_seen : (lines : List DeviceLine) (devices : List (Sized DeviceNoted DeviceAnswer)) → length devices ≡ length lines → map history.place_of (devices_seen lines devices) ≡ map place_of lines
places_seen [] devices e = refl
places_seen (line ∷ lines) [] e = absurd (omega arith)
places_seen (line ∷ lines) (d ∷ devices) e = ap (λ (l : List _). place_of line ∷ l) (places_seen lines devices (omega arith))

context_same : (c : Closing) (opening closing : Store) → IsClosing c → context_of (run_of c opening closing) ≡ c.context
context_same c opening closing k =
    let d : map history.place_of (devices_seen (devices_of c.lines) c.objects.devices) ≡ c.context.devices = places_seen (devices_of c.lines) c.objects.devices (many c k) ∙ sym k.places in
    let n : length (map node_log c.objects.nodes) ≡ c.context.nodes = length-map c.objects.nodes node_log ∙ k.made.many.2 in
    rw (d, n) refl

-- ---- trails

-- lists that are the same at each object are the same
same_lists : (a b : Lists) → ((o : ObjectId) → a o ≡ b o) → a ≡ b
same_lists a b e = λ i o. e o i

-- what a law of the trails says
abbrev Seen : Type 0
Seen = (context : Context) (hosts : ℕ) (lists : Lists) (jobs : List Job) (results : List JobResult)
    → AllByRecursion (MayBeGiven context hosts) jobs → HasTrail context lists jobs results → HasTrailSeen context lists (map seen_job jobs) results

all_trails : Seen → (context : Context) (hosts : ℕ) (objects : Objects) (actors : List Left)
    → AllByRecursion (λ (a : Left). AllByRecursion (MayBeGiven context hosts) a.jobs) actors → AllByRecursion (λ (a : Left). HasTrail context (own_lists objects a.number) a.jobs a.results) actors
    → AllByRecursion (λ (a : ActorSeen). HasTrailSeen context (own_lists objects a.number) a.jobs a.results) (map actor_seen actors)
all_trails seen context hosts objects [] g h = tt
all_trails seen context hosts objects (a ∷ actors) g h = (seen context hosts (own_lists objects a.number) a.jobs a.results g.0 h.0, all_trails seen context hosts objects actors g.1 h.1)

own_is : (c : Closing) (opening closing : Store) → IsClosing c → (number : ℕ) → own (run_of c opening closing) number ≡ own_lists c.objects number
own_is c opening closing k number = same_lists (own (run_of c opening closing) number) (own_lists c.objects number) (own_same c opening closing number k)

trails : Seen → (c : Closing) (opening closing : Store) → IsClosing c
    → AllByRecursion (λ (a : ActorSeen). HasTrailSeen (context_of (run_of c opening closing)) (own (run_of c opening closing) a.number) a.jobs a.results) (map actor_seen c.actors)
trails seen c opening closing k =
    all_by (λ (a : ActorSeen). HasTrailSeen c.context (own_lists c.objects a.number) a.jobs a.results)
    (λ (a : ActorSeen). HasTrailSeen (context_of (run_of c opening closing)) (own (run_of c opening closing) a.number) a.jobs a.results)
    (λ a h. subst (λ (l : Lists). HasTrailSeen (context_of (run_of c opening closing)) l a.jobs a.results) (sym (own_is c opening closing k a.number))
    (subst (λ (x : Context). HasTrailSeen x (own_lists c.objects a.number) a.jobs a.results) (sym (context_same c opening closing k)) h))
    (map actor_seen c.actors)
    (all_trails seen c.context c.hosts c.objects c.actors k.given k.trails)

numbers_same : (actors : List Left) → premises.numbers (map actor_seen actors) ≡ numbers_of actors
numbers_same actors = map_map actor_seen (λ (a : ActorSeen). a.number) actors

callers_of : {N T : Type 0} (actors : List Left) (objects : List (Sized N T)) (i : ℕ) (s : Sized N T) → AreOf actors objects → slice_get objects i ≡ Some s → AreCallers (map actor_seen actors) s.log
callers_of {N} {T} actors objects i s h e =
    subst (λ (l : List ℕ). AllByRecursion (λ (x : Entry N T). Contains l x.caller) s.log) (sym (numbers_same actors))
    (all_get (λ (x : Sized N T). AllByRecursion (λ (y : Entry N T). Contains (numbers_of actors) y.caller) x.log) objects i s h e)

pub is_run : Seen → (c : Closing) (opening closing : Store) → IsClosing c → IsRun (run_of c opening closing)
is_run seen c opening closing k = record {
  callers = λ i s e. let at = seen_at (devices_of c.lines) c.objects.devices i s e in
      subst (λ l. AreCallers (map actor_seen c.actors) l) (sym at.3) (callers_of c.actors c.objects.devices i at.0 k.devices at.1);
  trails = trails seen c opening closing k;
}

size_at : (lines : List DeviceLine) (devices : List (Sized DeviceNoted DeviceAnswer)) (i : ℕ) (d : Sized DeviceNoted DeviceAnswer) (line : DeviceLine)
    → map (λ (d : Sized DeviceNoted DeviceAnswer). d.capacity) devices ≡ map size_of lines → slice_get devices i ≡ Some d → slice_get lines i ≡ Some line → d.capacity ≡ size_of line
size_at lines devices i d line e f g =
    let a : slice_get (map (λ (d : Sized DeviceNoted DeviceAnswer). d.capacity) devices) i ≡ Some d.capacity = map_get (λ (d : Sized DeviceNoted DeviceAnswer). d.capacity) devices i d f in
    let b : slice_get (map size_of lines) i ≡ Some (size_of line) = map_get size_of lines i line g in
    let s : Some d.capacity ≡ Some (size_of line) = sym a ∙ (ap (λ (l : List ℕ). slice_get l i) e ∙ b) in
    cc

pub device_logs : (c : Closing) (opening closing : Store) → IsClosing c → AreDeviceLogs (run_of c opening closing)
device_logs c opening closing k i s e =
    let at = seen_at (devices_of c.lines) c.objects.devices i s e in
    let size = size_at (devices_of c.lines) c.objects.devices i at.0 s.line k.sizes at.1 at.2 in
    subst (λ (n : ℕ). Grown Answers Enters n [] s.log) size (subst (λ l. Grown Answers Enters at.0.capacity [] l) (sym at.3) (k.made.devices i at.0 at.1))

pub cache_logs : (c : Closing) (opening closing : Store) → IsClosing c → AreCacheLogs (run_of c opening closing)
cache_logs c opening closing k = record {
  grown = λ host s e. let at = get_map cache_seen c.objects.caches host s e in
      subst (λ (x : CacheSeen). IsCacheLog x.capacity x.log) at.2 (k.made.caches host at.0 at.1);
  callers = λ host s e. let at = get_map cache_seen c.objects.caches host s e in
      subst (λ (x : CacheSeen). AreCallers (map actor_seen c.actors) x.log) at.2 (callers_of c.actors c.objects.caches host at.0 k.caches at.1);
}

pub is_whole : Seen → (c : Closing) (opening closing : Store) → IsClosing c → LedTo c.objects.start opening c.objects.depot closing → HasChunks opening → IsWhole c.objects.start c.lines (run_of c opening closing)
is_whole seen c opening closing k led chunks = record {
  led = led;
  chunks = chunks;
  setup = k.setup;
  images = refl;
  devices = lines_seen (devices_of c.lines) c.objects.devices (many c k);
  logs = device_logs c opening closing k;
  trails = is_run seen c opening closing k;
}

pub are_apart : (c : Closing) (opening closing : Store) → IsClosing c → AreApart (run_of c opening closing)
are_apart c opening closing k = record { numbers = k.numbers; leases = subst HaveOwnLeases (sym (context_same c opening closing k)) k.leases }
