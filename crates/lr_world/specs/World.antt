-- A world: actors over the objects that they call on.
use Rattle.std.specs.Prelude.{◌≡◌, ◌≤◌, ◌<◌, ◌+◌, ◌*◌, ℕ, List, [], ◌∷◌, ◌++◌, length, map, sum_by, false, MatchBool, Option, Some, None, slice_get, slice_set, ⊤}
use Rattle.std.specs.Prelude.{Vec}
use Rattle.std.specs.Global.{Global}
use Rattle.std.specs.Bool.{OnFalse}
use Rattle.std.specs.FinMap as map
use Rattle.lr_spec.specs.Told.{Told}
use Rattle.lr_spec.specs.Rose.{Rose}
use Rattle.lr_object.specs.declared.id.ObjectId.{ObjectId}
use Rattle.lr_object.specs.declared.id.ObjectId.TheVariants.{Device, Cache}
use Rattle.lr_object.specs.Kept.{Sized}
use Rattle.lr_device.specs.declared.call.DeviceCall.{DeviceCall}
use Rattle.lr_device.specs.declared.step.DeviceNoted.{DeviceNoted}
use Rattle.lr_device.specs.declared.step.DeviceAnswer.{DeviceAnswer}
use Rattle.lr_cache.specs.declared.call.CacheCall.{CacheCall}
use Rattle.lr_cache.specs.declared.call.CacheReply.{CacheReply}
use Rattle.lr_nodes.specs.declared.call.NodeCall.{NodeCall}
use Rattle.lr_nodes.specs.declared.call.NodeReply.{NodeReply}
use Rattle.lr_manifest.specs.declared.name.Name.{Name}
use Rattle.lr_origin.specs.Objects.{Objects as Stored}
use Rattle.lr_depot.specs.declared.call.DepotCall.{DepotCall}
use Rattle.lr_depot.specs.declared.call.DepotReply.{DepotReply}
use Rattle.lr_rules.specs.State as rules
use Rattle.lr_depot.specs.Depot as depots
use Rattle.lr_depot.specs.Depot.{state, IsUnchanged}
use Rattle.lr_depot.specs.Machine.{LogEntry, HasNone, DepotStep, Enters, IsShared, IsSharedEntry, is_logged}
use Rattle.lr_depot.specs.Store.{StoreStep, IsFault, IsUnasked}
use Rattle.lr_walk.specs.Calls.{DevicePlace}
use Rattle.lr_walk.specs.Jobs.{Context}
use Rattle.lr_walk.specs.Trails.{Lists}
use Rattle.lr_walk.specs.Steps.{Call, on_depot, Reply, by_cache, by_depot, Step}
use Rattle.lr_walk.specs.Depot as depot
use Rattle.lr_walk.specs.Cache as caches
use Rattle.lr_history.specs.Ready.{claim_by, plan_by, out_after}
use Rattle.lr_actors.specs.declared.action.ActorCall.{ActorCall}
use Rattle.lr_actors.specs.declared.action.ActorCall.TheVariants as call
use Rattle.lr_actors.specs.declared.action.ActorReply.{ActorReply}
use Rattle.lr_actors.specs.declared.action.ActorReply.TheVariants as by
use Rattle.lr_actors.specs.Asked.{seen_reply}
use Rattle.lr_actors.specs.Running as running
use Rattle.lr_actors.specs.Running.{Task, task_of}
use Rattle.lr_actors.specs.Jobs.{Job, calls, closes}
use Rattle.lr_actors.specs.Actor as actor
use Rattle.lr_actors.specs.Actor.{Now, works, idles, reaps, over, IsActor, IsNew, StandsFor, handed, Took, Passed, reap_place, left}
use Rattle.lr_replies.specs.Objects.{Objects, own_lists, Calls}
use Rattle.lr_replies.specs.Replies.{AreMade, IsOut, HasLease}
use Rattle.lr_actors.specs.declared.place.Parts.{Parts}
use Rattle.lr_world.specs.declared.world.World.{World}
use Rattle.lr_world.specs.declared.world.Stepped.{Stepped}
use Rattle.lr_world.specs.declared.world.Stepped.TheVariants.{Event, Idle}

-- what contracts see of a world
pub record Seen (O : Type 0) : Type 0 where
  pub devices : List (Sized DeviceNoted DeviceAnswer)
  pub caches : List (Sized CacheCall CacheReply)
  pub nodes : List (Sized NodeCall NodeReply)
  pub depot : depots.Seen O
  pub actors : List actor.Seen

-- these parts and actors
abbrev pub seen_of : {O : Type 0} → Parts O → Vec actor.Seen Global → Seen O
seen_of parts actors = record { devices = parts.devices.items; caches = parts.caches.items; nodes = parts.nodes.items; depot = parts.depot; actors = actors.items }

abbrev pub seen : {O : Type 0} → World O → Seen O
seen w = seen_of w.parts w.actors

-- its objects
abbrev pub objects_of : {O : Type 0} → Seen O → Objects
objects_of w = record { devices = w.devices; caches = w.caches; nodes = w.nodes; start = w.depot.start; depot = w.depot.log }

-- ---- what no step changes

-- an actor, as it was made
pub record Part : Type 0 where
  pub number : ℕ
  pub context : Context
  pub hosts : ℕ
  pub jobs : List Job
  pub crash : Option ℕ

abbrev pub part_of : actor.Seen → Part
part_of a = record { number = a.number; context = a.context; hosts = a.hosts; jobs = a.jobs; crash = a.crash }

abbrev pub cast_of : {O : Type 0} → Seen O → List Part
cast_of w = map part_of w.actors

abbrev pub numbers_of : List Part → List ℕ
numbers_of cast = map (λ (p : Part). p.number) cast

-- one of these has this number
abbrev pub IsNumber : List Part → ℕ → Type 0
IsNumber cast number = (i : ℕ) × (p : Part) × (slice_get cast i ≡ Some p) × (p.number ≡ number)

-- the job stands at this place of the actor at this place
abbrev pub HasJob : List Part → ℕ → ℕ → Job → Type 0
HasJob cast i k job = (p : Part) × (slice_get cast i ≡ Some p) × (slice_get p.jobs k ≡ Some job)

-- some job is a device call
abbrev pub HasCalls : List Part → Type 0
HasCalls cast = (i : ℕ) × (k : ℕ) × (device : ℕ) × (asked : DeviceCall) × HasJob cast i k (calls device asked)

-- Numbers are at least 1 and ascend, and all share one context.
pub record IsCast (context : Context) (hosts : ℕ) (cast : List Part) : Type 0 where
  pub shared : (i : ℕ) (p : Part) → slice_get cast i ≡ Some p → (p.context ≡ context) × (p.hosts ≡ hosts) × (1 ≤ p.number)
  pub ascending : (i j : ℕ) (p q : Part) → i < j → slice_get cast i ≡ Some p → slice_get cast j ≡ Some q → p.number < q.number
  -- no two devices share a lease
  pub leases : (i j : ℕ) (p q : DevicePlace) → slice_get context.devices i ≡ Some p → slice_get context.devices j ≡ Some q → p.lease ≡ q.lease → i ≡ j
  -- where some job is a close, no job is a device call, and no lease is closed twice
  pub apart : (i j k l device closed : ℕ) (asked : DeviceCall) → HasJob cast i k (calls device asked) → HasJob cast j l (closes closed) → ⊥
  pub once : (i j k l device : ℕ) → HasJob cast i k (closes device) → HasJob cast j l (closes device) → (i ≡ j) × (k ≡ l)

-- ---- what is out

-- the claim that a caller has out in the cache of a host
abbrev pub claim_out : Objects → ℕ → ℕ → Option Name
claim_out w caller host = out_after (claim_by host) None (own_lists w caller (Cache host))

-- by a caller's own lists, neither a plan nor a claim is out there
abbrev pub HasNoneOut : Lists → ObjectId → Type 0
HasNoneOut lists (Device n) = out_after (plan_by n) None (lists (Device n)) ≡ None
HasNoneOut lists (Cache host) = out_after (claim_by host) None (lists (Cache host)) ≡ None
HasNoneOut lists o = ⊤

-- no cache has a claim out
abbrev pub HasNoClaims : Objects → Type 0
HasNoClaims w = (caller host : ℕ) → claim_out w caller host ≡ None

-- ---- sessions

-- The session that a creation or a migration has out after a step: its beginning gives it one; the manifest that is put and an abandon,
-- whatever its answer, end it.
abbrev pub session_by : Option ℕ → Reply → Call → Option ℕ
session_by session (by_depot reply) (on_depot (depot.abandons n)) = None
session_by session (by_depot (depot.began n root salt number)) (on_depot (depot.begins image)) = Some n
session_by session (by_depot (depot.moving n from to m)) (on_depot (depot.begins_move image)) = Some n
session_by session (by_depot (depot.made root)) (on_depot (depot.puts_manifest n m)) = None
session_by session (by_depot (depot.moved from to)) (on_depot (depot.finishes_move n)) = None
session_by session reply call = session

abbrev pub session_after : List Step → Option ℕ
session_after steps = out_after (λ session call reply. session_by session reply call) None steps

-- .. which no other task has
abbrev pub session_of : Task → List Step → Option ℕ
session_of (running.creates image tenant raw) steps = session_after steps
session_of (running.migrates image) steps = session_after steps
session_of task steps = None

-- no session of the caller is held
abbrev pub HasNoSession : Objects → ℕ → Type 0
HasNoSession w caller = (n : ℕ) → HasNone (state w.start w.depot) n caller

-- Of a caller's sessions at most the one of its job under way is held, and between jobs and when it has ended none; while it crashes
-- they end with the reap of the depot, which is the last one.
abbrev pub HasSessions : Now → Objects → ℕ → Type 0
HasSessions (works r) w caller =
    (steps : List Step) × running.StandsFor r steps × ((n : ℕ) (job : rules.Job) → rules.Holds (state w.start w.depot) n caller job → session_of (task_of r) steps ≡ Some n)
HasSessions (reaps made) w caller = ⊤
HasSessions now w caller = HasNoSession w caller

-- An actor that has ended holds nothing there; one that crashed nothing that it has reaped.
abbrev pub LetsGo : Now → actor.Seen → ObjectId → Type 0
LetsGo over a o = ⊤
LetsGo (reaps made) a o = reap_place a.context a.hosts o < made
LetsGo now a o = ⊥

-- By its own lists a caller has neither a plan nor a claim out, and the depot holds no session of it.
pub record HoldsNothing (w : Objects) (caller : ℕ) : Type 0 where
  pub lists : (o : ObjectId) → HasNoneOut (own_lists w caller) o
  pub sessions : HasNoSession w caller

-- ---- a world

-- An actor among its objects: no call of it is out, it stands for its own lists, the leases of its jobs to come are out, it holds
-- nothing where it has let go, and no session but that of its job under way.
pub record IsInPlace (w : Objects) (a : actor.Seen) : Type 0 where
  pub is : IsActor a
  pub out : a.out ≡ false
  pub stands : StandsFor a (own_lists w a.number)
  pub leases : (k : ℕ) (job : Job) → length a.account.results ≤ k → slice_get a.jobs k ≡ Some job → HasLease w a.context job
  pub gone : (o : ObjectId) → LetsGo a.now a o → HasNoneOut (own_lists w a.number) o
  pub sessions : HasSessions a.now w a.number

-- Where some job is a device call, no caller but the actors has a claim out.
abbrev pub HaveClaims : Objects → List Part → Type 0
HaveClaims w cast = HasCalls cast → (caller : ℕ) → ¬ (IsNumber cast caller) → (host : ℕ) → claim_out w caller host ≡ None

-- Actors of one context over the objects that it names.
pub record IsWorld {O : Type 0} (context : Context) (hosts : ℕ) (w : Seen O) : Type 0 where
  pub cast : IsCast context hosts (cast_of w)
  pub made : AreMade (objects_of w) context hosts
  pub actors : (i : ℕ) (a : actor.Seen) → slice_get w.actors i ≡ Some a → IsInPlace (objects_of w) a
  pub claims : HaveClaims (objects_of w) (cast_of w)

-- New actors may begin over these objects.
pub record MayBegin {O : Type 0} (context : Context) (hosts : ℕ) (w : Seen O) : Type 0 where
  pub cast : IsCast context hosts (cast_of w)
  pub made : AreMade (objects_of w) context hosts
  pub new : (i : ℕ) (a : actor.Seen) → slice_get w.actors i ≡ Some a → IsNew a.number a.context a.hosts a.jobs a.crash a
  -- no log has an entry of an actor's number; so no plan, claim or session of it is out
  pub own : (i : ℕ) (a : actor.Seen) → slice_get w.actors i ≡ Some a → (o : ObjectId) → own_lists (objects_of w) a.number o ≡ []
  pub leases : (device : ℕ) (place : DevicePlace) → slice_get context.devices device ≡ Some place → IsOut (objects_of w) place
  pub claims : HasCalls (cast_of w) → HasNoClaims (objects_of w)

-- ---- a step

-- What a call did to a depot, as its contract says.
pub record Applied {O : Type 0} (objects : O → Option Stored) (faults : O → ℕ) (old : depots.Seen O) (caller : ℕ) (asked : DepotCall) (reply : DepotReply) (new : depots.Seen O) : Type 0 where
  pub fixed : new.start ≡ old.start
  pub answers : DepotStep (state old.start old.log) caller asked reply
  pub logged : MatchBool (is_logged reply) ((e : LogEntry) × (new.log ≡ old.log ++ e ∷ []) × (e.caller ≡ caller) × Enters asked reply e × (IsShared asked → IsSharedEntry e.call)) (new.log ≡ old.log)
  pub unlogged : OnFalse (is_logged reply) (IsUnchanged objects old new)
  pub store : Told (objects old.origin) (λ m. StoreStep (state old.start old.log) caller asked reply m (objects new.origin))
  pub never_falls : faults old.origin ≤ faults new.origin
  pub cause : IsFault reply → Rose (faults old.origin) (faults new.origin)
  pub unasked : IsUnasked (state old.start old.log) caller asked reply → new.origin ≡ old.origin

-- The depot took the call, or it is as it was.
abbrev pub Keeps : {O : Type 0} → (O → Option Stored) → (O → ℕ) → ActorCall → ActorReply → ℕ → depots.Seen O → depots.Seen O → Type 0
Keeps objects faults (call.Depot asked) (by.Depot reply) caller old new = Applied objects faults old caller asked reply new
Keeps objects faults asked reply caller old new = new ≡ old

-- The actor at this place made its call: the called object gave the reply, and the actor took it. No other object and no other
-- actor changed.
pub record Called {O : Type 0} (objects : O → Option Stored) (faults : O → ℕ) (old : Seen O) (i : ℕ) (a : actor.Seen) (asked : ActorCall) (reply : ActorReply) (new : Seen O) : Type 0 where
  pub after : actor.Seen
  pub asks : actor.Calls a asked
  pub called : Calls a.number asked reply (objects_of old) (objects_of new)
  pub depot : Keeps objects faults asked reply a.number old.depot new.depot
  pub took : Took (handed a) (seen_reply reply) after
  pub actors : new.actors ≡ slice_set old.actors i after

-- the actor at this place made its idle step
pub record Idled {O : Type 0} (old : Seen O) (i : ℕ) (a : actor.Seen) (new : Seen O) : Type 0 where
  pub after : actor.Seen
  pub passed : Passed a after
  pub kept : new ≡ record old { actors = slice_set old.actors i after }

-- an actor that has ended does nothing
abbrev pub StepsNow : {O : Type 0} → (O → Option Stored) → (O → ℕ) → (Reply → Type 0) → Now → Seen O → ℕ → actor.Seen → Seen O → Type 0
StepsNow objects faults allows over old i a new = new ≡ old
StepsNow objects faults allows idles old i a new = Idled old i a new
StepsNow objects faults allows now old i a new = (asked : ActorCall) × (reply : ActorReply) × Called objects faults old i a asked reply new × allows (seen_reply reply)

-- The actor of this number took its step, and the reply, if there was one, is one of these.
abbrev pub StepsBy : {O : Type 0} → (O → Option Stored) → (O → ℕ) → (Reply → Type 0) → Seen O → ℕ → Seen O → Type 0
StepsBy objects faults allows old number new =
    (i : ℕ) × (a : actor.Seen) × (slice_get old.actors i ≡ Some a) × (a.number ≡ number) × StepsNow objects faults allows a.now old i a new

abbrev pub Steps : {O : Type 0} → (O → Option Stored) → (O → ℕ) → Seen O → ℕ → Seen O → Type 0
Steps objects faults old number new = StepsBy objects faults (λ reply. ⊤) old number new

-- It made one apply, or it has ended or made an idle step.
abbrev pub told_of : Now → Stepped
told_of over = Idle
told_of idles = Idle
told_of now = Event

abbrev pub Tells : {O : Type 0} → Seen O → ℕ → Stepped → Type 0
Tells w number stepped = (i : ℕ) (a : actor.Seen) → slice_get w.actors i ≡ Some a → a.number ≡ number → stepped ≡ told_of a.now

-- not Busy
abbrev pub IsFree : Reply → Type 0
IsFree (by_cache (caches.busy holder)) = ⊥
IsFree reply = ⊤

-- ---- how much is left

-- the keys of the depot's view
abbrev pub keys_of : Objects → ℕ
keys_of w = map.len (state w.start w.depot).known.view

-- A number that each step lowers, but where the reply is Busy: twice the steps that the actors may still make, the removals of sweeps
-- not counted, and the keys that there are to remove.
abbrev pub weight_of : {O : Type 0} → Seen O → ℕ
weight_of w = 2 * sum_by left w.actors + keys_of (objects_of w)
