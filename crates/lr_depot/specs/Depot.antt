-- A depot as contracts see it, and what each call does to one.
use Rattle.std.specs.Prelude.{◌≡◌, ◌≤◌, ◌+◌, ◌-◌, ◌^◌, ℕ, List, [], ◌∷◌, ◌++◌, Option, Some, None, MatchBool, vec_len, vec_capacity}
use Rattle.std.specs.Bool.{OnFalse}
use Rattle.std.specs.FinMap as map
use Rattle.lr_spec.specs.Told.{Told}
use Rattle.lr_origin.specs.Objects.{Objects}
use Rattle.lr_roots.specs.Names.{IsNamed, AreFewer, IsGreatestNumber}
use Rattle.lr_roots.specs.Catalog.{Seen as Catalog}
use Rattle.lr_opening.specs.Listing.{HasFewer}
use Rattle.lr_opening.specs.Store.{Mirrors, HasChunks, IsSoundStore}
use Rattle.lr_roots.specs.View.{View}
use Rattle.lr_roots.specs.Roots.{IsHomed}
use Rattle.lr_roots.specs.Sound.{IsSound}
use Rattle.lr_rules.specs.Known.{Settles}
use Rattle.lr_depot.specs.Doubts.{puts_in_doubt}
use Rattle.lr_depot.specs.Owed.{IsOwed}
use Rattle.lr_rules.specs.State.{State}
use Rattle.lr_rules.specs.Start.{started, MayStart}
use Rattle.lr_rules.specs.Parts.{HasParts}
use Rattle.lr_depot.specs.declared.call.DepotCall.{DepotCall}
use Rattle.lr_depot.specs.declared.call.DepotNoted.{DepotNoted}
use Rattle.lr_depot.specs.declared.call.DepotReply.{DepotReply}
use Rattle.lr_depot.specs.declared.call.DepotTold.{DepotTold}
use Rattle.lr_depot.specs.Begun.{Start}
use Rattle.lr_depot.specs.declared.depot.Body.{Body}
use Rattle.lr_depot.specs.Machine.{LogEntry, DepotStep, Enters, IsShared, IsSharedEntry, after_entry, run, is_logged}
use Rattle.lr_spec.specs.Rose.{Rose}
use Rattle.lr_depot.specs.Store.{IsRun, LeadsTo, Covers, StoreStep, IsFault, IsUnasked}
use Rattle.lr_depot.specs.Kernel.{IsOf, held, places}
use Rattle.lr_depot.specs.Left.{Left}

-- A depot: the store, what the depot was started with, and the log.
pub record Seen (O : Type 0) : Type 0 where
  pub origin : O
  pub start : Start
  pub log : List LogEntry

-- the state at the start
abbrev pub first_state : Start → State
first_state start = started start.view start.number

-- the state after a log
abbrev pub state : Start → List LogEntry → State
state start log = run (first_state start) log

-- the log with an entry of this call, if something is told
abbrev pub grown : List LogEntry → ℕ → DepotNoted → Option DepotTold → List LogEntry
grown log caller call None = log
grown log caller call (Some reply) = log ++ record { caller = caller; call = call; reply = reply } ∷ []

-- What a depot was started with: a sound view whose names can be counted, which is that of the store.
pub record IsStart (start : Start) : Type 0 where
  pub may : MayStart start.view start.number
  pub few : AreFewer (IsNamed start.view) (2 ^ 32)
  pub mirrors : Told start.objects (λ m. Mirrors m start.view)

-- The depot holds what the machine makes of its start and its log; the log leads from the objects at the start to those
-- of now; the count of faults covers the log's; and each lease and session out has a place of the log.
pub record IsWhole {O : Type 0} (objects : O → Option Objects) (faults : O → ℕ) (start : Start) (body : Body O) : Type 0 where
  pub begun : IsStart start
  pub held : IsOf body.kernel (state start body.log.items)
  pub legal : IsRun (first_state start) body.log.items
  pub leads : Told start.objects (λ m. (n : Objects) × (objects body.origin ≡ Some n) × LeadsTo (first_state start) m body.log.items n)
  pub counted : Covers start.faults body.log.items (faults body.origin)
  pub rising : start.faults ≤ faults body.origin
  pub leases : (state start body.log.items).desk.next_lease ≤ vec_len body.log + 1
  pub sessions : (state start body.log.items).desk.next_session ≤ vec_len body.log + 1
  pub places : vec_len body.log + places body.kernel ≤ vec_capacity body.log

-- The log has a place for this entry of a caller's call, beside those of what is out afterwards.
abbrev pub HasPlace : {O : Type 0} → Start → Body O → ℕ → DepotCall → DepotReply → LogEntry → Type 0
HasPlace start body c call reply e =
    e.caller ≡ c → DepotStep (state start body.log.items) e.caller call reply → Enters call reply e
    → held (after_entry (state start body.log.items) e) + 1 + vec_len body.log ≤ vec_capacity body.log

-- What a call does: its reply is the machine's, the log has one entry more or the depot is as it was, and it stays whole.
pub record Did {O : Type 0} (objects : O → Option Objects) (faults : O → ℕ) (start : Start) (old new : Body O) (c : ℕ) (call : DepotCall) (reply : DepotReply) : Type 0 where
  pub answers : DepotStep (state start old.log.items) c call reply
  pub logged : MatchBool (is_logged reply) ((e : LogEntry) × (new.log.items ≡ old.log.items ++ e ∷ []) × (e.caller ≡ c) × Enters call reply e × (IsShared call → IsSharedEntry e.call)) (new.log.items ≡ old.log.items)
  pub unlogged : OnFalse (is_logged reply) (Told (objects old.origin) (λ m. objects new.origin ≡ Some m))
  -- what it did to the objects
  pub stored : Told (objects old.origin) (λ m. StoreStep (state start old.log.items) c call reply m (objects new.origin))
  pub never_falls : faults old.origin ≤ faults new.origin
  pub cause : IsFault reply → Rose (faults old.origin) (faults new.origin)
  pub unasked : IsUnasked (state start old.log.items) c call reply → new.origin ≡ old.origin
  pub whole : IsWhole objects faults start new

-- An unlogged reply leaves the log and the objects.
abbrev pub IsUnchanged : {O : Type 0} → (O → Option Objects) → Seen O → Seen O → Type 0
IsUnchanged objects old new =
    (new.start ≡ old.start) × (new.log ≡ old.log) × Told (objects old.origin) (λ m. objects new.origin ≡ Some m)

-- The log leads from objects of which the view at the start is to these objects.
pub record LedTo (start : Start) (m : Objects) (log : List LogEntry) (n : Objects) : Type 0 where
  pub begun : IsStart start
  pub mirrors : Mirrors m start.view
  pub leads : LeadsTo (first_state start) m log n

-- The store's objects are one way out of the doubts after the log. Their view is sound, and all that is owed is homed there.
abbrev pub KeepsStore : Start → List LogEntry → Objects → Type 0
KeepsStore start log n =
    (v : View) × Settles (state start log).known v × Mirrors n v × IsSound v × ((image : List ℕ) → IsOwed (first_state start) log image → IsHomed v image)

-- A depot as it starts over a store: its log is empty, its view is the store's, sound, and its first creation number is
-- above every one found.
pub record IsStarted {O : Type 0} (objects : O → Option Objects) (faults : O → ℕ) (origin : O) (d : Seen O) : Type 0 where
  pub log : d.log ≡ []
  pub told : d.start.objects ≡ objects origin
  pub stays : objects d.origin ≡ objects origin
  pub failed : d.start.faults ≡ faults origin
  pub start : IsStart d.start
  pub few : Told (objects origin) (λ m. HasFewer m (2 ^ 32))
  pub above : IsGreatestNumber d.start.view (d.start.number - 1)

-- A depot as it ends: the log, the puts in doubt and the view are those of its state, the log leads from the objects at the
-- start to those of now, and the faults that it tells of are at most the rise of the store's count. The promises hold of
-- the state, and a store that was sound is sound.
pub record IsEnded {O : Type 0} (objects : O → Option Objects) (faults : O → ℕ) (d : Seen O) (origin : O) (left : Left) (catalog : Catalog) : Type 0 where
  pub store : origin ≡ d.origin
  pub log : left.log ≡ d.log
  pub doubts : left.doubts ≡ map.keys (puts_in_doubt (state d.start d.log).known)
  pub view : catalog.view ≡ (state d.start d.log).known.view
  pub aside : catalog.aside ≡ None
  pub start : IsStart d.start
  pub legal : IsRun (first_state d.start) d.log
  pub leads : Told d.start.objects (λ m. (n : Objects) × (objects d.origin ≡ Some n) × LeadsTo (first_state d.start) m d.log n)
  pub counted : Covers d.start.faults d.log (faults d.origin)
  pub kept : HasParts (state d.start d.log)
  -- the store's keys differ from the view's only at keys in doubt, its view is sound, and what is owed is homed there too
  pub stored : Told d.start.objects (λ m. (n : Objects) × (objects d.origin ≡ Some n) × KeepsStore d.start d.log n)
  pub sound : Told d.start.objects (λ m. HasChunks m → (n : Objects) × (objects d.origin ≡ Some n) × IsSoundStore n)
