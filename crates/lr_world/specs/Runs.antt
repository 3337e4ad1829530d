-- Runs of steps, and in which order a schedule makes them.
use Rattle.std.specs.Prelude.{◌≡◌, ◌≢◌, ◌≤◌, ◌+◌, ◌==◌, ℕ, List, [], ◌∷◌, ◌++◌, length, true, false, cond, replicate, Option, Some, slice_get, ⊤}
use Rattle.std.specs.List.{AllByRecursion}
use Rattle.lr_spec.specs.Rose.{last_count}
use Rattle.lr_object.specs.declared.id.ObjectId.{ObjectId}
use Rattle.lr_object.specs.declared.entry.Entry.{Entry}
use Rattle.lr_object.specs.Kept.{Sized}
use Rattle.lr_origin.specs.Objects.{Objects as Stored}
use Rattle.lr_walk.specs.Calls.{DevicePlace}
use Rattle.lr_script.specs.Seen.{ScheduleSeen, Serial, Rounds, Pairs}
use Rattle.lr_actors.specs.declared.trail.ActorState.TheVariants.{Unfinished}
use Rattle.lr_actors.specs.Actor as actor
use Rattle.lr_actors.specs.Actor.{over}
use Rattle.lr_actors.specs.Jobs.{closes}
use Rattle.lr_replies.specs.Objects.{Objects, own_lists}
use Rattle.lr_replies.specs.Replies.{IsOut}
use Rattle.lr_world.specs.World.{Seen, objects_of, Part, cast_of, IsNumber, HasJob, HasCalls, HasNoClaims, HasNoSession, HoldsNothing, StepsBy, Steps, IsFree}

-- one step after another, by the actors of these numbers
pub data Runs {O : Type 0} (objects : O → Option Stored) (faults : O → ℕ) : Seen O → List ℕ → Seen O → Type 0 where
  none : {w : Seen O} → Runs objects faults w [] w
  more : {old mid new : Seen O} {steps : List ℕ} → Runs objects faults old steps mid → (number : ℕ) → Steps objects faults mid number new → Runs objects faults old (steps ++ number ∷ []) new

-- the actor of this number has ended
abbrev pub HasEnded : {O : Type 0} → Seen O → ℕ → Type 0
HasEnded w number = (i : ℕ) (a : actor.Seen) → slice_get w.actors i ≡ Some a → a.number ≡ number → a.now ≡ over

-- .. and has not
abbrev pub IsGoing : {O : Type 0} → Seen O → ℕ → Type 0
IsGoing w number = (i : ℕ) × (a : actor.Seen) × (slice_get w.actors i ≡ Some a) × (a.number ≡ number) × (a.now ≢ over)

-- all actors have ended
abbrev pub AllEnded : {O : Type 0} → Seen O → Type 0
AllEnded w = (i : ℕ) (a : actor.Seen) → slice_get w.actors i ≡ Some a → a.now ≡ over

-- ---- serial

-- Steps of the actor of one number, none of them after it has ended, and none answered Busy.
pub data Works {O : Type 0} (objects : O → Option Stored) (faults : O → ℕ) (number : ℕ) : Seen O → List ℕ → Seen O → Type 0 where
  begun : {w : Seen O} → Works objects faults number w [] w
  goes : {old mid new : Seen O} {steps : List ℕ} → Works objects faults number old steps mid → IsGoing mid number → StepsBy objects faults IsFree mid number new → Works objects faults number old (steps ++ number ∷ []) new

-- One actor after another, of these numbers, each until it has ended.
pub data InTurn {O : Type 0} (objects : O → Option Stored) (faults : O → ℕ) : Seen O → List ℕ → List ℕ → Seen O → Type 0 where
  begun : {w : Seen O} → InTurn objects faults w [] [] w
  next : {old mid new : Seen O} {numbers steps work : List ℕ} → InTurn objects faults old numbers steps mid → (number : ℕ) → Works objects faults number mid work new → HasEnded new number → InTurn objects faults old (numbers ++ number ∷ []) (steps ++ work) new

-- ---- rounds

-- One step of each actor of these numbers that has not ended.
pub data Round {O : Type 0} (objects : O → Option Stored) (faults : O → ℕ) : Seen O → List ℕ → List ℕ → Seen O → Type 0 where
  begun : {w : Seen O} → Round objects faults w [] [] w
  goes : {old mid new : Seen O} {numbers steps : List ℕ} → Round objects faults old numbers steps mid → (number : ℕ) → IsGoing mid number → Steps objects faults mid number new → Round objects faults old (numbers ++ number ∷ []) (steps ++ number ∷ []) new
  rests : {old mid : Seen O} {numbers steps : List ℕ} → Round objects faults old numbers steps mid → (number : ℕ) → HasEnded mid number → Round objects faults old (numbers ++ number ∷ []) steps mid

-- one round after another
pub data InRounds {O : Type 0} (objects : O → Option Stored) (faults : O → ℕ) (numbers : List ℕ) : Seen O → List ℕ → Seen O → Type 0 where
  begun : {w : Seen O} → InRounds objects faults numbers w [] w
  next : {old mid new : Seen O} {steps round : List ℕ} → InRounds objects faults numbers old steps mid → Round objects faults mid numbers round new → InRounds objects faults numbers old (steps ++ round) new

-- ---- schedules

-- each number so many times
abbrev pub listed : List (ℕ × ℕ) → List ℕ
listed [] = []
listed (p ∷ pairs) = replicate p.1 p.0 ++ listed pairs

-- The steps are those of the schedule, for actors of these numbers.
abbrev pub IsScheduled : {O : Type 0} → (O → Option Stored) → (O → ℕ) → List ℕ → ScheduleSeen → Seen O → List ℕ → Seen O → Type 0
IsScheduled objects faults numbers Serial old steps new = InTurn objects faults old numbers steps new
IsScheduled objects faults numbers Rounds old steps new = InRounds objects faults numbers old steps new
IsScheduled objects faults numbers (Pairs pairs false) old steps new = (steps ≡ listed pairs) × Runs objects faults old (listed pairs) new
IsScheduled {O} objects faults numbers (Pairs pairs true) old steps new =
    (mid : Seen O) × (later : List ℕ) × (steps ≡ listed pairs ++ later) × Runs objects faults old (listed pairs) mid × InRounds objects faults numbers mid later new

-- The schedule names actors of these. One after another, where some job is a device call, they begin with no claim out.
abbrev pub MaySchedule : {O : Type 0} → ScheduleSeen → Seen O → Type 0
MaySchedule Serial w = HasCalls (cast_of w) → HasNoClaims (objects_of w)
MaySchedule Rounds w = ⊤
MaySchedule (Pairs pairs rounds) w = (i : ℕ) (p : ℕ × ℕ) → slice_get pairs i ≡ Some p → IsNumber (cast_of w) p.0

-- It goes on until all have ended.
abbrev pub Ends : {O : Type 0} → ScheduleSeen → Seen O → Type 0
Ends (Pairs pairs false) w = ⊤
Ends schedule w = AllEnded w

-- So no plan, claim or session of an actor is out at the end.
abbrev pub HaveLetGo : {O : Type 0} → ScheduleSeen → Seen O → Type 0
HaveLetGo (Pairs pairs false) w = ⊤
HaveLetGo schedule w = (i : ℕ) (a : actor.Seen) → slice_get w.actors i ≡ Some a → HoldsNothing (objects_of w) a.number

-- how many steps the pairs give to a number
abbrev pub steps_for : ℕ → List (ℕ × ℕ) → ℕ
steps_for number [] = 0
steps_for number (p ∷ pairs) = cond (p.0 == number) p.1 0 + steps_for number pairs

-- An actor that is unfinished after pairs made all the steps that they give it, as long as the number fits.
abbrev pub AreCounted : {O : Type 0} → ScheduleSeen → Seen O → Seen O → Type 0
AreCounted (Pairs pairs false) old new =
    (i : ℕ) (a b : actor.Seen) → slice_get old.actors i ≡ Some a → slice_get new.actors i ≡ Some b → b.state ≡ Unfinished
    → a.steps + steps_for a.number pairs ≤ last_count → b.steps ≡ a.steps + steps_for a.number pairs
AreCounted schedule old new = ⊤

-- ---- what a run leaves

-- The log begins with the old one; what is behind it is of callers that pass.
abbrev pub Gained : {N T : Type 0} → (ℕ → Type 0) → List (Entry N T) → List (Entry N T) → Type 0
Gained {N} {T} passes old new = (later : List (Entry N T)) × (new ≡ old ++ later) × AllByRecursion (λ (e : Entry N T). passes e.caller) later

-- Each object keeps its capacity.
pub record HaveGained {N T : Type 0} (passes : ℕ → Type 0) (old new : List (Sized N T)) : Type 0 where
  pub many : length new ≡ length old
  pub each : (n : ℕ) (s : Sized N T) → slice_get old n ≡ Some s → (t : Sized N T) × (slice_get new n ≡ Some t) × (t.capacity ≡ s.capacity) × Gained passes s.log t.log

-- Objects have only entries more, of these actors; what the depot was started with stays.
pub record Grew (cast : List Part) (old new : Objects) : Type 0 where
  pub devices : HaveGained (IsNumber cast) old.devices new.devices
  pub caches : HaveGained (IsNumber cast) old.caches new.caches
  pub nodes : HaveGained (IsNumber cast) old.nodes new.nodes
  pub start : new.start ≡ old.start
  pub depot : Gained (IsNumber cast) old.depot new.depot

-- What a run leaves: the actors are those that they were; the objects grew; the own lists of other callers stay, and those without a session
-- have none; and where no job is a close, each lease that was out is out.
pub record Left {O : Type 0} (old new : Seen O) : Type 0 where
  pub cast : cast_of new ≡ cast_of old
  pub grew : Grew (cast_of old) (objects_of old) (objects_of new)
  pub others : (caller : ℕ) → ¬ (IsNumber (cast_of old) caller) → (o : ObjectId) → own_lists (objects_of new) caller o ≡ own_lists (objects_of old) caller o
  pub sessions : (caller : ℕ) → ¬ (IsNumber (cast_of old) caller) → HasNoSession (objects_of old) caller → HasNoSession (objects_of new) caller
  pub leases : ((i k device : ℕ) → ¬ (HasJob (cast_of old) i k (closes device))) → (place : DevicePlace) → IsOut (objects_of old) place → IsOut (objects_of new) place
