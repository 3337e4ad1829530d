-- One turn of an actor, by its place.
use Rattle.std.specs.Prelude.{◌≡◌, ◌≢◌, ◌⊎◌, ◌≤◌, ◌<◌, ℕ, Bool, true, false, Option, Some, None, IsSome, slice_get, ⊤}
use Rattle.lr_walk.specs.Steps.{Reply}
use Rattle.lr_origin.specs.Objects.{Objects as Stored}
use Rattle.lr_walk.specs.Jobs.{Context}
use Rattle.lr_actors.specs.Actor as actor
use Rattle.lr_actors.specs.Actor.{Now, works, idles, reaps, over}
use Rattle.lr_replies.specs.Objects.{Objects}
use Rattle.lr_world.specs.declared.world.World.{World}
use Rattle.lr_world.specs.declared.world.Turn.{Turn}
use Rattle.lr_world.specs.declared.world.Turn.TheVariants as turn
use Rattle.lr_world.specs.declared.world.Stepped.{Stepped}
use Rattle.lr_world.specs.declared.world.Stepped.TheVariants as stepped
use Rattle.lr_world.specs.World.{Seen, seen, objects_of, cast_of, HasCalls, claim_out, IsWorld, StepsNow, weight_of}

-- some context is the world's
abbrev pub IsSomeWorld : {O : Type 0} → World O → Type 0
IsSomeWorld w = (context : Context) × (hosts : ℕ) × IsWorld context hosts (seen w)

abbrev pub turn_of : Now → Turn
turn_of over = turn.Ended
turn_of idles = turn.Idle
turn_of now = turn.Event

-- The actor at this place took its turn. The reply, if there was one, is one of these.
abbrev pub TurnedBy : {O : Type 0} → (O → Option Stored) → (O → ℕ) → (Reply → Type 0) → Seen O → ℕ → Turn → Seen O → Type 0
TurnedBy objects faults allows old i t new =
    (a : actor.Seen) × (slice_get old.actors i ≡ Some a) × (t ≡ turn_of a.now) × StepsNow objects faults allows a.now old i a new

abbrev pub Turned : {O : Type 0} → (O → Option Stored) → (O → ℕ) → Seen O → ℕ → Turn → Seen O → Type 0
Turned objects faults old i t new = TurnedBy objects faults (λ reply. ⊤) old i t new

-- what a step tells of a turn
abbrev pub stepped_of : Turn → Stepped
stepped_of turn.Event = stepped.Event
stepped_of t = stepped.Idle

-- the actor has not ended
abbrev pub goes_on : Turn → Bool
goes_on turn.Ended = false
goes_on t = true

-- The actor has no claim out, and another one has.
pub record Waits (w : Objects) (number : ℕ) : Type 0 where
  pub none : (host : ℕ) → claim_out w number host ≡ None
  pub holder : ℕ
  pub host : ℕ
  pub other : holder ≢ number
  pub holds : IsSome (claim_out w holder host)

-- The reply was Busy: nothing but the actor changed, and it waits for another one.
pub record IsBusy {O : Type 0} (old : Seen O) (i : ℕ) (new : Seen O) : Type 0 where
  pub number : ℕ
  pub waits : Waits (objects_of old) number
  pub calls : HasCalls (cast_of old)
  pub same : objects_of new ≡ objects_of old
  pub weight : weight_of new ≤ weight_of old
  pub is : (a : actor.Seen) → slice_get old.actors i ≡ Some a → a.number ≡ number

-- A turn lowers the weight, or the reply was Busy.
abbrev pub Goes : {O : Type 0} → Turn → Seen O → ℕ → Seen O → Type 0
Goes turn.Ended old i new = new ≡ old
Goes t old i new = (weight_of new < weight_of old) ⊎ IsBusy old i new

-- Where some job is a device call, no caller but the actor at this place has a claim out.
abbrev pub IsAlone : {O : Type 0} → Seen O → ℕ → Type 0
IsAlone w i = HasCalls (cast_of w) → (a : actor.Seen) → slice_get w.actors i ≡ Some a → (other : ℕ) → other ≢ a.number → (host : ℕ) → claim_out (objects_of w) other host ≡ None

-- A turn of it lowers the weight.
abbrev pub Falls : {O : Type 0} → Turn → Seen O → Seen O → Type 0
Falls turn.Ended old new = new ≡ old
Falls t old new = weight_of new < weight_of old

-- The actors at other places are as they were.
abbrev pub LeavesActors : {O : Type 0} → ℕ → Seen O → Seen O → Type 0
LeavesActors i old new = (j : ℕ) → j ≢ i → slice_get new.actors j ≡ slice_get old.actors j

-- The actor at this place has ended.
abbrev pub IsOverAt : {O : Type 0} → Seen O → ℕ → Type 0
IsOverAt w i = (a : actor.Seen) → slice_get w.actors i ≡ Some a → a.now ≡ over
