-- A round, as far as it has come.
use Rattle.std.specs.Prelude.{◌≡◌, ◌⊎◌, ◌<◌, ◌≤◌, ℕ, List, take, Bool, true, false, Option, Some, slice_get}
use Rattle.lr_origin.specs.Objects.{Objects as Stored}
use Rattle.lr_actors.specs.Actor as actor
use Rattle.lr_actors.specs.Actor.{over}
use Rattle.lr_world.specs.World.{Seen, objects_of, cast_of, numbers_of, HasCalls, weight_of}
use Rattle.lr_world.specs.Runs.{Round}
use Rattle.lr_world.specs.Turns.{Waits}

-- The weight has not fallen: each of the first so many actors has ended or waits, and one of them waits where some made a step.
pub record Stalled {O : Type 0} (start now : Seen O) (n : ℕ) (moved : Bool) : Type 0 where
  pub same : objects_of now ≡ objects_of start
  pub weight : weight_of now ≤ weight_of start
  pub each : (j : ℕ) (a : actor.Seen) → j < n → slice_get now.actors j ≡ Some a → (a.now ≡ over) ⊎ Waits (objects_of now) a.number
  pub some : moved ≡ true → HasCalls (cast_of now) × (number : ℕ) × Waits (objects_of now) number

-- The first so many actors have had their turn. While none made a step, all of them have ended.
pub record SoFar {O : Type 0} (objects : O → Option Stored) (faults : O → ℕ) (start now : Seen O) (n : ℕ) (moved : Bool) : Type 0 where
  pub cast : cast_of now ≡ cast_of start
  pub steps : List ℕ
  pub ran : Round objects faults start (take n (numbers_of (cast_of start))) steps now
  pub still : moved ≡ false → (now ≡ start) × ((j : ℕ) (a : actor.Seen) → j < n → slice_get now.actors j ≡ Some a → a.now ≡ over)
  pub less : (weight_of now < weight_of start) ⊎ Stalled start now n moved
