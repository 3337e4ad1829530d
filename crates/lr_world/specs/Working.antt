-- The work of one actor until it has ended.
use Rattle.std.specs.Prelude.{◌≡◌, ℕ, List, Option, Some, slice_get}
use Rattle.lr_origin.specs.Objects.{Objects as Stored}
use Rattle.lr_actors.specs.Actor as actor
use Rattle.lr_actors.specs.Actor.{over}
use Rattle.lr_world.specs.World.{Seen, cast_of}
use Rattle.lr_world.specs.Runs.{Works}
use Rattle.lr_world.specs.Turns.{IsAlone, LeavesActors, IsOverAt}

-- The actor at this place worked until it had ended.
pub record WorkedOut {O : Type 0} (objects : O → Option Stored) (faults : O → ℕ) (i : ℕ) (old new : Seen O) : Type 0 where
  pub worker : actor.Seen
  pub at : slice_get old.actors i ≡ Some worker
  pub steps : List ℕ
  pub works : Works objects faults worker.number old steps new
  pub ended : IsOverAt new i
  pub alone : IsAlone new i
  pub cast : cast_of new ≡ cast_of old
  pub others : LeavesActors i old new
