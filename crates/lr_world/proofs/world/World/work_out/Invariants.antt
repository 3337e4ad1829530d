use Rattle.std.proofs.Common.{◌≡◌, ◌+◌, ℕ, List, false, cond, Some, slice_get}
use Rattle.lr_walk.specs.Jobs.{Context}
use Rattle.lr_actors.specs.Actor as actor
use Rattle.lr_world.specs.World.{seen, IsWorld, cast_of, weight_of}
use Rattle.lr_world.specs.Runs.{Works}
use Rattle.lr_world.specs.Turns.{IsAlone, LeavesActors, IsOverAt}
use Rattle.lr_world.proofs.world.World.work_out.Given as goal

abbrev pub invariant-loop-going : goal.invariant-loop-going
invariant-loop-going g l = record {
  is : (context : Context) (hosts : ℕ) → IsWorld context hosts (seen l.fn.self) → IsWorld context hosts (seen l.self);
  cast : cast_of (seen l.self) ≡ cast_of (seen l.fn.self);
  others : LeavesActors l.at (seen l.fn.self) (seen l.self);
  alone : IsAlone (seen l.self) l.at;
  worked : (a : actor.Seen) → slice_get l.fn.self.actors.items l.at ≡ Some a → (steps : List ℕ) × Works g.O.Origin.objects g.O.Origin.faults a.number (seen l.fn.self) steps (seen l.self);
  done : l.going ≡ false → IsOverAt (seen l.self) l.at;
}

abbrev pub decreases-loop-going : goal.decreases-loop-going
decreases-loop-going g l = weight_of (seen l.self) + cond l.going 1 0
