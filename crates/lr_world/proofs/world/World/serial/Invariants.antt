use Rattle.std.proofs.Common.{◌≡◌, ◌<◌, ℕ, List, take, Some, slice_get}
use Rattle.lr_walk.specs.Jobs.{Context}
use Rattle.lr_actors.specs.Actor as actor
use Rattle.lr_actors.specs.Actor.{over}
use Rattle.lr_world.specs.World.{seen, objects_of, IsWorld, cast_of, numbers_of, HasCalls, HasNoClaims}
use Rattle.lr_world.specs.Runs.{InTurn}
use Rattle.lr_world.proofs.world.World.serial.Given as goal

abbrev pub invariant-loop-at : goal.invariant-loop-at
invariant-loop-at g l = record {
  is : (context : Context) (hosts : ℕ) → IsWorld context hosts (seen l.fn.self) → IsWorld context hosts (seen l.self);
  cast : cast_of (seen l.self) ≡ cast_of (seen l.fn.self);
  free : HasCalls (cast_of (seen l.self)) → HasNoClaims (objects_of (seen l.self));
  ran : (steps : List ℕ) × InTurn g.O.Origin.objects g.O.Origin.faults (seen l.fn.self) (take l.at (numbers_of (cast_of (seen l.fn.self)))) steps (seen l.self);
  ended : (j : ℕ) (a : actor.Seen) → j < l.at → slice_get l.self.actors.items j ≡ Some a → a.now ≡ over;
}
