use Rattle.std.proofs.Common.{ℕ}
use Rattle.lr_walk.specs.Jobs.{Context}
use Rattle.lr_world.specs.World.{seen, IsWorld}
use Rattle.lr_world.specs.Rounding.{SoFar}
use Rattle.lr_world.proofs.world.World.round.Given as goal

abbrev pub invariant-loop-at : goal.invariant-loop-at
invariant-loop-at g l = record {
  is : (context : Context) (hosts : ℕ) → IsWorld context hosts (seen l.fn.self) → IsWorld context hosts (seen l.self);
  so : SoFar g.O.Origin.objects g.O.Origin.faults (seen l.fn.self) (seen l.self) l.at l.moved;
}
