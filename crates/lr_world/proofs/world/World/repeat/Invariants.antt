use Rattle.std.proofs.Common.{◌≡◌, ℕ}
use Rattle.std.specs.Prelude.{replicate}
use Rattle.lr_walk.specs.Jobs.{Context}
use Rattle.lr_world.specs.World.{seen, IsWorld, cast_of}
use Rattle.lr_world.specs.Runs.{Runs}
use Rattle.lr_world.proofs.world.World.repeat.Given as goal

abbrev pub invariant-loop : goal.invariant-loop
invariant-loop g l = record {
  is : (context : Context) (hosts : ℕ) → IsWorld context hosts (seen l.fn.self) → IsWorld context hosts (seen l.self);
  ran : Runs g.O.Origin.objects g.O.Origin.faults (seen l.fn.self) (replicate l.counter l.actor) (seen l.self);
  cast : cast_of (seen l.self) ≡ cast_of (seen l.fn.self);
}
