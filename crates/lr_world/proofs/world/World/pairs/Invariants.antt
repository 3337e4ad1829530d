use Rattle.std.proofs.Common.{◌≡◌, ℕ, take}
use Rattle.lr_walk.specs.Jobs.{Context}
use Rattle.lr_world.specs.World.{seen, IsWorld, cast_of}
use Rattle.lr_world.specs.Runs.{Runs, listed}
use Rattle.lr_world.proofs.world.World.pairs.Given as goal

abbrev pub invariant-loop-pair : goal.invariant-loop-pair
invariant-loop-pair g l = record {
  is : (context : Context) (hosts : ℕ) → IsWorld context hosts (seen l.fn.self) → IsWorld context hosts (seen l.self);
  ran : Runs g.O.Origin.objects g.O.Origin.faults (seen l.fn.self) (listed (take l.pair-index l.pairs)) (seen l.self);
  cast : cast_of (seen l.self) ≡ cast_of (seen l.fn.self);
}
