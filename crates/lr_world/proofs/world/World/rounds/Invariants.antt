use Rattle.std.proofs.Common.{◌≡◌, ◌+◌, ℕ, List, false, cond}
use Rattle.lr_walk.specs.Jobs.{Context}
use Rattle.lr_world.specs.World.{seen, IsWorld, cast_of, numbers_of, weight_of}
use Rattle.lr_world.specs.Runs.{InRounds, AllEnded}
use Rattle.lr_world.proofs.world.World.rounds.Given as goal

abbrev pub invariant-loop-going : goal.invariant-loop-going
invariant-loop-going g l = record {
  is : (context : Context) (hosts : ℕ) → IsWorld context hosts (seen l.fn.self) → IsWorld context hosts (seen l.self);
  cast : cast_of (seen l.self) ≡ cast_of (seen l.fn.self);
  ran : (steps : List ℕ) × InRounds g.O.Origin.objects g.O.Origin.faults (numbers_of (cast_of (seen l.fn.self))) (seen l.fn.self) steps (seen l.self);
  done : l.going ≡ false → AllEnded (seen l.self);
}

abbrev pub decreases-loop-going : goal.decreases-loop-going
decreases-loop-going g l = weight_of (seen l.self) + cond l.going 1 0
