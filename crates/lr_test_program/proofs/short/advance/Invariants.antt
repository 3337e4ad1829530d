use Rattle.std.proofs.Common.{◌≡◌, ℕ}
use Rattle.lr_walk.specs.Jobs.{Context}
use Rattle.lr_world.specs.World.{seen, cast_of, IsWorld}
use Rattle.lr_test_program.proofs.short.advance.Given as goal

abbrev pub invariant-loop : goal.invariant-loop
invariant-loop l = record {
  is : (context : Context) (hosts : ℕ) → IsWorld context hosts (seen l.fn.world) → IsWorld context hosts (seen l.world);
  cast : cast_of (seen l.world) ≡ cast_of (seen l.fn.world);
}
