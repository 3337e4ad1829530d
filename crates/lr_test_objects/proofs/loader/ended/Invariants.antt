use Rattle.std.proofs.Common.{◌≡◌, true}
use Rattle.lr_test_objects.proofs.loader.ended.Given as goal

abbrev pub invariant-steps : goal.invariant-steps
invariant-steps l = l.load.ready ≡ true
