use Rattle.std.proofs.Common.{◌*◌}
use Rattle.lr_stripe.specs.Lanes.{IsSummed}
use Rattle.lr_stripe.proofs.mix.add_groups.Given as goal

abbrev pub invariant-loop-group : goal.invariant-loop-group
invariant-loop-group l = IsSummed (λ b. b) l.part l.fn.out (16 * l.group) l.out
