use Rattle.std.proofs.Common.{map, bit_and, ◌∙◌}
use Rattle.std.proofs.lemmas.Nat.{and_mask}
use Rattle.std.proofs.lemmas.Simd.{zip2_splat}
use Rattle.lr_stripe.proofs.lanes.low_halves.Goals as goal

pub returns : goal.returns
returns c = zip2_splat bit_and c.args.x 16 15 c.fits-x.0 ∙ (λ i. map (λ b. and_mask b 4 i) c.args.x)
