use Rattle.lr_stripe.proofs.Rebuilt.{codeword}
use Rattle.lr_stripe.proofs.laws.stripes_are_a_codeword.Goals as goal

pub returns : goal.returns
returns c = codeword
