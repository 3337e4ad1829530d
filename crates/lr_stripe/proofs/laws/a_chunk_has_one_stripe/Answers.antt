use Rattle.lr_stripe.proofs.Chunks.{one_stripe}
use Rattle.lr_stripe.proofs.laws.a_chunk_has_one_stripe.Goals as goal

pub returns : goal.returns
returns c = one_stripe
