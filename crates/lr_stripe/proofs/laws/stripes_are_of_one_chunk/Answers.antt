use Rattle.lr_stripe.proofs.Chunks.{one_chunk}
use Rattle.lr_stripe.proofs.laws.stripes_are_of_one_chunk.Goals as goal

pub returns : goal.returns
returns c = one_chunk
