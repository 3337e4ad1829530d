use Rattle.lr_desk.proofs.Sharing.{equal_share}
use Rattle.lr_desk.proofs.laws.equal_chunks_share_a_key.Goals as goal

pub returns : goal.returns
returns c = equal_share
