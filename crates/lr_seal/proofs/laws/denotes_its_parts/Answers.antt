use Rattle.lr_seal.proofs.Denoted.{denotes_parts}
use Rattle.lr_seal.proofs.laws.denotes_its_parts.Goals as goal

pub returns : goal.returns
returns c = denotes_parts
