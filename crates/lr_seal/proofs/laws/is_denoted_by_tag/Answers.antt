use Rattle.lr_seal.proofs.Denoted.{by_tag}
use Rattle.lr_seal.proofs.laws.is_denoted_by_tag.Goals as goal

pub returns : goal.returns
returns c = by_tag
