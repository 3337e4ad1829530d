use Rattle.lr_seal.proofs.Remade.{made_denote, denotations_agree}
use Rattle.lr_seal.proofs.laws.made_manifests_denote.Goals as goal

pub returns : goal.returns
returns c = record { made = made_denote; agree = denotations_agree }
