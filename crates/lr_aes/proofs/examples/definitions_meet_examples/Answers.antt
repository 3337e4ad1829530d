use Rattle.lr_aes.proofs.ExampleFacts.{meets}
use Rattle.lr_aes.proofs.examples.definitions_meet_examples.Goals as goal

pub returns : goal.returns
returns c = meets
