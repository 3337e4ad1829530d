use Rattle.lr_history.proofs.Fetches.{fetches_few}
use Rattle.lr_history.proofs.Uncrashed.{fetches_few_uncrashed}
use Rattle.lr_history.proofs.laws.fetches_are_few.Goals as goal

pub returns : goal.returns
returns c = record { kept = fetches_few; uncrashed = fetches_few_uncrashed }
