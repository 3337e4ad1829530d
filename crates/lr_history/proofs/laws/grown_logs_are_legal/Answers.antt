use Rattle.lr_history.proofs.Entries.{agrees_with}
use Rattle.lr_history.specs.Premises.{size_of}
use Rattle.lr_history.proofs.laws.grown_logs_are_legal.Goals as goal

pub returns : goal.returns
returns c run grown i d at base long agrees = c.histories_are_legal.ensures (size_of d) d.log (grown i d at) base long (agrees_with base (size_of d) d.log (grown i d at) agrees)
