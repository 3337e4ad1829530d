use Rattle.lr_text.proofs.MaximalRuns.{are_maximal, only_maximal}
use Rattle.lr_text.proofs.bytes.runs_are_maximal.Goals as goal

pub returns-clause-maximal : goal.returns-clause-maximal
returns-clause-maximal c = are_maximal

pub returns-clause-alone : goal.returns-clause-alone
returns-clause-alone c = only_maximal
