use Rattle.lr_history.proofs.Entries.{planned_commits}
use Rattle.lr_history.proofs.laws.commits_are_planned.Goals as goal

pub returns : goal.returns
returns c = planned_commits
