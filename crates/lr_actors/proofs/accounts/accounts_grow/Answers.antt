use Rattle.lr_actors.proofs.Accounted.{stands_more, at_more, at_busy}
use Rattle.lr_actors.proofs.accounts.accounts_grow.Goals as goal

pub returns-clause-more : goal.returns-clause-more
returns-clause-more c = stands_more

pub returns-clause-under_way : goal.returns-clause-under_way
returns-clause-under_way c = at_more

pub returns-clause-busy : goal.returns-clause-busy
returns-clause-busy c = at_busy
