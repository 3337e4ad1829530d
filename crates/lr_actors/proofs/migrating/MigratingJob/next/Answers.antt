use Rattle.lr_actors.proofs.Migrated.{is_walk, is_front}
use Rattle.lr_actors.proofs.migrating.MigratingJob.next.Goals as goal

pub returns-clause-walk : goal.returns-clause-walk
returns-clause-walk c = rw (← c.self.view_is) (λ steps answer e stands. is_walk c.self.inside.migrate c.next.ensures.walk steps answer e stands)

pub returns-clause-front : goal.returns-clause-front
returns-clause-front c = rw (← c.self.view_is) (λ steps more reply a adds stands. is_front c.self.inside.migrate c.next.ensures.front steps more reply a adds stands)
