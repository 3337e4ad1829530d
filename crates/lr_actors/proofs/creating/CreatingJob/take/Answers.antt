use Rattle.lr_actors.proofs.creating.CreatingJob.take.Goals as goal

pub returns-clause-stands : goal.returns-clause-stands
returns-clause-stands c = rw (← c.self.view_is) (λ steps more adds stands. c.go_on-self-inside.ensures.stands steps more adds stands)

pub returns-clause-nears : goal.returns-clause-nears
returns-clause-nears c = rw (← c.self.view_is) c.go_on-self-inside.ensures.nears
