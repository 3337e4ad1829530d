use Rattle.lr_actors.proofs.creating.CreatingJob.hand_out.Goals as goal

pub returns-clause-ends : goal.returns-clause-ends
returns-clause-ends c = rw (← c.self.view_is) c.next.ensures.walk
