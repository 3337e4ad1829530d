use Rattle.lr_depot.proofs.depot.DepotObject.apply.Goals as goal

pub invariant_of-self : goal.invariant_of-self
invariant_of-self g c = (c.apply.ensures.did _ c.self.invariant).whole

pub returns-clause-answers : goal.returns-clause-answers
returns-clause-answers g c = rw (← c.self.view_is) ((c.apply.ensures.did _ c.self.invariant).answers)

pub returns-clause-logged : goal.returns-clause-logged
returns-clause-logged g c = rw (← c.self.view_is) ((c.apply.ensures.did _ c.self.invariant).logged)

pub returns-clause-store : goal.returns-clause-store
returns-clause-store g c = rw (← c.self.view_is) ((c.apply.ensures.did _ c.self.invariant).stored)

pub returns-clause-never_falls : goal.returns-clause-never_falls
returns-clause-never_falls g c = rw (← c.self.view_is) ((c.apply.ensures.did _ c.self.invariant).never_falls)

pub returns-clause-cause : goal.returns-clause-cause
returns-clause-cause g c = rw (← c.self.view_is) ((c.apply.ensures.did _ c.self.invariant).cause)

pub returns-clause-unasked : goal.returns-clause-unasked
returns-clause-unasked g c = rw (← c.self.view_is) ((c.apply.ensures.did _ c.self.invariant).unasked)
