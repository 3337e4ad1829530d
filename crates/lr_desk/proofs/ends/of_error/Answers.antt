use Rattle.lr_desk.proofs.ends.of_error.Goals as goal

pub returns-in-Refused : goal.returns-in-Refused
returns-in-Refused c = rw c.in-Refused.is c.outcome_of_refusal.ensures
