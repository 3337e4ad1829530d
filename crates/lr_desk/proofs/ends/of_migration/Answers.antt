use Rattle.lr_desk.proofs.ends.of_migration.Goals as goal

pub returns-in-Other : goal.returns-in-Other
returns-in-Other c = rw c.in-Other.is c.of_reply.ensures
