use Rattle.std.proofs.Common.{ap}
use Rattle.lr_desk.specs.Words.{words_of}
use Rattle.lr_desk.proofs.running.made.Goals as goal

pub returns-in-Rotate-clause-walk : goal.returns-in-Rotate-clause-walk
returns-in-Rotate-clause-walk g c = rw c.in-Rotate.is c.collected.ensures.walk

pub returns-in-Migrate-clause-walk : goal.returns-in-Migrate-clause-walk
returns-in-Migrate-clause-walk g c = rw c.in-Migrate.is c.moved.ensures.walk

pub returns-in-Withdraw-clause-walk : goal.returns-in-Withdraw-clause-walk
returns-in-Withdraw-clause-walk g c = rw c.in-Withdraw.is c.collected-in-Withdraw.ensures.walk

pub returns-in-Create-clause-walk : goal.returns-in-Create-clause-walk
returns-in-Create-clause-walk g c = rw c.in-Create.is c.created.ensures.walk

pub returns-in-Create-clause-unread : goal.returns-in-Create-clause-unread
returns-in-Create-clause-unread g c = λ other. absurd (other (c.in-Create.image, c.in-Create.tenant, ap words_of c.in-Create.is))

pub returns-in-Cat-clause-walk : goal.returns-in-Cat-clause-walk
returns-in-Cat-clause-walk g c = rw c.in-Cat.is (c.read_back.ensures.walk (g.I.Source.left c.args.source.now) (g.I.Source.left c.args.source.now))

pub returns-in-Roots-clause-walk : goal.returns-in-Roots-clause-walk
returns-in-Roots-clause-walk g c = rw c.in-Roots.is (c.listed.ensures.walk (g.I.Source.left c.args.source.now) (g.I.Source.left c.args.source.now))
