use Rattle.lr_walk.specs.Depot.{seen_reply}
use Rattle.lr_migrator.proofs.Migrations.{takes_more}
use Rattle.lr_migrator.proofs.migrate.Migrate.take.Goals as goal

pub returns-clause-stands : goal.returns-clause-stands
returns-clause-stands c = λ steps stands. takes_more c.args.self.now c.go_on.new.self (seen_reply c.args.reply) c.go_on.ensures.same c.requires.admitted c.go_on.ensures.next steps stands
