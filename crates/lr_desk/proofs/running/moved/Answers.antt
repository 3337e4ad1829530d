use Rattle.lr_migrator.specs.Seen.{seen_end}
use Rattle.lr_desk.proofs.Walking.{migration_fault, migration_read, moved_of}
use Rattle.lr_desk.proofs.running.moved.Goals as goal

pub returns-clause-walk : goal.returns-clause-walk
returns-clause-walk g c =
    moved_of c.args.image c.args.depot.now.log c.migrate-end.new.depot.log (seen_end c.migrate-end.result) c.of_migration.result c.requires.fresh c.migrate-end.ensures.walk c.of_migration.ensures

pub returns-clause-cause : goal.returns-clause-cause
returns-clause-cause g c =
    migration_fault (seen_end c.migrate-end.result) c.of_migration.result (g.O.Origin.faults c.args.depot.now.origin) (g.O.Origin.faults c.migrate-end.new.depot.origin) c.of_migration.ensures c.migrate-end.ensures.cause

pub returns-clause-read : goal.returns-clause-read
returns-clause-read g c = λ e. migration_read (seen_end c.migrate-end.result) c.of_migration.result c.of_migration.ensures e
