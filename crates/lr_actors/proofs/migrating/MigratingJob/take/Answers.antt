use Rattle.std.proofs.Common.{subst, sym}
use Rattle.lr_walk.specs.Depot as depots
use Rattle.lr_walk.specs.Steps.{Reply}
use Rattle.lr_migrator.specs.Progress.{Progress}
use Rattle.lr_actors.specs.Asked.{seen_reply}
use Rattle.lr_actors.proofs.Bounds.{migration_nears}
use Rattle.lr_actors.proofs.Migrated.{Takes, takes_more}
use Rattle.lr_actors.specs.Migrating.{Admits}
use Rattle.lr_actors.proofs.migrating.MigratingJob.take.Goals as goal

pub returns-clause-stands : goal.returns-clause-stands
returns-clause-stands c =
    rw (← c.self.view_is) (λ steps more adds stands.
    takes_more c.self.inside.migrate c.take.new.self (seen_reply c.args.reply) (subst (λ (p : Progress). Admits p (seen_reply c.args.reply)) (sym c.self.view_is) c.requires.admitted)
    (subst (λ (r : Reply). Takes c.self.inside.migrate c.take.new.self r) c.of_depot-reply.ensures (λ own s. c.take.ensures.stands own s)) steps more adds stands)

pub returns-clause-nears : goal.returns-clause-nears
returns-clause-nears c =
    rw (← c.self.view_is)
    (migration_nears c.self.inside.migrate c.take.new.self.need (depots.seen_reply c.of_depot-reply.result)
    (subst (λ (r : Reply). Admits c.self.inside.migrate r) (sym c.of_depot-reply.ensures) (subst (λ (p : Progress). Admits p (seen_reply c.args.reply)) (sym c.self.view_is) c.requires.admitted))
    c.few_chunks.ensures c.take.ensures.next)
