use Rattle.std.proofs.Common.{subst, sym}
use Rattle.lr_walk.specs.Steps.{Reply}
use Rattle.lr_collector.specs.Progress.{Progress}
use Rattle.lr_actors.specs.Asked.{seen_reply}
use Rattle.lr_actors.proofs.Collected.{Takes, takes_more}
use Rattle.lr_actors.specs.Collecting.{Admits}
use Rattle.lr_actors.proofs.collecting.CollectingJob.take.Goals as goal

pub returns-clause-stands : goal.returns-clause-stands
returns-clause-stands c =
    rw (← c.self.view_is) (λ steps more adds stands.
    takes_more c.self.inside.collect c.take.new.self (seen_reply c.args.reply) (subst (λ (p : Progress). Admits p (seen_reply c.args.reply)) (sym c.self.view_is) c.requires.admitted)
    (subst (λ (r : Reply). Takes c.self.inside.collect c.take.new.self r) c.of_depot.ensures (λ own s. c.take.ensures.stands own s)) steps more adds stands)
