use Rattle.std.proofs.Common.{sym, subst}
use Rattle.lr_roots.specs.Catalog.{Seen as Catalog}
use Rattle.lr_depot.specs.Depot.{IsEnded}
use Rattle.lr_top.specs.declared.outcome.RunRecord.{RunRecord}
use Rattle.lr_top.specs.Top.{IfCommand}
use Rattle.lr_top.proofs.playing.stopped.Goals as goal

pub returns-clause-ended : goal.returns-clause-ended
returns-clause-ended g c =
    let e = c.end-origin in
    let ended = subst (λ o. IsEnded g.O.Origin.objects g.O.Origin.faults c.args.depot o e.result.1 e.result.2) (sym c.ends.ensures.origin) e.ensures.ended in
    subst (λ (q : RunRecord). IfCommand q (λ left. (catalog : Catalog) × IsEnded g.O.Origin.objects g.O.Origin.faults c.args.depot c.ends.result.origin left catalog)) (sym c.ends.ensures.run) (e.result.2, ended)
