use Rattle.lr_desk.proofs.Walking.{made_of, made_cause, made_read_fault}
use Rattle.lr_desk.proofs.running.created.Goals as goal

pub returns-clause-walk : goal.returns-clause-walk
returns-clause-walk g c =
    made_of g.O.Origin.objects g.O.Origin.faults c.args.depot.now c.create-created.new.depot c.args.image c.args.tenant (g.I.Source.left c.args.source.now) (g.I.Source.left c.create-created.new.source) c.requires.fresh
    c.create-created.result c.of_creation.result c.create-created.ensures.created c.of_creation.ensures

pub returns-clause-start : goal.returns-clause-start
returns-clause-start g c = c.create-created.ensures.created.calls.start

pub returns-clause-never_falls : goal.returns-clause-never_falls
returns-clause-never_falls g c = c.create-created.ensures.created.calls.never_falls

pub returns-clause-cause : goal.returns-clause-cause
returns-clause-cause g c =
    made_cause g.O.Origin.objects g.O.Origin.faults c.args.depot.now c.create-created.new.depot c.args.image c.args.tenant (g.I.Source.left c.args.source.now) (g.I.Source.left c.create-created.new.source) c.requires.fresh
    c.create-created.result c.of_creation.result c.create-created.ensures.created c.of_creation.ensures

pub returns-clause-read_fault : goal.returns-clause-read_fault
returns-clause-read_fault g c = made_read_fault c.create-created.result c.of_creation.result _ c.of_creation.ensures c.create-created.ensures.read_fault
