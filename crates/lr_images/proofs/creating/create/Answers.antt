use Rattle.std.proofs.Common.{[], refl}
use Rattle.lr_creator.specs.Seen.{seen_end}
use Rattle.lr_images.proofs.Driving.{begun_raw}
use Rattle.lr_images.proofs.Creations.{drives_new, begun_under_way, begun_given, refused_at_first, creation_begun}
use Rattle.lr_images.proofs.creating.create.Goals as goal

pub returns-in-Some-clause-created : goal.returns-in-Some-clause-created
returns-in-Some-clause-created g c =
    refused_at_first g.O.Origin.faults c.args.depot.now c.run_on.new.depot c.new-machine.result c.args.image c.args.tenant.bytes (g.I.Source.left c.args.source.now) c.answer_of.result (seen_end c.in-Some.end) c.new-machine.ensures.new c.answer_of.ensures.answer c.in-Some.ensures.may
    (c.in-Some.ensures.drives c.args.depot.now [] (drives_new g.O.Origin.faults c.args.depot.now c.new-machine.result c.args.image c.args.tenant.bytes c.new-machine.ensures.new c.new-machine.ensures.stands))

pub read_all-requires-clause-none : goal.read_all-requires-clause-none
read_all-requires-clause-none g c =
    begun_raw c.run_on.new.machine.need (c.in-None.ensures.wants refl) (c.in-None.ensures.given refl 0 (begun_given c.new-machine.result c.args.image c.args.tenant.bytes c.new-machine.ensures.new))

pub returns-clause-created : goal.returns-clause-created
returns-clause-created g c =
    creation_begun g.O.Origin.faults c.args.depot.now c.read_all.new.depot c.new-machine.result c.run_on.new.machine c.args.image c.args.tenant.bytes (g.I.Source.left c.args.source.now) (g.I.Source.left c.read_all.new.source) c.read_all.result
    c.new-machine.ensures.new c.run_on.ensures.same
    (c.read_all.ensures.created c.args.depot.now (g.I.Source.left c.args.source.now)
    (begun_under_way g.O.Origin.faults c.args.depot.now c.run_on.new.depot c.run_on.new.machine (g.I.Source.left c.args.source.now)
    (c.in-None.ensures.drives c.args.depot.now [] (drives_new g.O.Origin.faults c.args.depot.now c.new-machine.result c.args.image c.args.tenant.bytes c.new-machine.ensures.new c.new-machine.ensures.stands))))
