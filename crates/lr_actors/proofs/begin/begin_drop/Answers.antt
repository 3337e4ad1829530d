use Rattle.std.proofs.Common.{arith, refl}
use Rattle.lr_actors.specs.declared.single.Single.TheVariants.{Drop}
use Rattle.lr_actors.specs.Jobs.{drops_stripe}
use Rattle.lr_actors.specs.Jobs.{seen_context}
use Rattle.lr_actors.specs.Places.{seen_place}
use Rattle.lr_actors.proofs.Begins.{begun_single, begun_drop, task_drop, begun_past}
use Rattle.lr_actors.proofs.begin.begin_drop.Goals as goal

pub returns-in-Some : goal.returns-in-Some
returns-in-Some c =
    begun_single (seen_context c.args.context.now) (drops_stripe c.args.index c.args.device c.args.chunk) (Drop c.place-node.result c.in-Some.name c.args.index) c.new-job.result c.new-job.ensures.new c.new-job.ensures.stands
    (task_drop (seen_context c.args.context.now) c.args.device c.args.index c.args.chunk (seen_place c.place_at-place.result.now) c.in-Some.name c.place-node.result c.place_at-place.ensures c.in-Some.ensures c.place-node.ensures.node) (omega arith)
    (begun_drop (seen_context c.args.context.now) c.args.device c.args.index c.args.chunk (seen_place c.place_at-place.result.now) c.in-Some.name c.place-node.result c.place_at-place.ensures c.in-Some.ensures c.place-node.ensures.node)

pub returns-in-None : goal.returns-in-None
returns-in-None c = begun_past (seen_context c.args.context.now) c.args.device c.args.chunk (seen_place c.place_at-place.result.now) (drops_stripe c.args.index c.args.device c.args.chunk) c.place_at-place.ensures c.in-None.ensures (refl, refl)
