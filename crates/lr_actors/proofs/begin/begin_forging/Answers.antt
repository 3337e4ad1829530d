use Rattle.std.proofs.Common.{refl}
use Rattle.lr_actors.specs.Jobs.{forges}
use Rattle.lr_actors.specs.Jobs.{seen_context}
use Rattle.lr_actors.specs.Places.{seen_place}
use Rattle.lr_actors.proofs.Begins.{begun_forging, begun_past}
use Rattle.lr_actors.proofs.begin.begin_forging.Goals as goal

pub returns-in-Some : goal.returns-in-Some
returns-in-Some c = begun_forging (seen_context c.args.context.now) c.args.device c.args.chunk (seen_place c.place_at-place.result.now) c.in-Some.name c.new-job.result c.place_at-place.ensures c.in-Some.ensures c.new-job.ensures.target c.new-job.ensures.begins c.new-job.ensures.ready c.new-job.ensures.stands

pub returns-in-None : goal.returns-in-None
returns-in-None c = begun_past (seen_context c.args.context.now) c.args.device c.args.chunk (seen_place c.place_at-place.result.now) (forges c.args.device c.args.chunk) c.place_at-place.ensures c.in-None.ensures (refl, refl)
