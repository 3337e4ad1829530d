use Rattle.lr_actors.specs.Jobs.{seen_context}
use Rattle.lr_actors.specs.Places.{seen_place}
use Rattle.lr_actors.proofs.Begins.{begun_call}
use Rattle.lr_actors.proofs.begin.begin_call.Goals as goal

pub returns : goal.returns
returns c = begun_call (seen_context c.args.context.now) c.args.device (seen_place c.place_at-place.result.now) c.args.call c.new-job.result c.place_at-place.ensures c.new-job.ensures.work c.new-job.ensures.need c.new-job.ensures.ready c.new-job.ensures.stands

pub new-job-requires-clause-keys : goal.new-job-requires-clause-keys
new-job-requires-clause-keys c = c.requires.context.keys c.args.device (seen_place c.place_at-place.result.now) c.place_at-place.ensures
