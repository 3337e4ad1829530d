use Rattle.lr_actors.specs.Jobs.{seen_context}
use Rattle.lr_actors.proofs.Begins.{begun_collection}
use Rattle.lr_actors.proofs.begin.begin_collection.Goals as goal

pub returns : goal.returns
returns c = begun_collection (seen_context c.args._context.now) c.args.job c.new.result c.new.ensures.new c.new.ensures.stands
