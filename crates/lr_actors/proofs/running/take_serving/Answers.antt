use Rattle.lr_actors.specs.Asked.{seen_reply}
use Rattle.lr_actors.specs.Stages.{fetched_chunk}
use Rattle.lr_actors.proofs.Runs.{went_serving}
use Rattle.lr_actors.proofs.running.take_serving.Goals as goal

pub returns : goal.returns
returns c = went_serving c.args.device c.args.job c.take.new.self (seen_reply c.args.reply) (fetched_chunk c.args.reply) c.take.ensures.work c.take.ensures.ready c.take.ensures.stands c.take.ensures.next c.take.ensures.nears
