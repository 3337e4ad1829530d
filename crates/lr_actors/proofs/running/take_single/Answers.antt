use Rattle.lr_actors.specs.Asked.{seen_reply}
use Rattle.lr_actors.proofs.Runs.{went_single}
use Rattle.lr_actors.proofs.running.take_single.Goals as goal

pub returns : goal.returns
returns c = went_single c.args.job c.take.new.self (seen_reply c.args.reply) c.take.ensures.single c.take.ensures.ready c.take.ensures.stands c.take.ensures.nears
