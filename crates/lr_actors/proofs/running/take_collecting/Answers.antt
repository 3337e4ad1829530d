use Rattle.lr_actors.specs.Asked.{seen_reply}
use Rattle.lr_actors.proofs.Runs.{went_collecting}
use Rattle.lr_actors.proofs.running.take_collecting.Goals as goal

pub returns : goal.returns
returns c = went_collecting c.args.job c.take.new.self (seen_reply c.args.reply) c.take.ensures.job c.take.ensures.ready c.take.ensures.stands c.requires.admitted c.take.ensures.next
