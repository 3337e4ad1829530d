use Rattle.lr_actors.specs.Asked.{seen_reply}
use Rattle.lr_actors.proofs.Runs.{went_forge}
use Rattle.lr_actors.proofs.running.take_forge.Goals as goal

pub returns : goal.returns
returns c = went_forge c.args.job c.take.new.self (seen_reply c.args.reply) c.take.ensures.target c.take.ensures.ready c.take.ensures.stands c.take.ensures.nears
