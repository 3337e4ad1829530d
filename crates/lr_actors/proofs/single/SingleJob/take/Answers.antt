use Rattle.lr_actors.specs.Asked.{seen_reply}
use Rattle.lr_actors.proofs.OneCall.{takes_more}
use Rattle.lr_actors.proofs.single.SingleJob.take.Goals as goal

pub returns-clause-stands : goal.returns-clause-stands
returns-clause-stands c = λ steps more adds stands.
    takes_more c.args.self.now c.end_by.new.self (seen_reply c.args.reply) steps more c.end_by.ensures.single c.requires.admitted c.end_by.ensures.next adds stands
