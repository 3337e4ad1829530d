use Rattle.lr_actors.specs.Asked.{seen_reply}
use Rattle.lr_actors.specs.Stages.{fetched_chunk}
use Rattle.lr_actors.proofs.Served.{takes_more, nears}
use Rattle.lr_actors.proofs.serving.DeviceJob.take.Goals as goal

pub returns-clause-stands : goal.returns-clause-stands
returns-clause-stands c = λ steps more adds stands.
    takes_more c.args.self.now c.go_on.new.self c.args.reply steps more c.go_on.ensures.work c.requires.admitted c.go_on.ensures.next adds stands

pub returns-clause-nears : goal.returns-clause-nears
returns-clause-nears c =
    nears c.args.self.now.work c.args.self.now.need (seen_reply c.args.reply) (fetched_chunk c.args.reply) c.go_on.new.self.need c.requires.admitted c.go_on.ensures.few c.go_on.ensures.next
