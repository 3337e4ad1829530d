use Rattle.lr_loader.specs.Seen.{seen_reply, fetched_chunk}
use Rattle.lr_loader.proofs.Walks.{takes_more, nears}
use Rattle.lr_loader.proofs.load.Load.take.Goals as goal

pub returns-clause-stands : goal.returns-clause-stands
returns-clause-stands c = λ steps stands. takes_more c.args.self.now c.go_on.new.self c.args.reply steps c.go_on.ensures.place c.requires.admitted c.go_on.ensures.next stands

pub returns-clause-nears : goal.returns-clause-nears
returns-clause-nears c =
    nears c.args.self.now.place c.args.self.now.need (seen_reply c.args.reply) (fetched_chunk c.args.reply) c.go_on.new.self.need c.requires.admitted c.go_on.ensures.next
