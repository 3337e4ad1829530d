use Rattle.std.proofs.Common.{sym, subst, ◌+◌, ◌≤◌}
use Rattle.lr_actors.specs.Asked.{seen_reply}
use Rattle.lr_actors.specs.Forging.{Need, steps_left}
use Rattle.lr_actors.proofs.Forgings.{takes_more, nears}
use Rattle.lr_actors.proofs.forge.ForgeJob.take.Goals as goal

pub returns-clause-stands : goal.returns-clause-stands
returns-clause-stands c = λ steps more adds stands.
    takes_more c.args.self.now c.go_on.new.self (seen_reply c.args.reply) steps more c.go_on.ensures.target c.requires.admitted c.go_on.ensures.next adds stands

pub returns-clause-nears : goal.returns-clause-nears
returns-clause-nears c =
    subst (λ (q : Need). steps_left q + 1 ≤ steps_left c.args.self.now.need) (sym c.go_on.ensures.next) (nears c.args.self.now.need (seen_reply c.args.reply) c.requires.admitted)
