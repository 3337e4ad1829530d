use Rattle.std.proofs.Common.{◌-◌, refl, length}
use Rattle.lr_actors.specs.Bounds.{chunks}
use Rattle.lr_actors.proofs.Bounds.{last_left}
use Rattle.lr_actors.proofs.Created.{gave_last, no_more_finished}
use Rattle.lr_actors.proofs.Steady.{last_fed, last_steady}
use Rattle.lr_actors.proofs.creating.give_last.Goals as goal

pub returns-clause-steady : goal.returns-clause-steady
returns-clause-steady c = last_steady _ c.last.new.self c.last.ensures.finished c.requires.steady

pub returns-clause-fed : goal.returns-clause-fed
returns-clause-fed c = last_fed c.args.create.now c.last.new.self.need c.last.ensures.finished

pub returns-clause-stands : goal.returns-clause-stands
returns-clause-stands c =
    gave_last (record { create = c.args.create.now; raw = c.args.raw.now; given = c.args.given }) (record { create = c.last.new.self; raw = c.args.raw.now; given = c.args.given }) refl c.requires.all
    (no_more_finished c.args.create.now c.last.new.self.need c.last.ensures.finished) c.last.ensures.stands c.requires.wants

pub returns-clause-nears : goal.returns-clause-nears
returns-clause-nears c = last_left c.args.create.now c.last.new.self.need (chunks (length c.args.raw.now - c.args.given)) c.last.ensures.finished
