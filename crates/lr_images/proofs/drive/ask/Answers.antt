use Rattle.lr_creator.specs.Seen.{seen_end}
use Rattle.lr_images.proofs.Driving.{falls, gives_on, may_on, may_end, drives_same, ended_at}
use Rattle.lr_images.proofs.drive.ask.Goals as goal

pub returns-in-Depot-clause-falls : goal.returns-in-Depot-clause-falls
returns-in-Depot-clause-falls g c = λ _. falls c.args.machine.now.need c.next.new.self.need c.call.new.machine.need c.call.ensures.turned.0 c.next.ensures.waits c.call.ensures.turned.1 c.call.ensures.turned.2

pub returns-in-Depot-clause-given : goal.returns-in-Depot-clause-given
returns-in-Depot-clause-given g c = λ _ n h. gives_on c.args.machine.now.need c.next.new.self.need c.call.new.machine.need c.call.ensures.turned.0 c.next.ensures.waits c.call.ensures.turned.1 c.call.ensures.turned.2 n h

pub returns-in-Depot-clause-may : goal.returns-in-Depot-clause-may
returns-in-Depot-clause-may g c = λ end m. may_on c.args.machine.now.need c.next.new.self.need c.call.new.machine.need c.call.ensures.turned.0 c.next.ensures.waits c.call.ensures.turned.1 end m

pub returns-in-Depot-clause-drives : goal.returns-in-Depot-clause-drives
returns-in-Depot-clause-drives g c = λ base given d.
    c.call.ensures.turned.3 base given (drives_same g.O.Origin.faults base c.args.depot.now c.args.machine.now c.next.new.self given c.next.ensures.same c.next.ensures.waits d)

pub returns-in-End-clause-may : goal.returns-in-End-clause-may
returns-in-End-clause-may g c = may_end c.args.machine.now.need (seen_end c.in-End.end) c.in-End.ensures.asked

pub returns-in-End-clause-drives : goal.returns-in-End-clause-drives
returns-in-End-clause-drives g c = λ base given d.
    ended_at g.O.Origin.faults base c.args.depot.now c.args.machine.now given (seen_end c.in-End.end) c.in-End.ensures.asked c.next.ensures.walk d
