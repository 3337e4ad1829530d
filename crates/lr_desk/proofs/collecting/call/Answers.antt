use Rattle.lr_depot.specs.Depot.{state}
use Rattle.lr_collector.specs.Progress.{asked}
use Rattle.lr_desk.proofs.Gathering.{admits, drives_more, fault_made, falls}
use Rattle.lr_desk.proofs.collecting.call.Goals as goal

pub take-requires-clause-admitted : goal.take-requires-clause-admitted
take-requires-clause-admitted g c =
    admits (state c.args.depot.now.start c.args.depot.now.log) c.args.asked c.apply-reply.result (asked c.args.machine.now.job c.args.machine.now.need) c.requires.asked c.apply-reply.ensures.answers

pub returns-clause-falls : goal.returns-clause-falls
returns-clause-falls g c =
    falls c.args.depot.now.start c.apply-reply.new.self.start c.args.depot.now.log c.apply-reply.new.self.log c.args.machine.now.job c.args.machine.now.need c.take.new.self.need c.args.asked c.apply-reply.result
    c.apply-reply.ensures.fixed c.requires.asked c.take.ensures.next c.apply-reply.ensures.answers c.apply-reply.ensures.logged

pub returns-clause-drives : goal.returns-clause-drives
returns-clause-drives g c = λ base d.
    drives_more base c.args.depot.now.log c.apply-reply.new.self.log c.args.machine.now c.take.new.self c.args.asked c.apply-reply.result c.requires.asked c.apply-reply.ensures.logged c.take.ensures.stands d

pub returns-clause-cause : goal.returns-clause-cause
returns-clause-cause g c = λ h.
    c.apply-reply.ensures.cause (fault_made c.args.machine.now.job c.args.machine.now.need c.take.new.self.need c.args.asked c.apply-reply.result c.requires.asked c.take.ensures.next h)
