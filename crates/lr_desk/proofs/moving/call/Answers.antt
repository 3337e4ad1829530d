use Rattle.lr_depot.specs.Depot.{state}
use Rattle.lr_walk.specs.Depot.{seen_reply}
use Rattle.lr_migrator.specs.Progress.{asked}
use Rattle.lr_desk.proofs.Carrying.{admits, carries_more, fault_made, goes_on, falls}
use Rattle.lr_desk.proofs.moving.call.Goals as goal

pub take-requires-clause-admitted : goal.take-requires-clause-admitted
take-requires-clause-admitted g c =
    admits (state c.args.depot.now.start c.args.depot.now.log) c.args.asked c.apply-reply.result (asked c.args.machine.now.image c.args.machine.now.need) c.requires.asked c.apply-reply.ensures.answers

pub returns-clause-goes : goal.returns-clause-goes
returns-clause-goes g c =
    goes_on c.args.machine.now.image c.args.machine.now.need c.take.new.self.need (seen_reply c.apply-reply.result)
    (admits (state c.args.depot.now.start c.args.depot.now.log) c.args.asked c.apply-reply.result (asked c.args.machine.now.image c.args.machine.now.need) c.requires.asked c.apply-reply.ensures.answers) c.take.ensures.next

pub returns-clause-falls : goal.returns-clause-falls
returns-clause-falls g c =
    falls c.args.machine.now.image c.args.machine.now.need c.take.new.self.need (seen_reply c.apply-reply.result)
    (admits (state c.args.depot.now.start c.args.depot.now.log) c.args.asked c.apply-reply.result (asked c.args.machine.now.image c.args.machine.now.need) c.requires.asked c.apply-reply.ensures.answers) c.take.ensures.next

pub returns-clause-drives : goal.returns-clause-drives
returns-clause-drives g c = λ base d.
    carries_more base c.args.depot.now.log c.apply-reply.new.self.log c.args.machine.now c.take.new.self c.args.asked c.apply-reply.result c.requires.asked c.apply-reply.ensures.logged c.take.ensures.stands d

pub returns-clause-cause : goal.returns-clause-cause
returns-clause-cause g c =
    fault_made c.args.machine.now.need c.take.new.self.need c.apply-reply.result (g.O.Origin.faults c.args.depot.now.origin) (g.O.Origin.faults c.apply-reply.new.self.origin) c.take.ensures.next c.apply-reply.ensures.cause
