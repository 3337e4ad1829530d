use Rattle.lr_depot.specs.Depot.{state}
use Rattle.lr_walk.specs.Depot.{seen_reply}
use Rattle.lr_creator.specs.Progress.{asked}
use Rattle.lr_images.proofs.Driving.{admits, drives_more}
use Rattle.lr_images.proofs.drive.call.Goals as goal

pub take-requires-clause-admitted : goal.take-requires-clause-admitted
take-requires-clause-admitted g c = admits (state c.args.depot.now.start c.args.depot.now.log) c.args.asked c.apply-reply.result (asked c.args.machine.now.need) c.requires.asked c.apply-reply.ensures.answers

pub returns-clause-turned : goal.returns-clause-turned
returns-clause-turned g c = (
  seen_reply c.apply-reply.result,
  c.take.ensures.next,
  admits (state c.args.depot.now.start c.args.depot.now.log) c.args.asked c.apply-reply.result (asked c.args.machine.now.need) c.requires.asked c.apply-reply.ensures.answers,
  λ base given d.
      drives_more g.O.Origin.faults base c.args.depot.now c.apply-reply.new.self c.args.machine.now c.take.new.self given c.args.asked c.apply-reply.result c.requires.asked c.apply-reply.ensures.fixed
      c.apply-reply.ensures.answers c.apply-reply.ensures.logged c.apply-reply.ensures.never_falls c.apply-reply.ensures.cause c.take.ensures.next c.take.ensures.stands d,
)
