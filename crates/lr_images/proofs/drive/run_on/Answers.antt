use Rattle.lr_creator.specs.Seen.{seen_end}
use Rattle.lr_images.proofs.Driving.{ended_on}
use Rattle.lr_images.proofs.drive.run_on.Goals as goal

pub returns-in-Some-clause-may : goal.returns-in-Some-clause-may
returns-in-Some-clause-may g c = c.loop-end.invariant.3 (seen_end c.in-Some.end) c.in-Some.ensures.may

pub returns-in-Some-clause-drives : goal.returns-in-Some-clause-drives
returns-in-Some-clause-drives g c = λ base given d.
    ended_on g.O.Origin.faults base c.ask.new.depot c.args.machine.now c.loop-end.machine given (seen_end c.in-Some.end) c.loop-end.invariant.1 (c.in-Some.ensures.drives base given (c.loop-end.invariant.4 base given d))
