use Rattle.std.proofs.Common.{refl, [], ◌∷◌, ◌++◌}
use Rattle.lr_creator.specs.Creation.{last}
use Rattle.lr_creator.specs.Seen.{seen_end}
use Rattle.lr_images.proofs.Driving.{gave_last, finished_closed, ended_on, last_unstopped}
use Rattle.lr_images.proofs.drive.put_last.Goals as goal

pub returns-in-Some-clause-unstopped : goal.returns-in-Some-clause-unstopped
returns-in-Some-clause-unstopped g c = last_unstopped c.args.machine.now c.last.new.self.need (seen_end c.in-Some.end) c.last.ensures.finished c.in-Some.ensures.may

pub returns-in-Some-clause-drives : goal.returns-in-Some-clause-drives
returns-in-Some-clause-drives g c = λ base given d.
    ended_on g.O.Origin.faults base c.run_on.new.depot c.args.machine.now c.last.new.self (given ++ last ∷ []) (seen_end c.in-Some.end) c.last.ensures.same
    (c.in-Some.ensures.drives base (given ++ last ∷ []) (gave_last g.O.Origin.faults base c.args.depot.now c.args.machine.now c.last.new.self given c.last.ensures.finished c.last.ensures.stands d))

pub returns-in-None-clause-drives : goal.returns-in-None-clause-drives
returns-in-None-clause-drives g c = absurd (finished_closed c.args.machine.now c.last.new.self.need c.run_on.new.machine.need c.last.ensures.finished (λ n h. c.in-None.ensures.given refl n h) (c.in-None.ensures.wants refl))
