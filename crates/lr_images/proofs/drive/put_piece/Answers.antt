use Rattle.std.proofs.Common.{[], ◌∷◌, ◌++◌}
use Rattle.lr_creator.specs.Creation.{piece}
use Rattle.lr_images.proofs.Driving.{gave_raw, gave_more, kept_short, short_closed, ok_drives, err_drives, some_gave, some_short}
use Rattle.lr_images.proofs.drive.put_piece.Goals as goal

pub returns-in-Ok-clause-given : goal.returns-in-Ok-clause-given
returns-in-Ok-clause-given g c = λ e. gave_raw c.args.machine.now.need c.give.new.self.need c.run_on.new.machine.need c.args.plain.now c.in-Ok.ensures.gave (λ n h. c.run_on.ensures.given e n h) (c.run_on.ensures.wants e)

pub returns-in-Ok-clause-early : goal.returns-in-Ok-clause-early
returns-in-Ok-clause-early g c = some_gave c.run_on.result c.args.machine.now.need c.give.new.self.need c.args.plain.now c.in-Ok.ensures.gave c.run_on.ensures.may

pub returns-in-Ok-clause-drives : goal.returns-in-Ok-clause-drives
returns-in-Ok-clause-drives g c = λ base given d.
    ok_drives g.O.Origin.faults c.run_on.result base c.run_on.new.depot c.args.machine.now c.give.new.self c.run_on.new.machine (given ++ piece c.args.plain.now ∷ []) c.give.ensures.same
    (c.run_on.ensures.drives base (given ++ piece c.args.plain.now ∷ []) (gave_more g.O.Origin.faults base c.args.depot.now c.args.machine.now c.give.new.self given c.args.plain.now c.in-Ok.ensures.gave c.in-Ok.ensures.stands d))

pub returns-in-Err-clause-given : goal.returns-in-Err-clause-given
returns-in-Err-clause-given g c = λ e. absurd (short_closed c.args.machine.now.need c.give.new.self.need c.run_on-in-Err.new.machine.need c.in-Err.ensures.short (λ n h. c.run_on-in-Err.ensures.given e n h) (c.run_on-in-Err.ensures.wants e))

pub returns-in-Err-clause-early : goal.returns-in-Err-clause-early
returns-in-Err-clause-early g c = some_short c.run_on-in-Err.result c.args.machine.now.need c.give.new.self.need c.in-Err.ensures.short c.run_on-in-Err.ensures.may

pub returns-in-Err-clause-drives : goal.returns-in-Err-clause-drives
returns-in-Err-clause-drives g c = λ base given d.
    err_drives g.O.Origin.faults c.run_on-in-Err.result base c.run_on-in-Err.new.depot c.args.machine.now c.give.new.self c.run_on-in-Err.new.machine given (piece c.args.plain.now) c.give.ensures.same
    (λ e. short_closed c.args.machine.now.need c.give.new.self.need c.run_on-in-Err.new.machine.need c.in-Err.ensures.short (λ n h. c.run_on-in-Err.ensures.given e n h) (c.run_on-in-Err.ensures.wants e))
    (c.run_on-in-Err.ensures.drives base given (kept_short g.O.Origin.faults base c.args.depot.now c.args.machine.now c.give.new.self given c.in-Err.ensures.short c.in-Err.ensures.keeps d))
