use Rattle.std.proofs.Common.{◌≡◌, ℕ, List, true}
use Rattle.lr_depot.specs.Depot.{Seen}
use Rattle.lr_creator.specs.Creation.{Ending, Input}
use Rattle.lr_creator.specs.Seen.{IsSame}
use Rattle.lr_images.specs.Drive.{Drives, HasGiven, MayEnd, left_of}
use Rattle.lr_images.proofs.drive.run_on.Given as goal

abbrev pub invariant-loop-end : goal.invariant-loop-end
invariant-loop-end g l =
    (l.machine.ready ≡ true) × IsSame l.initial.machine l.machine
    × ((n : ℕ) → HasGiven l.initial.machine.need n → HasGiven l.machine.need n)
    × ((end : Ending) → MayEnd l.machine.need end → MayEnd l.initial.machine.need end)
    × ((base : Seen g.row.O.Denot) (given : List Input) → Drives g.O.Origin.faults base l.initial.machine given l.initial.depot → Drives g.O.Origin.faults base l.machine given l.depot)

abbrev pub decreases-loop-end : goal.decreases-loop-end
decreases-loop-end g l = left_of l.machine.need
