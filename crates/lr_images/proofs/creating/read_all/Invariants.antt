use Rattle.std.proofs.Common.{◌≡◌, ◌≤◌, ◌-◌, ◌+◌, ◌%◌, ℕ, List, true, Option}
use Rattle.lr_depot.specs.Depot.{Seen}
use Rattle.lr_creator.specs.Progress.{is_wanting, raw_len_of}
use Rattle.lr_creator.specs.Seen.{IsSame}
use Rattle.lr_images.specs.Created.{IsUnderWay}
use Rattle.lr_images.proofs.creating.read_all.Given as goal

abbrev pub invariant-loop-created : goal.invariant-loop-created
invariant-loop-created g l =
    (is_wanting l.machine.need ≡ true) × (raw_len_of l.machine.need ≡ l.len) × (l.len % 524288 ≡ 0) × (l.len ≤ 67108864)
    × IsSame l.initial.machine l.machine × (g.I.Source.faults l.initial.source ≤ g.I.Source.faults l.source)
    × ((base : Seen g.row.O.Denot) (before : Option (List ℕ)) → IsUnderWay g.O.Origin.faults base before l.initial.machine 0 l.initial.depot (g.I.Source.left l.initial.source) → IsUnderWay g.O.Origin.faults base before l.machine l.len l.depot (g.I.Source.left l.source))

abbrev pub decreases-loop-created : goal.decreases-loop-created
decreases-loop-created g l = 67108864 - l.len
