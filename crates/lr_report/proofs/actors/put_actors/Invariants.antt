use Rattle.std.proofs.Common.{◌≡◌, ◌++◌, take}
use Rattle.std.specs.List.{flat_map, zip}
use Rattle.lr_report.specs.Report.{actor_part}
use Rattle.lr_report.proofs.actors.put_actors.Given as goal

abbrev pub invariant-loop-at : goal.invariant-loop-at
invariant-loop-at l = l.out.items ≡ l.initial.out.items ++ flat_map actor_part (take l.at (zip l.names l.trails))
