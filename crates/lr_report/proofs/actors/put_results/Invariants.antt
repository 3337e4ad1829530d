use Rattle.std.proofs.Common.{◌≡◌, ◌++◌, take}
use Rattle.std.specs.List.{flat_map, enumerate_from}
use Rattle.lr_report.specs.Report.{result_line}
use Rattle.lr_report.proofs.actors.put_results.Given as goal

abbrev pub invariant-loop-at : goal.invariant-loop-at
invariant-loop-at l = l.out.items ≡ l.initial.out.items ++ flat_map result_line (take l.at (enumerate_from 1 l.results))
