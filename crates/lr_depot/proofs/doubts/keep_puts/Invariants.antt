use Rattle.std.proofs.Common.{◌≡◌}
use Rattle.std.specs.FinMap as map
use Rattle.lr_depot.specs.Doubts.{without_keys}
use Rattle.lr_depot.proofs.doubts.keep_puts.Given as goal

abbrev pub invariant-loop-key : goal.invariant-loop-key
invariant-loop-key l = without_keys l.catalog.view l.doubts ≡ without_keys l.catalog.view l.fn.doubts

abbrev pub decreases-loop-key : goal.decreases-loop-key
decreases-loop-key l = map.len l.doubts
