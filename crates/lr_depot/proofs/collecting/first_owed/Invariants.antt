use Rattle.std.specs.FinMap as map
use Rattle.lr_depot.specs.Machine.{IsOwedAt}
use Rattle.lr_depot.specs.Kernel.{state_of}
use Rattle.lr_depot.proofs.Walked.{IsWalked}
use Rattle.lr_depot.proofs.collecting.first_owed.Given as goal

abbrev pub invariant-loop-turn : goal.invariant-loop-turn
invariant-loop-turn l = IsWalked l.kernel.catalog.view (IsOwedAt (state_of l.kernel map.empty) l.root) l.after l._turn
