use Rattle.lr_top.proofs.Opened.{HasOpened}
use Rattle.lr_top.proofs.opening.open_each.Given as goal

abbrev pub invariant-loop-at : goal.invariant-loop-at
invariant-loop-at l = HasOpened l.at l.images l.devices l.places l.opened.items
