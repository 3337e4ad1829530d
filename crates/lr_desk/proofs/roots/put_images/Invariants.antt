use Rattle.lr_desk.proofs.Viewing.{IsListing}
use Rattle.lr_desk.proofs.roots.put_images.Given as goal

abbrev pub invariant-loop-turn : goal.invariant-loop-turn
invariant-loop-turn l = IsListing l.catalog.view l.after l._turn l.initial.out.items l.out.items
