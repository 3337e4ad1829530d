use Rattle.lr_desk.specs.Roots.{AreRootLines, Adds}
use Rattle.lr_desk.proofs.roots.put_roots.Given as goal

abbrev pub invariant-loop-below : goal.invariant-loop-below
invariant-loop-below l = Adds (AreRootLines l.catalog.view l.below) l.initial.out.items l.out.items
