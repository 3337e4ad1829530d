use Rattle.std.proofs.Common.{◌≡◌, ◌++◌}
use Rattle.lr_rootlines.specs.RootLines.{root_texts}
use Rattle.lr_rootlines.proofs.part.put_roots.Given as goal

abbrev pub invariant-loop-below : goal.invariant-loop-below
invariant-loop-below l = l.out.items ≡ l.initial.out.items ++ root_texts l.catalog.view l.below
