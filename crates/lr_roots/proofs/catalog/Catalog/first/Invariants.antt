use Rattle.lr_roots.specs.Walks.{IsWanted}
use Rattle.lr_roots.proofs.Ordered.{AreLeft}
use Rattle.lr_roots.proofs.catalog.Catalog.first.Given as goal

abbrev pub invariant-loop-key : goal.invariant-loop-key
invariant-loop-key l = AreLeft (IsWanted l.self.view l.wanted) l.key-iterator
