use Rattle.lr_roots.specs.View.{Has}
use Rattle.lr_roots.proofs.Ordered.{AreLeft}
use Rattle.lr_depot.proofs.Listed.{AreKeys}
use Rattle.lr_depot.proofs.doubts.deletion_in_doubt.Given as goal

abbrev pub invariant-loop-key : goal.invariant-loop-key
invariant-loop-key l = record {
  left : AreLeft (λ k. Has l.doubts k × Has l.catalog.view k) l.key-iterator;
  had : AreKeys l.doubts l.key-iterator;
}
