use Rattle.lr_roots.specs.View.{Has}
use Rattle.lr_roots.proofs.Ordered.{AreLeft}
use Rattle.lr_roots.specs.Names.{IsManifestOf}
use Rattle.lr_depot.proofs.Listed.{AreKeys}
use Rattle.lr_depot.proofs.collecting.first_unsure.Given as goal

abbrev pub invariant-loop-key : goal.invariant-loop-key
invariant-loop-key l = record {
  left : AreLeft (λ k. Has l.doubts k × IsManifestOf l.root k) l.key-iterator;
  had : AreKeys l.doubts l.key-iterator;
}
