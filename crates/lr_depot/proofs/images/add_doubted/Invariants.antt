use Rattle.lr_roots.specs.View.{Has}
use Rattle.lr_depot.specs.Doubts.{IsManifestOfImage}
use Rattle.lr_depot.proofs.Added.{AreAdded}
use Rattle.lr_depot.proofs.images.add_doubted.Given as goal

abbrev pub invariant-loop-key : goal.invariant-loop-key
invariant-loop-key l = AreAdded l.catalog.view (Has l.doubts) IsManifestOfImage l.fn.others.items l.others.items l.key-iterator
