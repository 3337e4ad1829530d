use Rattle.std.proofs.Common.{◌≡◌}
use mathlib.Core.Logic.{◌⊎◌}
use Rattle.lr_roots.specs.Names.{HasNumber}
use Rattle.lr_roots.proofs.Ordered.{AreGreaterLeft}
use Rattle.lr_roots.proofs.catalog.Catalog.greatest_number.Given as goal

abbrev pub invariant-loop-key : goal.invariant-loop-key
invariant-loop-key l = AreGreaterLeft l.self.view l.greatest l.key-iterator × (HasNumber l.self.view l.greatest ⊎ (l.greatest ≡ 0))
