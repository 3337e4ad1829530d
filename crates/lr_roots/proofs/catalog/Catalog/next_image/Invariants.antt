use Rattle.std.proofs.Common.{IfSome}
use Rattle.lr_origin.specs.Objects.{pointed, IsAfter}
use Rattle.lr_roots.specs.Names.{IsNamed}
use Rattle.lr_roots.proofs.Ordered.{AreNearerLeft}
use Rattle.lr_roots.proofs.catalog.Catalog.next_image.Given as goal

abbrev pub invariant-loop-key : goal.invariant-loop-key
invariant-loop-key l =
    AreNearerLeft l.self.view (pointed l.after) l.best l.key-iterator × IfSome l.best (λ b. IsAfter (pointed l.after) b × IsNamed l.self.view b)
