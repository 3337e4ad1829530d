use Rattle.std.proofs.Common.{◌≤◌, ◌-◌}
use Rattle.lr_origin.specs.declared.key.KeyKind.TheVariants as kind
use Rattle.lr_roots.specs.View.{Has}
use Rattle.lr_roots.proofs.Downward.{NoneBelow}
use Rattle.lr_roots.proofs.catalog.Catalog.first_root.Given as goal

abbrev pub invariant-loop-root : goal.invariant-loop-root
invariant-loop-root l = NoneBelow (λ q. Has l.self.view (kind.Manifest q l.image)) l.bound

abbrev pub decreases-loop-root : goal.decreases-loop-root
decreases-loop-root l = 1001 - l.bound
