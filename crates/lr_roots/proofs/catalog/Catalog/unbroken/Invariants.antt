use Rattle.std.proofs.Common.{◌≤◌, ℕ}
use Rattle.lr_origin.specs.declared.key.KeyKind.TheVariants as kind
use Rattle.lr_roots.specs.View.{Has}
use Rattle.lr_roots.proofs.catalog.Catalog.unbroken.Given as goal

abbrev pub invariant-loop-root : goal.invariant-loop-root
invariant-loop-root l = (q : ℕ) → 1 ≤ q → q ≤ l.root → Has l.self.view (kind.Root q)
