use Rattle.lr_origin.specs.declared.key.KeyKind.TheVariants as kind
use Rattle.lr_roots.specs.View.{Has}
use Rattle.lr_roots.specs.Roots.{IsLive}
use Rattle.lr_roots.proofs.Downward.{NoneFrom}
use Rattle.lr_roots.proofs.catalog.Catalog.home.Given as goal

abbrev pub invariant-loop-root : goal.invariant-loop-root
invariant-loop-root l = NoneFrom (λ q. IsLive l.self.view q × Has l.self.view (kind.Manifest q l.image)) l.bound

abbrev pub decreases-loop-root : goal.decreases-loop-root
decreases-loop-root l = l.bound
