use Rattle.std.proofs.Common.{◌+◌, ◌<◌, ◌^◌, length}
use Rattle.std.specs.List.Sorted.{IsStrictlySortedBy}
use Rattle.lr_origin.specs.Kind.{kind_cmp}
use Rattle.lr_roots.specs.Walks.{IsWanted}
use Rattle.lr_roots.proofs.Ordered.{AreCounted}
use Rattle.lr_roots.proofs.catalog.Catalog.count.Given as goal

abbrev pub invariant-loop-key : goal.invariant-loop-key
invariant-loop-key l =
    IsStrictlySortedBy kind_cmp l.key-iterator × AreCounted (IsWanted l.self.view l.wanted) l.count l.key-iterator × (l.count + length l.key-iterator < 2 ^ 63)
