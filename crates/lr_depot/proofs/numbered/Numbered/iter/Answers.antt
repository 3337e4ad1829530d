use Rattle.std.proofs.Common.{ap, sym, subst, ◌∙◌}
use Rattle.std.specs.Ordering.{nat_cmp}
use Rattle.std.specs.List.Sorted.{IsStrictlySortedBy}
use Rattle.std.specs.FinMap as map
use Rattle.lr_depot.proofs.Numbers.{entries_tree, keys_tree}
use Rattle.lr_depot.proofs.numbered.Numbered.iter.Goals as goal

pub returns-clause-list : goal.returns-clause-list
returns-clause-list g c = c.iter.ensures.rest ∙ sym (entries_tree c.self.inside.entries.entries c.iter.ensures.ordered) ∙ ap map.entries c.self.view_is

pub returns-clause-ordered : goal.returns-clause-ordered
returns-clause-ordered g c =
    subst (IsStrictlySortedBy nat_cmp) (sym (keys_tree c.self.inside.entries.entries c.iter.ensures.ordered) ∙ ap map.keys c.self.view_is) c.iter.ensures.ordered
