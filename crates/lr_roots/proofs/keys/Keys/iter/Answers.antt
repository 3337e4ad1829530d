use Rattle.std.proofs.Common.{sym, ap, ◌∙◌}
use Rattle.std.specs.FinMap as map
use Rattle.lr_roots.proofs.Trees.{keys_view}
use Rattle.lr_roots.proofs.keys.Keys.iter.Goals as goal

pub returns-clause-list : goal.returns-clause-list
returns-clause-list c = c.keys.ensures.rest ∙ sym (keys_view c.self.inside.entries.entries c.keys.ensures.ordered) ∙ ap (λ m. map.keys m) c.self.view_is
