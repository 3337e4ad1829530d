use Rattle.std.proofs.Common.{ap, sym, ◌∙◌}
use Rattle.std.specs.FinMap as map
use Rattle.lr_depot.proofs.Numbers.{len_tree}
use Rattle.lr_depot.proofs.numbered.Numbered.len.Goals as goal

pub returns-clause-count : goal.returns-clause-count
returns-clause-count g c = c.len.ensures.len ∙ sym (len_tree c.self.inside.entries.entries c.len.ensures.ordered) ∙ ap map.len c.self.view_is
