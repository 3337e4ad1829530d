use Rattle.std.proofs.Common.{ap, sym, ◌∙◌}
use Rattle.std.specs.FinMap as map
use Rattle.lr_depot.proofs.Numbers.{get_tree}
use Rattle.lr_depot.proofs.numbered.Numbered.get.Goals as goal

pub returns : goal.returns
returns g c = c.get.ensures.value ∙ sym (get_tree c.self.inside.entries.entries c.args.number) ∙ ap (λ m. map.get m c.args.number) c.self.view_is
