use Rattle.std.proofs.Common.{ap, ◌∙◌}
use Rattle.std.specs.FinMap as map
use Rattle.lr_depot.proofs.Numbers.{removed}
use Rattle.lr_depot.proofs.numbered.Numbered.remove.Goals as goal

pub returns : goal.returns
returns g c =
    removed c.self.inside.entries c.remove.new.self c.args.number c.remove.ensures.updates
    ∙ ap (λ m. map.remove m c.args.number) c.self.view_is
