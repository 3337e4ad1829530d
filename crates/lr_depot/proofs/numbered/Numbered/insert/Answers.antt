use Rattle.std.proofs.Common.{ap, ◌∙◌}
use Rattle.std.specs.FinMap as map
use Rattle.lr_depot.proofs.Numbers.{inserted}
use Rattle.lr_depot.proofs.numbered.Numbered.insert.Goals as goal

pub returns-clause-ok : goal.returns-clause-ok
returns-clause-ok g c =
    inserted c.self.inside.entries c.insert.new.self c.args.number c.args.thing c.in_ok-insert.ensures.updates
    ∙ ap (λ m. map.insert m c.args.number c.args.thing) c.self.view_is
