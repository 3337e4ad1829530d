use Rattle.std.proofs.Common.{ap, ◌∙◌}
use Rattle.std.specs.FinMap as map
use Rattle.lr_depot.proofs.Tables.{inserted}
use Rattle.lr_depot.proofs.makers.DoubtMakers.insert.Goals as goal

pub returns-clause-ok : goal.returns-clause-ok
returns-clause-ok c = inserted c.self.inside.entries c.insert.new.self c.args.key c.args.session c.in_ok-insert.ensures.updates ∙ ap (λ m. map.insert m c.args.key c.args.session) c.self.view_is
