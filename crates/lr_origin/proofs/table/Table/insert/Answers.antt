use Rattle.std.proofs.Common.{ap, ◌∙◌}
use Rattle.std.specs.FinMap as map
use Rattle.lr_origin.proofs.Tables.{inserted, changes_at}
use Rattle.lr_origin.proofs.table.Table.insert.Goals as goal

pub returns-clause-ok : goal.returns-clause-ok
returns-clause-ok c =
    inserted c.self.inside.entries.entries c.insert.new.self.entries c.args.key.items c.args.body (changes_at c.self.inside.entries c.insert.new.self c.args.key.items _ c.in_ok-insert.ensures.updates)
    ∙ ap (λ m. map.insert m c.args.key.items c.args.body.items) c.self.view_is
