use Rattle.std.proofs.Common.{ap, sym, ◌∙◌}
use Rattle.std.specs.FinMap as map
use Rattle.lr_depot.proofs.Tables.{get_table}
use Rattle.lr_depot.proofs.makers.DoubtMakers.get.Goals as goal

pub returns : goal.returns
returns c = c.copied.ensures ∙ c.get.ensures.value ∙ sym (get_table c.self.inside.entries.entries c.args.key.now) ∙ ap (λ m. map.get m c.args.key.now) c.self.view_is
