use Rattle.std.proofs.Common.{ap, ◌∙◌}
use Rattle.std.specs.FinMap as map
use Rattle.lr_roots.proofs.Trees.{removed, changes_at}
use Rattle.lr_roots.proofs.keys.Keys.remove.Goals as goal

pub returns : goal.returns
returns c =
    removed c.self.inside.entries.entries c.remove.new.self.entries c.args.key.now (changes_at c.self.inside.entries c.remove.new.self c.args.key.now _ c.remove.ensures.updates)
    ∙ ap (λ m. map.remove m c.args.key.now) c.self.view_is
