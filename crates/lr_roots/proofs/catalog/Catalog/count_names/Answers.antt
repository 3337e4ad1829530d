use Rattle.std.proofs.Common.{◌^◌, ap}
use Rattle.lr_roots.specs.Catalog.{Seen}
use Rattle.lr_roots.proofs.Named.{names_fit, many_names}
use Rattle.lr_roots.proofs.catalog.Catalog.count_names.Goals as goal

pub returns-clause-few : goal.returns-clause-few
returns-clause-few c =
    names_fit c.self.inside.aside c.self.inside.keys c.args.self.now.view c.self.invariant.0 (ap (λ (s : Seen). s.view) c.self.view_is) (2 ^ 32) c.count.result c.self.invariant.2 c.count.ensures

pub returns-clause-many : goal.returns-clause-many
returns-clause-many c =
    many_names c.self.inside.aside c.self.inside.keys c.args.self.now.view c.self.invariant.0 (ap (λ (s : Seen). s.view) c.self.view_is) c.count.result c.count.ensures
