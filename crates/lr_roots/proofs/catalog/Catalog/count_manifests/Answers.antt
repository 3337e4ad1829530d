use Rattle.std.proofs.Common.{◌^◌, ap}
use Rattle.lr_roots.specs.Catalog.{Seen}
use Rattle.lr_roots.proofs.Named.{manifests_fit}
use Rattle.lr_roots.proofs.catalog.Catalog.count_manifests.Goals as goal

pub returns-clause-few : goal.returns-clause-few
returns-clause-few c =
    manifests_fit c.self.inside.aside c.self.inside.keys c.args.self.now.view c.self.invariant.0 (ap (λ (s : Seen). s.view) c.self.view_is) (2 ^ 32) c.count.result c.args.root c.self.invariant.2 c.count.ensures
