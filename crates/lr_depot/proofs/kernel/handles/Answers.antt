use Rattle.std.proofs.Common.{sym, ap, ◌∙◌}
use Rattle.std.specs.FinMap as map
use Rattle.lr_origin.specs.declared.key.KeyKind.TheVariants.{Manifest}
use Rattle.lr_roots.specs.Catalog.{arc_of}
use Rattle.lr_depot.proofs.Ready.{has_manifest}
use Rattle.lr_depot.proofs.kernel.handles.Goals as goal

pub unreachable-requires : goal.unreachable-requires
unreachable-requires c =
    has_manifest c.args.root c.args.image.now (map.get c.args.catalog.now.view (Manifest c.args.root c.args.image.now)) c.requires.there (c.requires.fits (Manifest c.args.root c.args.image.now)) (sym c.manifest.ensures ∙ ap arc_of c.in_default.is)
