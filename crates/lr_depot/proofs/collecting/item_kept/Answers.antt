use Rattle.std.proofs.Common.{sym, ap, subst, ◌∙◌}
use Rattle.std.specs.FinMap as map
use Rattle.lr_origin.specs.declared.key.KeyKind.TheVariants.{Manifest}
use Rattle.lr_roots.specs.View.{Has}
use Rattle.lr_roots.specs.Catalog.{arc_of}
use Rattle.lr_depot.proofs.Ready.{has_manifest}
use Rattle.lr_depot.proofs.Served.{item_bare}
use Rattle.lr_depot.proofs.collecting.item_kept.Goals as goal

pub returns-in_default : goal.returns-in_default
returns-in_default c =
    item_bare c.args.catalog.now.view c.args.key.now c.requires.item.0 (λ r image e. c.in_default.not-Manifest r image (c.kind.ensures.same ∙ e)) c.requires.item.1 c.requires.there (c.requires.fits c.args.key.now)

pub unreachable-requires : goal.unreachable-requires
unreachable-requires c =
    has_manifest c.in-Manifest.root c.in-Manifest.image (map.get c.args.catalog.now.view (Manifest c.in-Manifest.root c.in-Manifest.image)) (subst (Has c.args.catalog.now.view) (sym c.in-Manifest.ensures.same) c.requires.there)
    (c.requires.fits (Manifest c.in-Manifest.root c.in-Manifest.image)) (sym c.manifest.ensures ∙ ap arc_of c.in_default-manifest.is)
