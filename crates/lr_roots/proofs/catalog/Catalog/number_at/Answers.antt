use Rattle.std.proofs.Common.{◌≡◌, Option, Some, None, inl, rules}
use Rattle.std.specs.Arc.{arc_value}
use Rattle.std.specs.FinMap as map
use Rattle.lr_manifest.specs.Manifest.{ManifestFields}
use Rattle.lr_origin.specs.declared.key.KeyKind.TheVariants as kind
use Rattle.lr_roots.specs.View.{Held, salt, manifest, bare}
use Rattle.lr_roots.specs.Catalog.{manifest_of}
use Rattle.lr_roots.proofs.catalog.Catalog.number_at.Goals as goal

kept : (o : Option Held) (m : ManifestFields) → Some m ≡ manifest_of o → o ≡ Some (manifest m)
kept None m e = cc
kept (Some (salt s)) m e = cc
kept (Some bare) m e = cc
kept (Some (manifest n)) m e = cc

pub returns-in-Some-clause-had : goal.returns-in-Some-clause-had
returns-in-Some-clause-had c =
    let m = arc_value c.in-Some.manifest.now in
    inl (kind.Manifest c.in-Manifest.root c.in-Manifest.image, m, kept (map.get c.args.self.now.view (kind.Manifest c.in-Manifest.root c.in-Manifest.image)) m c.in-Some.ensures, search rules)
