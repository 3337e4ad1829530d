use Rattle.std.proofs.Common.{sym, ap, ◌∙◌}
use Rattle.std.specs.Arc.{arc_value}
use Rattle.std.specs.List.{slice_get}
use Rattle.lr_manifest.specs.Manifest.{ManifestFields}
use Rattle.lr_depot.proofs.Ready.{source_root}
use Rattle.lr_depot.proofs.copying.copy_place.Goals as goal

pub of-key-requires : goal.of-key-requires
of-key-requires c = record {
  root = source_root c.args.kernel.now c.requires.ready c.args.session c.args.caller c.in-Some.route.image c.in-Some.route.from c.in-Some.route.to (arc_value c.in-Some.manifest.now) c.in-Some.ensures;
}

pub returns-clause-place : goal.returns-clause-place
returns-clause-place c = record {
  copy = λ makers. record {
    image = c.in-Some.route.image;
    from = c.in-Some.route.from;
    to = c.in-Some.route.to;
    manifest = arc_value c.in-Some.manifest.now;
    name = c.in-Some-name_at.name;
    session = c.in-Some.ensures;
    named = ap (λ (m : ManifestFields). slice_get m.names c.args.index) (sym c.deref.ensures) ∙ sym c.name_at.ensures ∙ c.in-Some-name_at.is;
    key = c.of-key.ensures;
  };
  chunk = (c.in-Some.route.from, c.of-key.ensures);
}
