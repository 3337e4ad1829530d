use Rattle.std.proofs.Common.{Some, sym, ap, ◌∙◌}
use Rattle.std.specs.Arc.{arc_value}
use Rattle.std.specs.Option.{option_copied}
use Rattle.std.specs.List.{slice_get}
use Rattle.lr_manifest.specs.Manifest.{ManifestFields}
use Rattle.lr_rules.proofs.Serving.{leased_home}
use Rattle.lr_depot.specs.Kernel.{state_of}
use Rattle.lr_depot.proofs.Ready.{ready_sound}
use Rattle.lr_depot.proofs.asking.place_of.Goals as goal

pub home_key-key-requires-clause-sound : goal.home_key-key-requires-clause-sound
home_key-key-requires-clause-sound c = ready_sound c.args.kernel.now c.requires.ready

pub home_key-key-requires-clause-homed : goal.home_key-key-requires-clause-homed
home_key-key-requires-clause-homed c =
    leased_home (state_of c.args.kernel.now c.requires.ready.makers) c.requires.ready.safe c.args.lease c.entry.inside.image (arc_value c.entry.inside.manifest)
    (sym c.get.ensures ∙ ap option_copied c.in-Some.is ∙ ap Some (sym c.entry.view_is))

pub returns-clause-place : goal.returns-clause-place
returns-clause-place c = record {
  fetch = λ makers. record {
    image = c.entry.inside.image;
    manifest = arc_value c.entry.inside.manifest;
    home = c.home_key-key.ensures.0;
    name = c.in-Some-name_at.name;
    out = sym c.get.ensures ∙ ap option_copied c.in-Some.is ∙ ap Some (sym c.entry.view_is);
    named = ap (λ (m : ManifestFields). slice_get m.names c.args.index) (sym c.deref.ensures) ∙ sym c.name_at.ensures ∙ c.in-Some-name_at.is;
    homed = c.home_key-key.ensures.1;
    key = c.home_key-key.ensures.2;
  };
  chunk = (c.home_key-key.ensures.0, c.home_key-key.ensures.2);
}
