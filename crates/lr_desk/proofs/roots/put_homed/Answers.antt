use Rattle.std.proofs.Common.{◌∙◌, ap}
use Rattle.lr_manifest.specs.Manifest.{ManifestFields}
use Rattle.lr_desk.proofs.Viewing.{manifest_there, image_line_made}
use Rattle.lr_desk.proofs.roots.put_homed.Goals as goal

pub unwrap-manifest-requires : goal.unwrap-manifest-requires
unwrap-manifest-requires c = manifest_there c.args.catalog.now.view c.args.image.now c.args.home c.manifest.result c.requires.sound c.requires.home c.manifest.ensures

pub returns : goal.returns
returns c =
    image_line_made c.args.catalog.now.view c.args.image.now c.args.home c.raw_len-raw_len.result c.served_word-word.result.now c.manifest.result c.unwrap-manifest.result c.args.out.now.items c.put_image_head.new.out.items c.put_image_tail.new.out.items
    c.requires.home c.manifest.ensures c.unwrap-manifest.ensures (c.raw_len-raw_len.ensures.value ∙ ap (λ (m : ManifestFields). m.raw_len) c.deref.ensures) c.served_word-word.ensures c.in_ok-put_image_head.ensures c.in_ok-put_image_tail.ensures
