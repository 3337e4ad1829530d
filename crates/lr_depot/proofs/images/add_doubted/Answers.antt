use Rattle.std.proofs.Common.{None, refl, ◌∙◌}
use Rattle.lr_roots.specs.View.{Has}
use Rattle.lr_roots.proofs.Ordered.{listed}
use Rattle.lr_depot.specs.Doubts.{IsManifestOfImage}
use Rattle.lr_depot.proofs.Added.{added_start}
use Rattle.lr_depot.proofs.Listed.{keys_start}
use Rattle.lr_depot.proofs.images.add_doubted.Goals as goal

pub loop-key-init : goal.loop-key-init
loop-key-init c =
    let e = c.into_iter-key-iterator.ensures.into_iter_gives ∙ c.iter-key-items.ensures.list in
    added_start c.args.catalog.now.view (Has c.args.doubts.now) IsManifestOfImage c.args.others.now.items _
    (λ k has. listed None c.args.doubts.now c.args.doubts.now _ refl e k has) (keys_start c.args.doubts.now _ e)
