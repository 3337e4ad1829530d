use Rattle.std.proofs.Common.{◌+◌, Some, None, refl, subst, ◌∙◌}
use Rattle.lr_origin.specs.Objects.{pointed}
use Rattle.lr_roots.specs.Names.{IsNextImage}
use Rattle.lr_desk.proofs.Viewing.{listing_start, listing_step, listing_end, pointed_copied}
use Rattle.lr_desk.proofs.roots.put_images.Goals as goal

pub loop-turn-init : goal.loop-turn-init
loop-turn-init c = listing_start c.args.catalog.now.view c.args.out.now.items

pub returns-in_default : goal.returns-in_default
returns-in_default c =
    let v = c.args.catalog.now.view in
    listing_end v c.loop-turn.after c.loop-turn._turn c.args.out.now.items c.loop-turn.out.items c.loop-turn.invariant
    (subst (λ a. IsNextImage a v None) (pointed_copied c.as_ref.result ∙ c.as_ref.ensures.value) (subst (IsNextImage (pointed c.as_ref.result) v) c.in_default.is c.next_image.ensures))

pub loop-turn-preserved : goal.loop-turn-preserved
loop-turn-preserved c =
    let v = c.args.catalog.now.view in
    listing_step v c.loop-turn.after c.loop-turn._turn (c.loop-turn._turn + 1) c.in-Some.image c.args.out.now.items c.loop-turn.out.items c.put_image.new.out.items refl c.loop-turn.invariant
    (subst (λ a. IsNextImage a v (Some c.in-Some.image)) (pointed_copied c.as_ref.result ∙ c.as_ref.ensures.value) (subst (IsNextImage (pointed c.as_ref.result) v) c.in-Some.is c.next_image.ensures))
    c.in_ok-put_image.ensures
