use Rattle.std.proofs.Common.{◌+◌, Some, refl, subst, ◌∙◌}
use Rattle.std.specs.FinMap as map
use Rattle.lr_origin.specs.Objects.{pointed}
use Rattle.lr_roots.specs.Names.{IsNextImage}
use Rattle.lr_depot.specs.Kernel.{state_of}
use Rattle.lr_depot.specs.Machine.{IsOwedAt}
use Rattle.lr_depot.proofs.Ready.{is_not}
use Rattle.lr_depot.proofs.Served.{owed_named, pointed_copied}
use Rattle.lr_depot.proofs.Walked.{walked_found, walked_step}
use Rattle.lr_depot.proofs.collecting.first_owed.Goals as goal

pub returns-then-is_owed_at : goal.returns-then-is_owed_at
returns-then-is_owed_at c = λ makers.
    let next : IsNextImage c.loop-turn.after c.args.kernel.now.catalog.view (Some c.in-Some.image) =
    subst (λ a. IsNextImage a c.args.kernel.now.catalog.view (Some c.in-Some.image)) (pointed_copied c.as_ref.result ∙ c.as_ref.ensures.value) (subst (IsNextImage (pointed c.as_ref.result) c.args.kernel.now.catalog.view) c.in-Some.is c.next_image.ensures) in
    walked_found c.args.kernel.now.catalog.view (IsOwedAt (state_of c.args.kernel.now map.empty) c.args.root) (owed_named (state_of c.args.kernel.now map.empty) c.args.root) c.loop-turn.after c.loop-turn._turn c.loop-turn.invariant c.in-Some.image next
    ((c.is_owed_at.ensures map.empty).0 c.if-is_owed_at.true)

pub loop-turn-preserved : goal.loop-turn-preserved
loop-turn-preserved c =
    let next : IsNextImage c.loop-turn.after c.args.kernel.now.catalog.view (Some c.in-Some.image) =
    subst (λ a. IsNextImage a c.args.kernel.now.catalog.view (Some c.in-Some.image)) (pointed_copied c.as_ref.result ∙ c.as_ref.ensures.value) (subst (IsNextImage (pointed c.as_ref.result) c.args.kernel.now.catalog.view) c.in-Some.is c.next_image.ensures) in
    walked_step c.args.kernel.now.catalog.view (IsOwedAt (state_of c.args.kernel.now map.empty) c.args.root) c.loop-turn.after c.loop-turn._turn (c.loop-turn._turn + 1) c.in-Some.image refl c.loop-turn.invariant next
    (is_not (c.is_owed_at.ensures map.empty) c.if-is_owed_at.false)
