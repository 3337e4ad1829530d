use Rattle.std.proofs.Common.{◌≡◌, refl, sym, ap, subst, ◌∙◌}
use Rattle.std.specs.Arc.{arc_value}
use Rattle.std.specs.FinMap as map
use Rattle.sha2.specs.Sha256.{sha256}
use Rattle.lr_origin.specs.Objects.{found}
use Rattle.lr_origin.specs.declared.key.KeyKind.TheVariants.{Chunk}
use Rattle.lr_depot.specs.declared.call.DepotCall.TheVariants as call
use Rattle.lr_depot.specs.declared.call.DepotNoted.TheVariants as noted
use Rattle.lr_depot.specs.declared.call.DepotReply.TheVariants as reply
use Rattle.lr_depot.specs.declared.call.DepotTold.TheVariants as told
use Rattle.lr_depot.specs.Kernel.{state_of}
use Rattle.lr_depot.specs.Machine.{IsCopy}
use Rattle.lr_depot.proofs.Bodies.{copied_store}
use Rattle.lr_depot.proofs.Ready.{moves_logged}
use Rattle.lr_depot.proofs.copying.copy_read.Goals as goal

pub returns-clause-served : goal.returns-clause-served
returns-clause-served g c = λ makers own.
    let digest : c.in-Ok.place.name.bytes ≡ sha256 (arc_value c.in-Ok-new.handle) = sym c.in-Ok-check.ensures.chunk.2 ∙ ap sha256 (sym (c.in-Ok-new.ensures.ok ∙ c.in-Ok-check.ensures.chunk.0)) in
    moves_logged (state_of c.args.kernel.now makers) c.args.kernel.now c.args.caller (call.CopyRead c.args.session c.args.index) (noted.CopyRead c.args.session c.args.index) c.logged-2.result
    (reply.Copied c.in-Ok-new.handle) (told.Copied c.in-Ok.place.name) c.logged-2.ensures (
      c.in-Ok.ensures.place.chunk.0,
      subst (IsCopy (state_of c.args.kernel.now makers) c.args.session c.args.caller c.args.index) (c.in-Ok.ensures.place.chunk.1 ∙ ap (Chunk c.in-Ok.ensures.place.chunk.0) digest) (c.in-Ok.ensures.place.copy makers),
    ) refl digest
    (record { aside = c.requires.ready.aside; view = refl; doubts = refl; leases = refl; sessions = refl; next_lease = refl; next_session = refl; next_number = refl; makers = own })

pub returns-clause-store : goal.returns-clause-store
returns-clause-store g c = λ makers m told.
    copied_store (state_of c.args.kernel.now makers) c.args.caller c.args.session c.args.index c.in-Ok-new.handle c.logged-2.result.reply c.in-Ok.place.key
    c.in-Ok.ensures.place.chunk.0 c.in-Ok.place.name.bytes c.in-Ok-Some.body.items m _
    c.logged-2.ensures.0 (c.in-Ok.ensures.place.copy makers) c.in-Ok.ensures.place.chunk.1
    c.in-Ok-check.ensures.chunk.1 c.in-Ok-check.ensures.chunk.2 (c.in-Ok-new.ensures.ok ∙ c.in-Ok-check.ensures.chunk.0)
    (ap (map.get m) (sym c.as_bytes.ensures.text) ∙ sym (c.in-Ok-Some.ensures.body m told) ∙ ap found c.in-Ok-Some.field-0-is) (c.get.ensures.same ∙ told)
