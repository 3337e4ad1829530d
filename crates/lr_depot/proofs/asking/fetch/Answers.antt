use Rattle.std.proofs.Common.{sym, ap, ◌∙◌}
use Rattle.std.specs.FinMap as map
use Rattle.lr_origin.specs.Objects.{found}
use Rattle.lr_depot.specs.Kernel.{state_of}
use Rattle.lr_depot.proofs.Bodies.{fetched_store}
use Rattle.lr_depot.proofs.asking.fetch.Goals as goal

pub returns-clause-store : goal.returns-clause-store
returns-clause-store g c = λ makers m told.
    fetched_store (state_of c.args.kernel.now makers) c.args.caller c.args.lease c.args.index c.in-Ok-new.handle c.logged-2.result.reply c.in-Ok.place.key
    c.in-Ok.ensures.place.chunk.0 c.in-Ok.place.name.bytes c.in-Ok-Some.body.items m _
    c.logged-2.ensures.0 (c.in-Ok.ensures.place.fetch makers) c.in-Ok.ensures.place.chunk.1
    c.in-Ok-check.ensures.chunk.1 c.in-Ok-check.ensures.chunk.2 (c.in-Ok-new.ensures.ok ∙ c.in-Ok-check.ensures.chunk.0)
    (ap (map.get m) (sym c.as_bytes.ensures.text) ∙ sym (c.in-Ok-Some.ensures.body m told) ∙ ap found c.in-Ok-Some.field-0-is) (c.get.ensures.same ∙ told)
