use Rattle.std.proofs.Common.{subst, refl}
use Rattle.std.specs.Option.{option_copied}
use Rattle.lr_depot.specs.Sessions.{IsCreation, IsCreated}
use Rattle.lr_depot.proofs.Added.{adds_none}
use Rattle.lr_depot.proofs.images.add_created.Goals as goal

pub returns-in-None : goal.returns-in-None
returns-in-None c =
    adds_none c.args.catalog.now.view (λ i. IsCreation i c.args.session.now) c.args.others.now.items c.args.others.now.items refl
    (λ i h. absurd (subst (λ o. IsCreated (option_copied o) c.args.session.now) c.in-None.is c.created.ensures i h))
