use Rattle.std.proofs.Common.{subst}
use Rattle.std.specs.Option.{option_copied}
use Rattle.lr_depot.specs.Sessions.{IsCreated}
use Rattle.lr_depot.proofs.numbered.creates.Goals as goal

pub returns-in-None : goal.returns-in-None
returns-in-None c = (λ t. cc, λ h. absurd (subst (λ o. IsCreated (option_copied o) c.args.session.now) c.in-None.is c.created.ensures c.args.image.now h))
