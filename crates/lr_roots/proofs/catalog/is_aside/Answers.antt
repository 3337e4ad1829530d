use Rattle.lr_roots.proofs.Aside.{tested_aside}
use Rattle.lr_roots.proofs.catalog.is_aside.Goals as goal

pub returns-in-Some : goal.returns-in-Some
returns-in-Some c = tested_aside c.eq.result c.in-Some.before c.args.key.now c.args.aside.now c.eq.ensures c.in-Some.is
