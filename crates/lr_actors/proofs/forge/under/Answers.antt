use Rattle.std.proofs.Common.{refl}
use Rattle.lr_actors.proofs.Forgings.{forged_by}
use Rattle.lr_actors.proofs.forge.under.Goals as goal

pub returns : goal.returns
returns c = forged_by c.args._zeros.now c.args.name.now c.args._index _ c.args.stripe c.requires.zeros c.requires.good c.requires.bytes refl
