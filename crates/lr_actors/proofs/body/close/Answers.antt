use Rattle.std.proofs.Common.{refl}
use Rattle.lr_actors.proofs.Going.{closed}
use Rattle.lr_actors.proofs.body.close.Goals as goal

pub returns : goal.returns
returns c = closed c.args.setting.now c.args.book.now _ c.requires.setting c.requires.between c.requires.crash c.requires.each refl
