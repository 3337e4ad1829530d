use Rattle.std.proofs.Common.{refl}
use Rattle.lr_actors.proofs.Ending.{crashed}
use Rattle.lr_actors.proofs.body.crash.Goals as goal

pub returns : goal.returns
returns c = crashed c.args.setting.now c.args.book.now c.fill.new.book _ c.requires.setting c.requires.crash c.fill.ensures refl
