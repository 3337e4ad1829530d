use Rattle.lr_actors.proofs.Going.{skipped}
use Rattle.lr_actors.proofs.body.skip.Goals as goal

pub returns : goal.returns
returns c = skipped c.args.setting.now c.args.book.now c.finish.new.book c.args.answer c.requires.between c.requires.walks c.finish.ensures
