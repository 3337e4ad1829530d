use Rattle.lr_actors.proofs.Ending.{filled}
use Rattle.lr_actors.proofs.body.fill.Goals as goal

pub returns : goal.returns
returns c = filled c.args.setting.now c.args.book.now c.cut_one.new.book c.leave_rest.new.book c.requires.has c.cut_one.ensures c.leave_rest.ensures.rest c.leave_rest.ensures.each
