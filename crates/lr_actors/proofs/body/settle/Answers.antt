use Rattle.lr_actors.proofs.Ending.{crash_prepares}
use Rattle.lr_actors.proofs.body.settle.Goals as goal

pub returns-then-is_at_crash : goal.returns-then-is_at_crash
returns-then-is_at_crash c = crash_prepares c.args.setting.now c.args.book.now c.crash.new.book c.crash.result c.requires.between c.crash.ensures
