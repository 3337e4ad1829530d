use Rattle.lr_actors.proofs.Taking.{crash_goes, works_go}
use Rattle.lr_actors.proofs.body.stay.Goals as goal

pub returns : goal.returns
returns c =
    rw c.hold.ensures (works_go c.args.setting.now c.args.book.now c.args.job c.args.call c.args.removed c.requires.setting c.requires.has c.if-is_at_crash.ensures c.requires.next c.requires.some (c.requires.room c.if-removed.false))

pub returns-then-is_at_crash : goal.returns-then-is_at_crash
returns-then-is_at_crash c = crash_goes c.args.setting.now c.args.book.now c.crash.new.book c.args.job c.crash.result c.args.call c.args.removed c.requires.next c.crash.ensures
