use Rattle.lr_actors.proofs.Ending.{empty_items, some_items, left_unbegun, cut_off}
use Rattle.lr_actors.proofs.body.cut_one.Goals as goal

pub returns-then-is_empty : goal.returns-then-is_empty
returns-then-is_empty c =
    left_unbegun c.args.setting.now c.args.book.now c.finish.new.book c.requires.has c.requires.more (empty_items c.args.book.now c.is_empty.result c.is_empty.ensures c.if-is_empty.true) c.finish.ensures

pub returns : goal.returns
returns c = cut_off c.args.setting.now c.args.book.now c.finish-2.new.book c.requires.has (some_items c.args.book.now c.is_empty.result c.is_empty.ensures c.if-is_empty.false) c.finish-2.ensures
