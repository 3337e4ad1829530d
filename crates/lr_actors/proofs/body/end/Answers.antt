use Rattle.lr_actors.proofs.Going.{between_more}
use Rattle.lr_actors.proofs.Taking.{end_is}
use Rattle.lr_actors.proofs.body.end.Goals as goal

pub settle-requires : goal.settle-requires
settle-requires c = record {
  setting = c.requires.setting;
  between = between_more c.args.setting.now c.args.book.now c.finish.new.book c.args.answer c.requires.has c.requires.more c.requires.end c.finish.ensures;
  crash = rw c.finish.ensures.made c.requires.crash;
}

pub returns : goal.returns
returns c = end_is c.args.setting.now c.args.book.now c.finish.new.book c.settle.new.book c.args.answer c.settle.result c.requires.end c.finish.ensures c.settle.ensures
