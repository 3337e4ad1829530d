use Rattle.lr_actors.proofs.Taking.{working_has, working_room, stepped}
use Rattle.lr_actors.proofs.body.step.Goals as goal

pub write_down-requires : goal.write_down-requires
write_down-requires c = record {
  is = c.requires.has.fits.is;
  has = working_has c.args.setting.now c.args.book.now c.args.working c.requires.setting c.requires.has c.requires.under c.requires.working;
  room = working_room c.args.setting.now c.args.book.now c.args.working c.requires.under c.requires.working;
}

pub returns : goal.returns
returns c = stepped c.args.setting.now c.args.book.now c.write_down.new.book c.args.working c.take_in.result _ c.requires.has c.requires.under c.requires.working c.requires.admitted c.write_down.ensures c.take_in.ensures
