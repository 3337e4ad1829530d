use Rattle.lr_top.proofs.Kept.{plays_keep, commands_keep}
use Rattle.lr_top.proofs.keeping.sound_stores_are_kept.Goals as goal

pub returns : goal.returns
returns g c = record {
  plays = plays_keep g.O.Origin.objects g.O.Origin.faults c.store_stays_sound.ensures.sound c.images_stay.ensures.kept;
  commands = commands_keep g.O.Origin.objects g.O.Origin.faults c.store_stays_sound.ensures.sound c.images_stay.ensures.kept;
}
