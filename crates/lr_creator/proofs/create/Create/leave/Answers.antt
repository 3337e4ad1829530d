use Rattle.lr_creator.specs.Creation.{with_stop}
use Rattle.lr_creator.specs.Seen.{need_of}
use Rattle.lr_creator.proofs.Creations.{left_whole}
use Rattle.lr_creator.proofs.create.Create.leave.Goals as goal

pub invariant_of-self : goal.invariant_of-self
invariant_of-self c = left_whole (need_of c.replace-stage.result) with_stop c.stop_turn-turn.result c.stop_turn-turn.ensures
