use Rattle.lr_desk.proofs.Doing.{creations_leave, readings_write}
use Rattle.lr_desk.proofs.laws.done_images.Goals as goal

pub returns-clause-made : goal.returns-clause-made
returns-clause-made c = creations_leave c.created_images_denote.ensures

pub returns-clause-written : goal.returns-clause-written
returns-clause-written c = readings_write
