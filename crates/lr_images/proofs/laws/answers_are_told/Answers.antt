use Rattle.lr_images.proofs.Why.{unspoiled, creations_tell, readings_tell}
use Rattle.lr_images.proofs.laws.answers_are_told.Goals as goal

pub returns-clause-unspoiled : goal.returns-clause-unspoiled
returns-clause-unspoiled c = unspoiled c.store_stays_sound.ensures.unspoiled

pub returns-clause-created : goal.returns-clause-created
returns-clause-created c = creations_tell

pub returns-clause-read : goal.returns-clause-read
returns-clause-read c = readings_tell
