use Rattle.lr_images.proofs.Made.{creations_are_made}
use Rattle.lr_images.proofs.laws.created_images_denote.Goals as goal

pub returns : goal.returns
returns c = creations_are_made c.calls_keep_the_promise.ensures.parts c.store_stays_sound.ensures.sound c.store_stays_sound.ensures.kept c.denotes_its_parts.ensures
