use Rattle.lr_overlay.proofs.Places.{pages_have}
use Rattle.lr_overlay.proofs.Overlay.is_whole.Goals as goal

pub returns : goal.returns
returns c = rw (← c.self.view_is) (pages_have c.self.inside.chunks.items c.self.inside.count)
