use Rattle.std.proofs.Common.{sym}
use Rattle.lr_overlay.proofs.Places.{pages_count}
use Rattle.lr_overlay.proofs.Overlay.count.Goals as goal

pub returns-clause-count : goal.returns-clause-count
returns-clause-count c = rw (← c.self.view_is) (sym (pages_count c.self.inside.chunks.items c.self.inside.count))
