use Rattle.std.proofs.Common.{refl}
use Rattle.lr_convergent.proofs.piece.Piece.make.Goals as goal

pub returns : goal.returns
returns c = refl
