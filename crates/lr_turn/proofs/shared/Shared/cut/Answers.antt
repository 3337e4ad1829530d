use Rattle.std.proofs.Common.{arith}
use Rattle.lr_turn.proofs.Passes.{does_split}
use Rattle.lr_turn.proofs.shared.Shared.cut.Goals as goal

pub split_seat-requires : goal.split_seat-requires
split_seat-requires g c = let size = c.args.self.now.sized in let h = c.requires.first in
    (c.requires.own, omega (arith, size.0), does_split g.S.Object.log g.S.Object.fixed g.S.Object.shares g.S.Object.answers g.S.Object.enters _ _ _ g.N.Number.number _ h.0 h.1 h.2)
