use Rattle.std.proofs.Common.{arith}
use Rattle.lr_turn.proofs.Takes.{leave_at}
use Rattle.lr_turn.proofs.shared.Shared.leave.Goals as goal

pub swap-requires : goal.swap-requires
swap-requires g c = let size = c.args.self.now.sized in let h = c.requires.held in
    (c.requires.own, omega (arith, size.0), leave_at g.S.Object.log g.S.Object.fixed g.S.Object.shares g.S.Object.answers g.S.Object.enters _ _ _ _ _ h.0 size.1 h.1 c.requires.turn.0 c.requires.turn.1 h.2 h.3)
