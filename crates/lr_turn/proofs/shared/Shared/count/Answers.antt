use Rattle.std.proofs.Common.{arith}
use Rattle.lr_turn.proofs.Takes.{tell_at}
use Rattle.lr_turn.proofs.shared.Shared.count.Goals as goal

pub load-requires : goal.load-requires
load-requires g c = let size = c.args.self.now.sized in let idle = c.args.pass.now.idle in
    (c.requires, omega (arith, size.0), tell_at g.S.Object.log g.S.Object.fixed g.S.Object.shares g.S.Object.answers g.S.Object.enters _ _ _ _ _ size.1 idle.0 idle.1)
