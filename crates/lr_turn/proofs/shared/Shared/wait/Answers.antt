use Rattle.std.proofs.Common.{arith, ap, ◌∙◌}
use Rattle.lr_turn.proofs.Takes.{claim_at}
use Rattle.lr_turn.proofs.shared.Shared.wait.Goals as goal

pub swap-requires : goal.swap-requires
swap-requires g c = let size = c.args.self.now.sized in let l = c.loop.invariant in (
  l.2 ∙ c.requires.own,
  omega (arith, size.0),
  claim_at g.S.Object.log g.S.Object.fixed g.S.Object.shares g.S.Object.answers g.S.Object.enters _ _ _ _ c.loop.place.me size.1 (ap (λ m. m.1) l.3 ∙ c.requires.idle.0)
      (ap (λ m. m.0.spent) l.3 ∙ c.requires.idle.1),
)
