use Rattle.std.proofs.Common.{arith, ap, ◌∙◌}
use Rattle.lr_turn.proofs.Takes.{take_at}
use Rattle.lr_turn.proofs.shared.Shared.try_take.Goals as goal

pub compare_exchange-found-requires : goal.compare_exchange-found-requires
compare_exchange-found-requires g c = let size = c.args.self.now.sized in let l = c.loop.invariant in (
  l.0 ∙ c.requires.own,
  omega (arith, size.0),
  take_at g.S.Object.log g.S.Object.fixed g.S.Object.shares g.S.Object.answers g.S.Object.enters _ _ _ _ c.loop.place.me size.1 (ap (λ m. m.1) l.1 ∙ c.requires.idle.0)
      (ap (λ m. m.0.spent) l.1 ∙ c.requires.idle.1),
)
