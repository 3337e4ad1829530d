use Rattle.std.proofs.Common.{arith, ◌∙◌}
use Rattle.lr_turn.proofs.Passes.{does_join}
use Rattle.lr_turn.proofs.shared.Shared.join.Goals as goal

pub join_seat-requires : goal.join_seat-requires
join_seat-requires g c = let size = c.args.self.now.sized in let v = c.args.first.now in let w = c.args.other in (
  c.requires.own.0,
  c.requires.own.1,
  w.idle.0,
  omega (arith, size.0),
  does_join g.S.Object.log g.S.Object.fixed g.S.Object.shares g.S.Object.answers g.S.Object.enters _ _ _ _ _ _ v.idle.1 v.idle.2 (v.number_is ∙ c.requires.first) w.idle.1 w.idle.2,
)
