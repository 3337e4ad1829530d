use Rattle.std.proofs.Common.{arith, ◌∙◌}
use Rattle.lr_turn.proofs.Takes.{count_at}
use Rattle.lr_turn.proofs.shared.Shared.note.Goals as goal

pub store-requires : goal.store-requires
store-requires g c = let size = c.args.self.now.sized in let h = c.requires.held in
    (c.requires.own, omega (arith, size.0), count_at g.S.Object.log g.S.Object.fixed g.S.Object.shares g.S.Object.answers g.S.Object.enters _ _ _ _ _ h.0 h.1 c.args.entries size.1 h.2 c.requires.turn.0 c.requires.turn.1 h.3 h.4 h.5 h.6 h.7)

pub returns-clause-noted : goal.returns-clause-noted
returns-clause-noted g c = let h = c.requires.held in let did = c.store.ensures.2 in
    (h.0, h.1, h.2, h.3, λ i. (did.1 h.0 h.1 h.2 h.3 i, (did.0 ∙ h.2) i))
