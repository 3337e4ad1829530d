use Rattle.std.proofs.Common.{rules}
use Rattle.lr_creator.specs.Seen.{need_of}
use Rattle.lr_creator.proofs.Creations.{gave_of, ok_then, matched_ok, given_whole}
use Rattle.lr_creator.proofs.create.Create.take_piece.Goals as goal

pub returns-clause-gave : goal.returns-clause-gave
returns-clause-gave c =
    ok_then c.piece_turn-turn.result.1 (gave_of (need_of c.replace-stage.result) c.args.self.now.need c.args.plain.now c.piece_turn-turn.result.0 (search rules))
    (matched_ok _ _ c.piece_turn-turn.result.1 c.piece_turn-turn.ensures)

pub invariant_of-self : goal.invariant_of-self
invariant_of-self c = given_whole (need_of c.replace-stage.result) c.args.plain.now c.piece_turn-turn.result.0 c.piece_turn-turn.result.1 c.piece_turn-turn.ensures
