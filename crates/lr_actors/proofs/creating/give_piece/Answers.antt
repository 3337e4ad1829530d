use Rattle.std.proofs.Common.{◌-◌, refl, sym, length, arith}
use Rattle.lr_actors.specs.Bounds.{chunks}
use Rattle.lr_actors.proofs.Bounds.{piece_left, short_left}
use Rattle.lr_actors.proofs.Created.{gave_piece, gave_none}
use Rattle.lr_actors.proofs.Steady.{is_piece, gave_fed, short_fed, gave_steady, short_steady}
use Rattle.lr_actors.proofs.creating.give_piece.Goals as goal

pub give-requires-clause-piece : goal.give-requires-clause-piece
give-requires-clause-piece c =
    is_piece (record { create = c.args.create.now; raw = c.args.raw.now; given = c.args.given }) c.piece_of-piece.result.now c.requires.wants c.requires.steady c.requires.more (omega arith) (omega arith) (omega arith)

pub returns-in-Ok-clause-steady : goal.returns-in-Ok-clause-steady
returns-in-Ok-clause-steady c =
    gave_steady (record { create = c.args.create.now; raw = c.args.raw.now; given = c.args.given }) c.give.new.self c.piece_of-piece.result.now c.piece_end-to.result c.in-Ok.ensures.gave c.requires.wants c.requires.steady c.requires.more
    (sym c.piece_of-piece.ensures.length) c.piece_end-to.ensures.within (λ less. let chunk = c.piece_end-to.ensures.chunk less in omega arith)

pub returns-in-Ok-clause-fed : goal.returns-in-Ok-clause-fed
returns-in-Ok-clause-fed c = gave_fed c.args.create.now.need c.give.new.self.need c.piece_of-piece.result.now c.in-Ok.ensures.gave

pub returns-in-Ok-clause-stands : goal.returns-in-Ok-clause-stands
returns-in-Ok-clause-stands c =
    gave_piece (record { create = c.args.create.now; raw = c.args.raw.now; given = c.args.given }) (record { create = c.give.new.self; raw = c.args.raw.now; given = c.piece_end-to.result }) c.piece_of-piece.result.now refl
    c.piece_of-piece.ensures.joined c.in-Ok.ensures.stands c.requires.wants

pub returns-in-Err-clause-steady : goal.returns-in-Err-clause-steady
returns-in-Err-clause-steady c = short_steady (record { create = c.args.create.now; raw = c.args.raw.now; given = c.args.given }) c.give.new.self c.in-Err.ensures.short c.requires.steady

pub returns-in-Err-clause-fed : goal.returns-in-Err-clause-fed
returns-in-Err-clause-fed c = short_fed c.args.create.now.need c.give.new.self.need c.in-Err.ensures.short

pub returns-in-Err-clause-stands : goal.returns-in-Err-clause-stands
returns-in-Err-clause-stands c =
    gave_none (record { create = c.args.create.now; raw = c.args.raw.now; given = c.args.given }) (record { create = c.give.new.self; raw = c.args.raw.now; given = c.args.given }) refl refl c.in-Err.ensures.keeps c.requires.wants

pub returns-in-Ok-clause-nears : goal.returns-in-Ok-clause-nears
returns-in-Ok-clause-nears c =
    piece_left c.args.create.now.need c.give.new.self.need c.piece_of-piece.result.now (length c.args.raw.now) c.args.given c.piece_end-to.result c.in-Ok.ensures.gave c.piece_end-to.ensures.more c.piece_end-to.ensures.most
    c.piece_end-to.ensures.within c.piece_end-to.ensures.chunk

pub returns-in-Err-clause-nears : goal.returns-in-Err-clause-nears
returns-in-Err-clause-nears c = short_left c.args.create.now.need c.give.new.self.need (chunks (length c.args.raw.now - c.args.given)) c.in-Err.ensures.short
