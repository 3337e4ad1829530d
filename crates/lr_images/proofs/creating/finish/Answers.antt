use Rattle.std.proofs.Common.{rules, ◌≡◌, [], ◌∷◌, ◌++◌, map, arith, length}
use Rattle.std.proofs.lemmas.Grind.{common_steps}
use Rattle.lr_creator.specs.Creation.{piece, last}
use Rattle.lr_creator.specs.Progress.{raw_len_of}
use Rattle.lr_creator.specs.Seen.{seen_end}
use Rattle.lr_images.proofs.Driving.{ended_on}
use Rattle.lr_images.proofs.Creations.{finish_empty, finish_early, finish_whole, takes_of_all, nil_of}
use Rattle.lr_images.proofs.creating.finish.Goals as goal

pub returns-then-is_empty-clause-created : goal.returns-then-is_empty-clause-created
returns-then-is_empty-clause-created g c = λ base before now left u all.
    let none : length c.args.plain.now ≡ 0 = grind (arith, common_steps) in
    finish_empty g.O.Origin.faults base c.args.depot.now c.put_last.new.depot c.args.machine.now before now left (raw_len_of c.args.machine.now.need) c.answer_of.result (seen_end c.put_last.result) c.args.plain.now
    (nil_of c.args.plain.now none) (omega (arith, c.requires.within)) c.answer_of.ensures.answer c.put_last.ensures.unstopped all u (c.put_last.ensures.drives base (map piece u.pieces) u.drives)

pub returns-in-Some-clause-created : goal.returns-in-Some-clause-created
returns-in-Some-clause-created g c = λ base before now left u all.
    finish_early g.O.Origin.faults base c.args.depot.now c.put_piece.new.depot c.args.machine.now before now left (raw_len_of c.args.machine.now.need) c.answer_of-in-Some.result (seen_end c.in-Some.end) c.args.plain.now
    c.requires.within c.answer_of-in-Some.ensures.answer c.in-Some.ensures.early (takes_of_all now left c.args.plain.now all) u (c.in-Some.ensures.drives base (map piece u.pieces) u.drives)

pub returns-in-None-clause-created : goal.returns-in-None-clause-created
returns-in-None-clause-created g c = λ base before now left u all.
    finish_whole g.O.Origin.faults base c.args.depot.now c.put_last-in-None.new.depot c.args.machine.now before now left (raw_len_of c.args.machine.now.need) c.answer_of-in-None.result (seen_end c.put_last-in-None.result) c.args.plain.now
    c.requires.within c.answer_of-in-None.ensures.answer c.put_last-in-None.ensures.unstopped all u
    (ended_on g.O.Origin.faults base c.put_last-in-None.new.depot c.args.machine.now c.put_piece.new.machine ((map piece u.pieces ++ piece c.args.plain.now ∷ []) ++ last ∷ []) (seen_end c.put_last-in-None.result) c.put_piece.ensures.same
    (c.put_last-in-None.ensures.drives base (map piece u.pieces ++ piece c.args.plain.now ∷ []) (c.in-None.ensures.drives base (map piece u.pieces) u.drives)))
