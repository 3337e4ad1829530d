use Rattle.std.proofs.Common.{map}
use Rattle.lr_creator.specs.Creation.{piece}
use Rattle.lr_creator.specs.Progress.{raw_len_of}
use Rattle.lr_creator.specs.Seen.{seen_end}
use Rattle.lr_images.specs.declared.created.Created.TheVariants.{ReadFault, OutOfMemory}
use Rattle.lr_images.proofs.Creations.{whole_more, whole_early, last_piece, under_way_at, too_long, stopped, never_read}
use Rattle.lr_images.proofs.creating.turn.Goals as goal

pub returns-in-Some-clause-created : goal.returns-in-Some-clause-created
returns-in-Some-clause-created g c = λ base before u.
    whole_early g.O.Origin.faults base c.args.depot.now c.put_piece.new.depot c.args.machine.now before (g.I.Source.left c.args.source.now) (g.I.Source.left c.read_piece.new.source) c.args.len c.answer_of.result (seen_end c.in-Some.end)
    c.in-Whole.plain.items c.deref.result.now c.deref.ensures.value c.in-Whole.ensures.read.0 c.in-Whole.ensures.read.1 c.in-Whole.ensures.read.2 c.answer_of.ensures.answer c.in-Some.ensures.early u
    (c.in-Some.ensures.drives base (map piece u.pieces) u.drives)

pub returns-in-Whole-clause-created : goal.returns-in-Whole-clause-created
returns-in-Whole-clause-created g c = λ base before u.
    whole_more g.O.Origin.faults base c.args.depot.now c.put_piece.new.depot c.args.machine.now c.put_piece.new.machine before (g.I.Source.left c.args.source.now) (g.I.Source.left c.read_piece.new.source) c.args.len
    c.in-Whole.plain.items c.deref.result.now c.deref.ensures.value c.in-Whole.ensures.read.0 c.in-Whole.ensures.read.2 u (c.in-None.ensures.drives base (map piece u.pieces) u.drives)

pub returns-in-Last-clause-read_fault : goal.returns-in-Last-clause-read_fault
returns-in-Last-clause-read_fault g c = λ e. never_read c.finish.result _ c.finish.ensures.unread e

pub returns-in-Last-clause-created : goal.returns-in-Last-clause-created
returns-in-Last-clause-created g c = λ base before u.
    c.finish.ensures.created base before (g.I.Source.left c.args.source.now) (g.I.Source.left c.read_piece.new.source)
    (under_way_at g.O.Origin.faults base c.args.depot.now c.args.machine.now before (g.I.Source.left c.args.source.now) c.args.len (raw_len_of c.args.machine.now.need) c.requires.given u)
    (last_piece (g.I.Source.left c.args.source.now) (g.I.Source.left c.read_piece.new.source) c.in-Last.plain.items c.deref-in-Last.result.now c.deref-in-Last.ensures.value c.in-Last.ensures.read.2)

pub returns-in-Past-clause-created : goal.returns-in-Past-clause-created
returns-in-Past-clause-created g c = λ base before u.
    too_long g.O.Origin.faults base c.args.depot.now c.leave.new.depot c.args.machine.now before (g.I.Source.left c.args.source.now) (g.I.Source.left c.read_piece.new.source) c.args.len c.in-Past.field-0.items
    c.in-Past.ensures.read.0 c.in-Past.ensures.read.1 u (c.leave.ensures.drives base (map piece u.pieces) u.drives)

pub returns-in-Fault-clause-created : goal.returns-in-Fault-clause-created
returns-in-Fault-clause-created g c = λ base before u.
    stopped g.O.Origin.faults base c.args.depot.now c.leave-in-Fault.new.depot c.args.machine.now before (g.I.Source.left c.args.source.now) (g.I.Source.left c.read_piece.new.source) c.args.len ReadFault tt u
    (c.leave-in-Fault.ensures.drives base (map piece u.pieces) u.drives)

pub returns-clause-created : goal.returns-clause-created
returns-clause-created g c = λ base before u.
    stopped g.O.Origin.faults base c.args.depot.now c.leave-in-OutOfMemory.new.depot c.args.machine.now before (g.I.Source.left c.args.source.now) (g.I.Source.left c.read_piece.new.source) c.args.len OutOfMemory tt u
    (c.leave-in-OutOfMemory.ensures.drives base (map piece u.pieces) u.drives)
