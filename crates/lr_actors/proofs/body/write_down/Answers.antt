use Rattle.std.proofs.Common.{◌∙◌, sym}
use Rattle.lr_actors.proofs.Taking.{written_busy, written_one}
use Rattle.lr_actors.proofs.body.write_down.Goals as goal

pub returns : goal.returns
returns c =
    written_one c.args.book.now c.note.new.book c.one_more-book.result c.args.object _ (sym c.answers_busy.ensures ∙ c.if-answers_busy.false) c.one_more-book.ensures (rw c.answers_memory.ensures at c.note.ensures)

pub returns-then-answers_busy : goal.returns-then-answers_busy
returns-then-answers_busy c =
    written_busy c.args.book.now c.one_more-book.result c.args.object _ c.requires.is (sym c.answers_busy.ensures ∙ c.if-answers_busy.true) c.one_more-book.ensures
