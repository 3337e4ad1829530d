use Rattle.lr_top.proofs.Reading.{is_read, none_outside, is_outside}
use Rattle.lr_top.proofs.input.read_script.Goals as goal

pub returns-in-Ok-parse-clause-script : goal.returns-in-Ok-parse-clause-script
returns-in-Ok-parse-clause-script g c = is_read (g.I.Source.left c.args.source.now) (g.I.Source.left c.read_up_to.new.source) c.deref.result.now c.in-Ok.text.items c.in-Ok-parse.script c.deref.ensures.value c.in-Ok.ensures.whole c.in-Ok-parse.ensures.spelled

pub returns-in-Ok-parse-clause-only : goal.returns-in-Ok-parse-clause-only
returns-in-Ok-parse-clause-only g c = none_outside (g.I.Source.left c.args.source.now) (g.I.Source.left c.read_up_to.new.source) c.deref.result.now c.in-Ok.text.items c.in-Ok-parse.script c.deref.ensures.value c.in-Ok.ensures.whole c.in-Ok-parse.ensures.spelled

pub returns-in-Err-Line-clause-outside : goal.returns-in-Err-Line-clause-outside
returns-in-Err-Line-clause-outside g c = is_outside (g.I.Source.left c.args.source.now) (g.I.Source.left c.read_up_to.new.source) c.deref.result.now c.in-Ok.text.items c.in-Err-Line.line c.deref.ensures.value c.in-Ok.ensures.takes c.in-Ok.ensures.whole (rw (c.in-Err-Line.is, c.in-Err-Line.field-0-is) at c.parse.ensures.outside)

pub returns-in-Err-Line-clause-bounded : goal.returns-in-Err-Line-clause-bounded
returns-in-Err-Line-clause-bounded g c = (c.in-Ok.text.items, c.in-Ok.ensures.bounded, c.in-Ok.ensures.takes)
