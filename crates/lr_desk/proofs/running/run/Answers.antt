use Rattle.lr_desk.specs.Ends.{setting}
use Rattle.lr_desk.proofs.Walking.{ran_other, ran_text, no_write_fault, not_origin}
use Rattle.lr_desk.proofs.running.run.Goals as goal

pub returns-in-Err-clause-ran : goal.returns-in-Err-clause-ran
returns-in-Err-clause-ran g c =
    ran_other c.args.command (setting g.O.Origin.objects c.args.depot.now (g.I.Source.left c.args.source.now) (g.I.Source.left c.made.new.source)) c.made.new.depot.log (g.W.Sink.written c.args.sink.now) c.in-Err.outcome c.in-Err.ensures.walk

pub returns-in-Err-clause-write_fault : goal.returns-in-Err-clause-write_fault
returns-in-Err-clause-write_fault g c = λ e.
    absurd (no_write_fault c.args.command (setting g.O.Origin.objects c.args.depot.now (g.I.Source.left c.args.source.now) (g.I.Source.left c.made.new.source)) c.made.new.depot.log c.in-Err.outcome c.in-Err.ensures.walk e)

pub returns-in-Ok-clause-ran : goal.returns-in-Ok-clause-ran
returns-in-Ok-clause-ran g c =
    ran_text c.args.command (setting g.O.Origin.objects c.args.depot.now (g.I.Source.left c.args.source.now) (g.I.Source.left c.made.new.source)) c.made.new.depot.log (g.W.Sink.written c.args.sink.now) (g.W.Sink.written c.written.new.sink) c.written.result c.in-Ok.text c.deref.result.now c.deref.ensures.value c.in-Ok.ensures.walk c.written.ensures.written

pub returns-in-Ok-clause-origin_fault : goal.returns-in-Ok-clause-origin_fault
returns-in-Ok-clause-origin_fault g c = λ e.
    absurd (not_origin (g.W.Sink.written c.args.sink.now) (g.W.Sink.written c.written.new.sink) c.deref.result.now c.written.result c.written.ensures.written e)

pub returns-in-Ok-clause-read_fault : goal.returns-in-Ok-clause-read_fault
returns-in-Ok-clause-read_fault g c = λ e. absurd (c.written.ensures.read e)
