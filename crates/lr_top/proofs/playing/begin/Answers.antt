use Rattle.std.proofs.Common.{refl, arith}
use Rattle.lr_top.proofs.Acting.{stopped_from}
use Rattle.lr_top.proofs.playing.begin.Goals as goal

pub returns-in-Err-clause-begun : goal.returns-in-Err-clause-begun
returns-in-Err-clause-begun g c =
    stopped_from g.O.Origin.objects g.O.Origin.faults c.args.depot c.args.script
    (record { written_before = g.W.Sink.written c.args.sink.now; written_after = g.W.Sink.written c.args.sink.now; faults_before = g.W.Sink.faults c.args.sink.now; faults_after = g.W.Sink.faults c.args.sink.now })
    c.stopped.result.origin c.in-Err.field-0.depot c.in-Err.field-0.error c.stopped.result.run c.stopped.result.status c.stopped.result.line c.in-Err.ensures.left.0 c.in-Err.ensures.left.1 c.stopped.ensures.status c.stopped.ensures.line
    c.stopped.ensures.ended c.stopped.ensures.run refl c.stops_are_told.ensures.told c.stops_are_told.ensures.only

pub returns-in-Err-clause-never_falls : goal.returns-in-Err-clause-never_falls
returns-in-Err-clause-never_falls g c = omega (arith, c.in-Err.ensures.never_falls, c.stopped.ensures.never_falls)
