use Rattle.lr_report.specs.Report.{report_text}
use Rattle.lr_top.proofs.Reported.{none_written}
use Rattle.lr_top.proofs.playing.write_report.Goals as goal

pub returns-in-Err-clause-written : goal.returns-in-Err-clause-written
returns-in-Err-clause-written g c = none_written (g.W.Sink.written c.args.sink.now) (report_text c.args.run.now)
