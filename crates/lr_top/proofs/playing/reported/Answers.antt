use Rattle.lr_top.proofs.playing.reported.Goals as goal

pub returns-clause-ended : goal.returns-clause-ended
returns-clause-ended g c = (c.write_report-end.result, c.ends.ensures.status, c.ends.ensures.line, c.write_report-end.ensures.written, c.write_report-end.ensures.cause)
