use Rattle.std.proofs.Common.{sym}
use Rattle.lr_report.specs.Report.{doubts_part}
use Rattle.lr_report.proofs.Doubting.{doubt_more, doubts_all}
use Rattle.lr_report.proofs.depot.put_doubts.Goals as goal

pub loop-key-preserved : goal.loop-key-preserved
loop-key-preserved c =
    doubt_more c.args.out.now.items c.loop-key.out.items c.put_doubt.new.out.items c.args.depot.now.doubts c.loop-key.at c.in-Some.key.now (sym c.in-Some.ensures) c.loop-key.invariant c.in_ok-put_doubt.ensures

pub returns : goal.returns
unfolding doubts_part
returns c = doubts_all c.args.out.now.items c.loop-key.out.items c.args.depot.now.doubts c.loop-key.at (sym c.in_default.ensures) c.loop-key.invariant
