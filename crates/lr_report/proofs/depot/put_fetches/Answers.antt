use Rattle.std.proofs.Common.{◌+◌, refl}
use Rattle.lr_report.specs.Report.{fetched_line, fetched_part}
use Rattle.lr_report.proofs.Zipped.{number_more, numbers_all}
use Rattle.lr_report.proofs.depot.put_fetches.Goals as goal

pub loop-at-preserved : goal.loop-at-preserved
loop-at-preserved c =
    number_more (fetched_line c.args.log.now) c.args.out.now.items c.loop-at.out.items c.args.callers.now c.loop-at.at c.put_fetched.new.out.items c.index-callers-at.result (c.loop-at.at + 1) refl
    c.loop-at-test.true c.index-callers-at.is c.loop-at.invariant c.in_ok-put_fetched.ensures

pub returns : goal.returns
unfolding fetched_part
returns c = numbers_all (fetched_line c.args.log.now) c.args.out.now.items c.loop-at.out.items c.args.callers.now c.loop-at.at c.loop-at-test.false c.loop-at.invariant
