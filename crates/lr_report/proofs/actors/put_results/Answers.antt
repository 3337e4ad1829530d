use Rattle.std.proofs.Common.{◌+◌, refl}
use Rattle.lr_report.specs.Report.{result_line, results_part}
use Rattle.lr_report.proofs.Zipped.{number_more, numbers_all}
use Rattle.lr_report.proofs.actors.put_results.Goals as goal

pub loop-at-preserved : goal.loop-at-preserved
loop-at-preserved c =
    number_more result_line c.args.out.now.items c.loop-at.out.items c.args.results.now c.loop-at.at c.put_result.new.out.items c.index-results-at.result (c.loop-at.at + 1) refl
    c.loop-at-test.true c.index-results-at.is c.loop-at.invariant c.in_ok-put_result.ensures

pub returns : goal.returns
unfolding results_part
returns c = numbers_all result_line c.args.out.now.items c.loop-at.out.items c.args.results.now c.loop-at.at c.loop-at-test.false c.loop-at.invariant
