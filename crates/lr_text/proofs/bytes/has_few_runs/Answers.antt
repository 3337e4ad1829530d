use Rattle.std.proofs.Common.{◌<◌, length, rules, tests}
use Rattle.lr_text.proofs.MaximalRuns.{too_many}
use Rattle.lr_text.proofs.bytes.has_few_runs.Goals as goal

pub returns-then-runs-eq-RUNS_MAX : goal.returns-then-runs-eq-RUNS_MAX
returns-then-runs-eq-RUNS_MAX c =
    let some : 0 < length c.loop-rest.rest.now = search (rules, tests) in
    too_many c.loop-rest.rest.now c.loop-rest.runs _ some c.loop-rest.invariant.0 c.if-runs-eq-RUNS_MAX.true
