use Rattle.std.proofs.Common.{refl}
use Rattle.lr_text.proofs.MaximalRuns.{first_run_is}
use Rattle.lr_text.proofs.bytes.first_run.Goals as goal

pub returns-clause-runs : goal.returns-clause-runs
returns-clause-runs c = rw c.split_at.ensures.back (first_run_is c.args.bytes.now _ c.front-n.result c.requires refl c.front-n.ensures.count)
