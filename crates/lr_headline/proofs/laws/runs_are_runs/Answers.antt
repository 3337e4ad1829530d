use Rattle.lr_headline.proofs.Wholes.{is_run, device_logs, cache_logs}
use Rattle.lr_headline.proofs.laws.runs_are_runs.Goals as goal

pub returns : goal.returns
returns c = record { trails = is_run c.trails_are_seen.ensures; devices = device_logs; caches = cache_logs }
