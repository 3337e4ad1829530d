use Rattle.std.proofs.Common.{◌≡◌, take}
use Rattle.lr_script.specs.Seen.{jobs_seen}
use Rattle.lr_script.proofs.copies.copy_jobs.Given as goal

abbrev pub invariant-loop-job : goal.invariant-loop-job
invariant-loop-job l = jobs_seen l.copies.items ≡ jobs_seen (take l.job-index l.jobs)
