-- What a session is for, an `Arc` by its value.
use Rattle.std.specs.Arc.{arc_value}
use Rattle.lr_rules.specs.State.{Job, Creates, Moves}
use Rattle.lr_depot.specs.declared.job.Job as own
use Rattle.lr_depot.specs.declared.job.Job.TheVariants as of

abbrev pub job_of : own.Job → Job
job_of (of.Creates image root number) = Creates image root number
job_of (of.Moves image from to m) = Moves image from to (arc_value m)
