use Rattle.std.specs.Arc.{arc_value}
use Rattle.std.proofs.lemmas.Result.{IfOk-weaker}
use Rattle.lr_play.proofs.Casting.{given_same, new_same}
use Rattle.lr_play.proofs.cast.actor_of.Goals as goal

pub new-requires-clause-jobs : goal.new-requires-clause-jobs
new-requires-clause-jobs c = given_same (arc_value c.args.context.now) (arc_value c.in_ok-context.context) c.args.jobs.now c.in_ok-jobs.jobs.items c.in_ok-context.ensures c.in_ok-jobs.ensures c.requires.jobs

pub returns : goal.returns
returns c = IfOk-weaker c.new.result _ _ (λ a h. new_same (arc_value c.args.context.now) (arc_value c.in_ok-context.context) c.args.jobs.now c.in_ok-jobs.jobs.items c.args.number c.args.crash a c.in_ok-context.ensures c.in_ok-jobs.ensures h) c.new.ensures
