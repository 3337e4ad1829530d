use Rattle.std.proofs.Common.{List, sym, subst, map}
use Rattle.std.specs.Arc.{arc_value}
use Rattle.std.specs.List.{AllByRecursion}
use Rattle.lr_script.specs.declared.script.Job.{Job as Line}
use Rattle.lr_script.specs.Seen.{jobs_seen}
use Rattle.lr_actors.specs.Jobs.{job_of, seen_context}
use Rattle.lr_actors.specs.Actor.{MayBeGiven}
use Rattle.lr_play.proofs.Lists.{got}
use Rattle.lr_play.proofs.Casting.{given_at, new_next}
use Rattle.lr_play.proofs.cast.actors_of.Goals as goal

pub actor_of-requires-clause-jobs : goal.actor_of-requires-clause-jobs
actor_of-requires-clause-jobs c =
    let at = got c.args.actors.now c.loop-place.place c.index-actors-place.result c.loop-place-test.true c.index-actors-place.is in
    subst (λ (lines : List Line). AllByRecursion (MayBeGiven (seen_context (arc_value c.args.context.now)) (arc_value c.args.context.now).hosts) (map job_of (jobs_seen lines))) (sym c.deref.ensures.value)
    (given_at (seen_context (arc_value c.args.context.now)) (arc_value c.args.context.now).hosts c.args.crashes.now 1 c.args.actors.now c.loop-place.place c.index-actors-place.result c.requires.given at)

pub loop-place-preserved : goal.loop-place-preserved
loop-place-preserved c =
    let at = got c.args.actors.now c.loop-place.place c.index-actors-place.result c.loop-place-test.true c.index-actors-place.is in
    new_next (seen_context (arc_value c.args.context.now)) (arc_value c.args.context.now).hosts c.args.crashes.now c.args.actors.now c.loop-place.place c.index-actors-place.result c.deref.result.now c.crash_of-crash.result
    c.loop-place.made.items c.push.new.self.items c.in_ok-actor_of.field-0 c.deref.ensures.value c.crash_of-crash.ensures c.in_ok-push.ensures.items at c.loop-place.invariant c.in_ok-actor_of.ensures
