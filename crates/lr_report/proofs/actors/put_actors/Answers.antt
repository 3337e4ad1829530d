use Rattle.std.proofs.Common.{arith}
use Rattle.lr_report.specs.Report.{actor_part, actors_part}
use Rattle.lr_report.proofs.Zipped.{pair_more, pairs_all}
use Rattle.lr_report.proofs.actors.put_actors.Goals as goal

pub returns-in_default : goal.returns-in_default
unfolding actors_part
returns-in_default c =
    pairs_all actor_part c.args.out.now.items c.loop-at.out.items c.args.names.now c.args.trails.now c.loop-at.at (let h = c.in_default.ensures.lookup.3 in omega arith) c.loop-at.invariant

pub loop-at-preserved : goal.loop-at-preserved
loop-at-preserved c =
    pair_more actor_part c.args.out.now.items c.loop-at.out.items c.args.names.now c.args.trails.now c.loop-at.at c.put_actor.new.out.items c.index-names-at.result c.in-Some.trail.now
    c.loop-at-test.true c.in-Some.ensures.lookup.3.0 c.index-names-at.is (c.in-Some.ensures.lookup.3.1 c.in-Some.trail.now) c.loop-at.invariant c.in_ok-put_actor.ensures

pub returns : goal.returns
unfolding actors_part
returns c =
    pairs_all actor_part c.args.out.now.items c.loop-at.out.items c.args.names.now c.args.trails.now c.loop-at.at (omega arith) c.loop-at.invariant
