use Rattle.lr_actors.specs.Jobs.{seen_context}
use Rattle.lr_world.specs.World.{seen_of}
use Rattle.lr_play.proofs.Fresh.{fresh}
use Rattle.lr_play.proofs.Playing.{first_begins}
use Rattle.lr_play.proofs.play.new_actors.Goals as goal

pub cast_of-requires-clause-context : goal.cast_of-requires-clause-context
cast_of-requires-clause-context g c =
    let f = fresh c.args.script.now c.requires.within c.args.parts.now c.args.context c.requires.started c.leases_are_out.ensures c.requires.prepared.0 c.requires.prepared.1 in f.is

pub cast_of-requires-clause-hosted : goal.cast_of-requires-clause-hosted
cast_of-requires-clause-hosted g c =
    let f = fresh c.args.script.now c.requires.within c.args.parts.now c.args.context c.requires.started c.leases_are_out.ensures c.requires.prepared.0 c.requires.prepared.1 in f.hosted

pub cast_of-requires-clause-given : goal.cast_of-requires-clause-given
cast_of-requires-clause-given g c =
    let f = fresh c.args.script.now c.requires.within c.args.parts.now c.args.context c.requires.started c.leases_are_out.ensures c.requires.prepared.0 c.requires.prepared.1 in
    c.jobs_may_be_given.ensures c.args.script.now (seen_context c.args.context) c.args.context.hosts c.requires.within f.many

pub returns : goal.returns
returns g c =
    let f = fresh c.args.script.now c.requires.within c.args.parts.now c.args.context c.requires.started c.leases_are_out.ensures c.requires.prepared.0 c.requires.prepared.1 in
    (seen_context c.args.context, c.args.context.hosts, first_begins c.args.script.now c.requires.within (seen_context c.args.context) c.args.context.hosts (seen_of c.args.parts.now c.in-Ok.cast.actors) f c.in-Ok.ensures.actors)
