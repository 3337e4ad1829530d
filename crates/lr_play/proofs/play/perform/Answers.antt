use Rattle.std.proofs.Common.{◌≡◌, ◌++◌, List, [], refl, sym, ap, subst, ◌∙◌}
use Rattle.lr_script.specs.Seen.{ScheduleSeen, ScriptSeen, schedule_seen}
use Rattle.lr_actors.specs.declared.trail.Trail.{Trail}
use Rattle.lr_actors.specs.Jobs.{seen_context}
use Rattle.lr_world.specs.World.{seen_of}
use Rattle.lr_world.specs.Runs.{MaySchedule}
use Rattle.lr_play.specs.Acting.{HaveActed}
use Rattle.lr_play.proofs.Lists.{no_items}
use Rattle.lr_play.proofs.Fresh.{fresh}
use Rattle.lr_play.proofs.Playing.{first_begins, first_scheduled, second_begins, second_scheduled, played}
use Rattle.lr_play.proofs.play.perform.Goals as goal

pub cast_of-requires-clause-context : goal.cast_of-requires-clause-context
cast_of-requires-clause-context g c =
    let f = fresh c.args.script.now c.requires.within c.args.parts c.args.context c.requires.started c.leases_are_out.ensures c.requires.prepared.0 c.requires.prepared.1 in f.is

pub cast_of-requires-clause-hosted : goal.cast_of-requires-clause-hosted
cast_of-requires-clause-hosted g c =
    let f = fresh c.args.script.now c.requires.within c.args.parts c.args.context c.requires.started c.leases_are_out.ensures c.requires.prepared.0 c.requires.prepared.1 in f.hosted

pub cast_of-requires-clause-given : goal.cast_of-requires-clause-given
cast_of-requires-clause-given g c =
    let f = fresh c.args.script.now c.requires.within c.args.parts c.args.context c.requires.started c.leases_are_out.ensures c.requires.prepared.0 c.requires.prepared.1 in
    c.jobs_may_be_given.ensures c.args.script.now (seen_context c.args.context) c.args.context.hosts c.requires.within f.many

pub act-parts-requires-clause-begin : goal.act-parts-requires-clause-begin
act-parts-requires-clause-begin g c =
    let f = fresh c.args.script.now c.requires.within c.args.parts c.args.context c.requires.started c.leases_are_out.ensures c.requires.prepared.0 c.requires.prepared.1 in
    (seen_context c.args.context, c.args.context.hosts, first_begins c.args.script.now c.requires.within (seen_context c.args.context) c.args.context.hosts (seen_of c.args.parts c.in-Ok.cast.actors) f c.in-Ok.ensures.actors)

pub act-parts-requires-clause-schedule : goal.act-parts-requires-clause-schedule
act-parts-requires-clause-schedule g c =
    let f = fresh c.args.script.now c.requires.within c.args.parts c.args.context c.requires.started c.leases_are_out.ensures c.requires.prepared.0 c.requires.prepared.1 in
    let same : schedule_seen c.script.inside.schedule ≡ c.args.script.now.schedule = ap (λ (s : ScriptSeen). s.schedule) c.script.view_is in
    subst (λ (s : ScheduleSeen). MaySchedule s (seen_of c.args.parts c.in-Ok.cast.actors)) (sym same) (first_scheduled c.args.script.now c.requires.within (seen_context c.args.context) c.args.context.hosts (seen_of c.args.parts c.in-Ok.cast.actors) f c.in-Ok.ensures.actors)

pub act-parts-requires-2-clause-begin : goal.act-parts-requires-2-clause-begin
act-parts-requires-2-clause-begin g c =
    let f = fresh c.args.script.now c.requires.within c.args.parts c.args.context c.requires.started c.leases_are_out.ensures c.requires.prepared.0 c.requires.prepared.1 in
    let same : schedule_seen c.script.inside.schedule ≡ c.args.script.now.schedule = ap (λ (s : ScriptSeen). s.schedule) c.script.view_is in
    let acted : HaveActed c.args.script.now.schedule (seen_of c.args.parts c.in-Ok.cast.actors) c.act-parts.result c.act-parts.ensures.acted.more =
    subst (λ (s : ScheduleSeen). HaveActed s (seen_of c.args.parts c.in-Ok.cast.actors) c.act-parts.result c.act-parts.ensures.acted.more) same c.act-parts.ensures.acted.acted in
    (seen_context c.args.context, c.args.context.hosts, second_begins c.args.script.now c.requires.within (seen_context c.args.context) c.args.context.hosts (seen_of c.args.parts c.in-Ok.cast.actors) f c.in-Ok.ensures.actors acted (seen_of c.act-parts.result c.in-Ok.cast.after) acted.objects c.in-Ok.ensures.after)

pub act-parts-requires-2-clause-schedule : goal.act-parts-requires-2-clause-schedule
act-parts-requires-2-clause-schedule g c =
    let f = fresh c.args.script.now c.requires.within c.args.parts c.args.context c.requires.started c.leases_are_out.ensures c.requires.prepared.0 c.requires.prepared.1 in
    let same : schedule_seen c.script.inside.schedule ≡ c.args.script.now.schedule = ap (λ (s : ScriptSeen). s.schedule) c.script.view_is in
    let acted : HaveActed c.args.script.now.schedule (seen_of c.args.parts c.in-Ok.cast.actors) c.act-parts.result c.act-parts.ensures.acted.more =
    subst (λ (s : ScheduleSeen). HaveActed s (seen_of c.args.parts c.in-Ok.cast.actors) c.act-parts.result c.act-parts.ensures.acted.more) same c.act-parts.ensures.acted.acted in
    second_scheduled c.args.script.now c.requires.within (seen_context c.args.context) c.args.context.hosts (seen_of c.args.parts c.in-Ok.cast.actors) f c.in-Ok.ensures.actors acted (seen_of c.act-parts.result c.in-Ok.cast.after) acted.objects c.in-Ok.ensures.after

pub returns-clause-played : goal.returns-clause-played
returns-clause-played g c = λ depot prepared.
    let f = fresh c.args.script.now c.requires.within c.args.parts c.args.context c.requires.started c.leases_are_out.ensures c.requires.prepared.0 c.requires.prepared.1 in
    let same : schedule_seen c.script.inside.schedule ≡ c.args.script.now.schedule = ap (λ (s : ScriptSeen). s.schedule) c.script.view_is in
    let acted : HaveActed c.args.script.now.schedule (seen_of c.args.parts c.in-Ok.cast.actors) c.act-parts.result c.act-parts.ensures.acted.more =
    subst (λ (s : ScheduleSeen). HaveActed s (seen_of c.args.parts c.in-Ok.cast.actors) c.act-parts.result c.act-parts.ensures.acted.more) same c.act-parts.ensures.acted.acted in
    let none : c.in-Ok.cast.trails.items ≡ [] = no_items c.in-Ok.cast.trails.items (sym c.in-Ok.cast.trails.ok.0 ∙ c.in-Ok.ensures.room.0) in
    let all : c.act-parts-2.new.trails.items ≡ c.act-parts.ensures.acted.more ++ c.act-parts-2.ensures.acted.more =
    c.act-parts-2.ensures.acted.added ∙ ap (λ (ts : List Trail). ts ++ c.act-parts-2.ensures.acted.more) (c.act-parts.ensures.acted.added ∙ ap (λ (ts : List Trail). ts ++ c.act-parts.ensures.acted.more) none) in
    played c.args.script.now c.requires.within (seen_context c.args.context) c.args.context.hosts (seen_of c.args.parts c.in-Ok.cast.actors) f c.in-Ok.ensures.actors
    acted (seen_of c.act-parts.result c.in-Ok.cast.after) acted.objects c.in-Ok.ensures.after c.act-parts-2.ensures.acted.acted
    depot c.args.parts c.args.context c.act-parts-2.new.trails.items prepared refl refl refl all (c.jobs_may_be_given.ensures c.args.script.now (seen_context c.args.context) c.args.context.hosts c.requires.within f.many)
