use Rattle.std.proofs.Common.{◌≡◌, ◌≤◌, List, length, refl, sym, ap, subst, ◌∙◌, arith}
use Rattle.lr_device.specs.Held as device
use Rattle.lr_depot.specs.Depot.{IsEnded}
use Rattle.lr_actors.specs.declared.place.DevicePlace.{DevicePlace}
use Rattle.lr_prepare.specs.declared.error.SetupError.TheVariants.{OutOfMemory}
use Rattle.lr_prepare.specs.Stopped.{IsLeft}
use Rattle.lr_report.specs.declared.run.Opening.{Opening}
use Rattle.lr_top.specs.Opening.{images_opened, AreOpened}
use Rattle.lr_top.proofs.Opened.{devices_many, places_many, have_opened}
use Rattle.lr_top.proofs.Headlines.{played_from}
use Rattle.lr_top.proofs.Acting.{stopped_from, ran_from}
use Rattle.lr_top.proofs.Stops.{all_done}
use Rattle.lr_top.proofs.playing.act.Goals as goal

pub opening_of-requires-clause-devices : goal.opening_of-requires-clause-devices
opening_of-requires-clause-devices g c = ap length c.deref.ensures.value ∙ devices_many c.args.script c.requires.prepared.0 c.args.prepared.parts c.args.prepared.context c.requires.prepared.1

pub opening_of-requires-clause-places : goal.opening_of-requires-clause-places
opening_of-requires-clause-places g c = ap length c.deref-2.ensures.value ∙ places_many c.args.script c.requires.prepared.0 c.args.prepared.parts c.args.prepared.context c.requires.prepared.1

pub returns-in_default-clause-begun : goal.returns-in_default-clause-begun
returns-in_default-clause-begun g c = λ first p.
    stopped_from g.O.Origin.objects g.O.Origin.faults first c.args.script
    (record { written_before = g.W.Sink.written c.args.sink.now; written_after = g.W.Sink.written c.args.sink.now; faults_before = g.W.Sink.faults c.args.sink.now; faults_after = g.W.Sink.faults c.args.sink.now })
    c.stopped.result.origin c.args.prepared.parts.depot OutOfMemory c.stopped.result.run c.stopped.result.status c.stopped.result.line p.start
    (all_done c.args.script first c.args.prepared.parts c.args.prepared.context p) c.stopped.ensures.status c.stopped.ensures.line c.stopped.ensures.ended c.stopped.ensures.run refl c.stops_are_told.ensures.told c.stops_are_told.ensures.only

pub returns-in-Err-clause-begun : goal.returns-in-Err-clause-begun
returns-in-Err-clause-begun g c = λ first p.
    let same : c.in-Err.field-0.parts ≡ c.args.prepared.parts = c.in-Err.ensures.left in
    stopped_from g.O.Origin.objects g.O.Origin.faults first c.args.script
    (record { written_before = g.W.Sink.written c.args.sink.now; written_after = g.W.Sink.written c.args.sink.now; faults_before = g.W.Sink.faults c.args.sink.now; faults_after = g.W.Sink.faults c.args.sink.now })
    c.stopped-in-Err.result.origin c.in-Err.field-0.parts.depot OutOfMemory c.stopped-in-Err.result.run c.stopped-in-Err.result.status c.stopped-in-Err.result.line
    (ap (λ q. q.depot.start) same ∙ p.start)
    (subst (λ q. IsLeft first.start c.args.script.setup q.depot.log OutOfMemory) (sym same) (all_done c.args.script first c.args.prepared.parts c.args.prepared.context p))
    c.stopped-in-Err.ensures.status c.stopped-in-Err.ensures.line c.stopped-in-Err.ensures.ended c.stopped-in-Err.ensures.run refl c.stops_are_told.ensures.told c.stops_are_told.ensures.only

pub returns-in-Ok-perform-clause-begun : goal.returns-in-Ok-perform-clause-begun
returns-in-Ok-perform-clause-begun g c = λ first p.
    let parts = c.args.prepared.parts in
    let context = c.args.prepared.context in
    let left = c.in-Ok-perform.performed.parts in
    let run = c.close-run.result.0 in
    let script = c.args.script in
    let opened = c.in-Ok.ensures in
    let of_parts = subst (λ (l : List device.Seen). AreOpened (images_opened script.setup) l c.deref-2.result.now c.in-Ok.opening.devices.items) c.deref.ensures.value opened in
    let of_places = subst (λ (l : List DevicePlace). AreOpened (images_opened script.setup) parts.devices.items l c.in-Ok.opening.devices.items) c.deref-2.ensures.value of_parts in
    let of_run = subst (λ (o : Opening). AreOpened (images_opened script.setup) parts.devices.items context.devices.items o.devices.items) (sym c.close-run.ensures.opening) of_places in
    let ended = subst (λ o. IsEnded g.O.Origin.objects g.O.Origin.faults left.depot o run.depot run.catalog) (sym c.reported.ensures.origin) c.close-run.ensures.ended in
    ran_from g.O.Origin.objects g.O.Origin.faults first script
    (record { written_before = g.W.Sink.written c.args.sink.now; written_after = g.W.Sink.written c.reported.new.sink; faults_before = g.W.Sink.faults c.args.sink.now; faults_after = g.W.Sink.faults c.reported.new.sink })
    c.reported.result.origin c.reported.result.run run c.reported.result.status c.reported.result.line c.reported.ensures.run
    (played_from g.O.Origin.objects g.O.Origin.faults script first parts context p left c.in-Ok-perform.performed.trails.items c.reported.result.origin run c.close-run.ensures.script (c.in-Ok-perform.ensures.played first p)
    (have_opened script first parts context p run.opening.devices.items of_run) (ap (λ v. v.items) c.close-run.ensures.trails) ended (ap (λ v. v.items) c.close-run.ensures.parts.0) (ap (λ v. v.items) c.close-run.ensures.parts.1)
    (ap (λ v. v.items) c.close-run.ensures.parts.2) c.close-run.ensures.joined)
    c.close-run.ensures.script c.reported.ensures.ended

pub returns-in_default-clause-never_falls : goal.returns-in_default-clause-never_falls
returns-in_default-clause-never_falls g c = c.stopped.ensures.never_falls

pub returns-in-Err-clause-never_falls : goal.returns-in-Err-clause-never_falls
returns-in-Err-clause-never_falls g c = subst (λ q. g.O.Origin.faults q.depot.origin ≤ g.O.Origin.faults c.stopped-in-Err.result.origin) c.in-Err.ensures.left c.stopped-in-Err.ensures.never_falls

pub returns-in-Ok-perform-clause-never_falls : goal.returns-in-Ok-perform-clause-never_falls
returns-in-Ok-perform-clause-never_falls g c = let same = ap g.O.Origin.faults c.reported.ensures.origin in omega (arith, c.in-Ok-perform.ensures.never_falls, c.close-run.ensures.never_falls, same)
