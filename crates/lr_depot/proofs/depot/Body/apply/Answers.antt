use Rattle.lr_depot.proofs.Did.{whole_ready, taken_whole, did_none, did_served, room_of}
use Rattle.lr_depot.proofs.depot.Body.apply.Goals as goal

pub returns-then-not-make_room : goal.returns-then-not-make_room
returns-then-not-make_room g c = record {
  did = λ start w.
      did_none g.O.Origin.objects g.O.Origin.faults start c.args.self.now c.make_room.new.self w c.make_room.ensures.rest.0 c.make_room.ensures.rest.1 c.make_room.ensures.items c.make_room.ensures.len c.make_room.ensures.capacity c.args.caller c.args.asked
      (c.make_room.ensures.none c.if-not-make_room.true start w);
}

pub serve-call-requires-clause-ready : goal.serve-call-requires-clause-ready
serve-call-requires-clause-ready g c = whole_ready g.O.Origin.objects g.O.Origin.faults c.requires.whole.0 c.make_room.new.self (taken_whole g.O.Origin.objects g.O.Origin.faults c.requires.whole.0 c.args.self.now c.make_room.new.self c.requires.whole.1 c.make_room.ensures.rest.0 c.make_room.ensures.rest.1 c.make_room.ensures.items c.make_room.ensures.len c.make_room.ensures.capacity)

pub finish-requires : goal.finish-requires
finish-requires g c = record {
  room = room_of g.O.Origin.objects g.O.Origin.faults c.requires.whole.0 c.make_room.new.self c.serve-call.new.kernel c.args.caller c.args.asked c.serve-call.result.call c.serve-call.result.answer
      (taken_whole g.O.Origin.objects g.O.Origin.faults c.requires.whole.0 c.args.self.now c.make_room.new.self c.requires.whole.1 c.make_room.ensures.rest.0 c.make_room.ensures.rest.1 c.make_room.ensures.items c.make_room.ensures.len c.make_room.ensures.capacity)
      (c.make_room.ensures.room c.if-not-make_room.false c.requires.whole.0 c.requires.whole.1) c.serve-call.ensures.served c.serve-call.ensures.noted;
}

pub returns : goal.returns
returns g c = record {
  did = λ start w.
      did_served g.O.Origin.objects g.O.Origin.faults start c.args.self.now c.make_room.new.self w c.make_room.ensures.rest.0 c.make_room.ensures.rest.1 c.make_room.ensures.items c.make_room.ensures.len c.make_room.ensures.capacity
      (record { origin = c.serve-call.new.origin; kernel = c.serve-call.new.kernel; log = c.finish.new.log })
      c.args.caller c.args.asked c.serve-call.result.call c.finish.result c.serve-call.result.answer c.finish.ensures.capacity
      (c.make_room.ensures.room c.if-not-make_room.false start w c.finish.result) c.serve-call.ensures.served c.finish.ensures.reply
      c.serve-call.ensures.store c.serve-call.ensures.never_falls c.serve-call.ensures.cause c.serve-call.ensures.unasked c.serve-call.ensures.noted c.serve-call.ensures.shared c.finish.ensures.log;
}
