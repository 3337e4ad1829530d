use Rattle.lr_depot.proofs.Did.{taken_whole, own_place, no_place, taken_place}
use Rattle.lr_depot.proofs.Ready.{is_not}
use Rattle.lr_depot.proofs.depot.Body.make_room.Goals as goal

pub returns-then-has_place-clause-room : goal.returns-then-has_place-clause-room
returns-then-has_place-clause-room g c = λ on start w. own_place g.O.Origin.objects g.O.Origin.faults start c.args.self.now w c.args.caller c.args.asked.now (c.has_place.ensures.0 c.if-has_place.true)

pub returns-clause-none : goal.returns-clause-none
returns-clause-none g c = λ off start w. no_place g.O.Origin.objects g.O.Origin.faults start c.args.self.now w c.args.caller c.args.asked.now (is_not c.has_place.ensures c.if-has_place.false)

pub returns-clause-room : goal.returns-clause-room
returns-clause-room g c = λ on start w.
    taken_place g.O.Origin.objects g.O.Origin.faults start c.take_places.new.self
    (taken_whole g.O.Origin.objects g.O.Origin.faults start c.args.self.now c.take_places.new.self w c.take_places.ensures.rest.0 c.take_places.ensures.rest.1 c.take_places.ensures.items c.take_places.ensures.len c.take_places.ensures.capacity)
    (c.take_places.ensures.taken on) c.args.caller c.args.asked.now
