use Rattle.std.proofs.Common.{◌≡◌, ◌∙◌, ℕ, ap, sym, subst, Some, refl, slice_get}
use Rattle.std.proofs.lemmas.Option.{slice_get-get_or}
use Rattle.lr_actors.specs.Actor as actor
use Rattle.lr_actors.specs.Actor.{handed, Took, Passed, Admits, is_out, over, idles}
use Rattle.lr_actors.specs.Asked.{seen_reply}
use Rattle.lr_replies.specs.Objects.{Calls}
use Rattle.lr_world.specs.World.{seen, seen_of, objects_of, Keeps}
use Rattle.std.specs.Vec.{with_item}
use Rattle.lr_world.proofs.Taken.{ready, within, calls_now, out_now, admits_handed, event_now, over_now, idles_now, steps_call, ended_turn, idle_turn}
use Rattle.lr_world.proofs.world.World.take_turn.Goals as goal

pub next-requires : goal.next-requires
next-requires g c = (c.requires.world.2.actors c.args.at c.index_mut-actor.result.now (slice_get-get_or _ _ _ c.requires.at ∙ ap Some (sym c.index_mut-actor.ensures.value))).out

pub serve_or_want-reply-requires-clause-there : goal.serve_or_want-reply-requires-clause-there
serve_or_want-reply-requires-clause-there g c =
    let a : actor.Seen = c.index_mut-actor.result.now in
    let got : slice_get c.args.self.now.actors.items c.args.at ≡ Some a = slice_get-get_or _ _ _ c.requires.at ∙ ap Some (sym c.index_mut-actor.ensures.value) in
    within c.args.self.now a.context a.hosts c.in-Call.call (ready c.requires.world.0 c.requires.world.1 (seen c.args.self.now) c.args.at a c.requires.world.2 got).made (calls_now a.now a c.in-Call.call c.in-Call.ensures.hands).within

pub take-requires-clause-admitted : goal.take-requires-clause-admitted
take-requires-clause-admitted g c =
    let a : actor.Seen = c.index_mut-actor.result.now in
    let got : slice_get c.args.self.now.actors.items c.args.at ≡ Some a = slice_get-get_or _ _ _ c.requires.at ∙ ap Some (sym c.index_mut-actor.ensures.value) in
    let number : c.number-number.result ≡ a.number = c.number-number.ensures ∙ ap (λ (x : actor.Seen). x.number) c.next.ensures.handed in
    let called : Calls a.number c.in-Call.call c.serve_or_want-reply.result (objects_of (seen c.args.self.now)) (objects_of (seen_of c.serve_or_want-reply.new.parts c.args.self.now.actors)) =
    subst (λ (n : ℕ). Calls n c.in-Call.call c.serve_or_want-reply.result (objects_of (seen c.args.self.now)) (objects_of (seen_of c.serve_or_want-reply.new.parts c.args.self.now.actors))) number c.serve_or_want-reply.ensures.called in
    subst (λ (x : actor.Seen). Admits x (seen_reply c.serve_or_want-reply.result)) (sym c.next.ensures.handed)
    (admits_handed a.now a (seen_reply c.serve_or_want-reply.result)
    (c.laws.ensures.admitted (objects_of (seen c.args.self.now)) a c.in-Call.call c.serve_or_want-reply.result
    (ready c.requires.world.0 c.requires.world.1 (seen c.args.self.now) c.args.at a c.requires.world.2 got) (calls_now a.now a c.in-Call.call c.in-Call.ensures.hands) called.replies))

pub take-requires-clause-out : goal.take-requires-clause-out
take-requires-clause-out g c =
    ap (λ (x : actor.Seen). x.out) c.next.ensures.handed ∙ out_now c.index_mut-actor.result.now.now c.index_mut-actor.result.now c.in-Call.call c.in-Call.ensures.hands

pub returns-in-Ended : goal.returns-in-Ended
returns-in-Ended g c =
    let a : actor.Seen = c.index_mut-actor.result.now in
    let got : slice_get c.args.self.now.actors.items c.args.at ≡ Some a = slice_get-get_or _ _ _ c.requires.at ∙ ap Some (sym c.index_mut-actor.ensures.value) in
    ended_turn g.O.Origin.objects g.O.Origin.faults (seen c.args.self.now) c.args.at a c.next.new.self c.requires.at got (c.requires.world.2.actors c.args.at a got).out (over_now a.now a c.in-Ended.ensures.hands) c.next.ensures.handed

pub returns-in-Idle : goal.returns-in-Idle
returns-in-Idle g c =
    let a : actor.Seen = c.index_mut-actor.result.now in
    let got : slice_get c.args.self.now.actors.items c.args.at ≡ Some a = slice_get-get_or _ _ _ c.requires.at ∙ ap Some (sym c.index_mut-actor.ensures.value) in
    idle_turn g.O.Origin.objects g.O.Origin.faults (seen c.args.self.now) c.args.at a c.next.new.self c.pass.new.self got (c.requires.world.2.actors c.args.at a got).out (idles_now a.now a c.in-Idle.ensures.hands) c.next.ensures.handed c.pass.ensures

pub returns-in-Call : goal.returns-in-Call
returns-in-Call g c =
    let a : actor.Seen = c.index_mut-actor.result.now in
    let got : slice_get c.args.self.now.actors.items c.args.at ≡ Some a = slice_get-get_or _ _ _ c.requires.at ∙ ap Some (sym c.index_mut-actor.ensures.value) in
    let number : c.number-number.result ≡ a.number = c.number-number.ensures ∙ ap (λ (x : actor.Seen). x.number) c.next.ensures.handed in (
      a,
      got,
      event_now a.now a c.in-Call.call c.in-Call.ensures.hands,
      steps_call g.O.Origin.objects g.O.Origin.faults a.now (seen c.args.self.now) c.args.at a c.in-Call.call c.serve_or_want-reply.result
          (seen_of c.serve_or_want-reply.new.parts (with_item c.args.self.now.actors c.args.at c.take.new.self)) c.in-Call.ensures.hands
          (record {
            after = c.take.new.self;
            asks = calls_now a.now a c.in-Call.call c.in-Call.ensures.hands;
            called = subst (λ (n : ℕ). Calls n c.in-Call.call c.serve_or_want-reply.result (objects_of (seen c.args.self.now)) (objects_of (seen_of c.serve_or_want-reply.new.parts c.args.self.now.actors))) number c.serve_or_want-reply.ensures.called;
            depot = subst (λ (n : ℕ). Keeps g.O.Origin.objects g.O.Origin.faults c.in-Call.call c.serve_or_want-reply.result n c.args.self.now.parts.depot c.serve_or_want-reply.new.parts.depot) number c.serve_or_want-reply.ensures.depot;
            took = subst (λ (x : actor.Seen). Took x (seen_reply c.serve_or_want-reply.result) c.take.new.self) c.next.ensures.handed c.take.ensures;
            actors = refl;
          }),
    )
