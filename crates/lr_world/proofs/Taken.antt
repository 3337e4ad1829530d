-- One turn, as the code takes it.
use Rattle.std.proofs.Common.{◌≡◌, ◌<◌, ℕ, List, length, true, false, Option, Some, slice_get, refl, ap, sym, subst, ◌∙◌, arith}
use Rattle.std.specs.Prelude.{⊤}
use Rattle.std.specs.Option.{option_map as mapped}
use Rattle.std.proofs.Math.ListN.{set}
use Rattle.std.proofs.lemmas.Option.{slice_get-map, get_or_from_slice_get}
use Rattle.std.proofs.lemmas.List.{set-get_or}
use Rattle.lr_origin.specs.Objects.{Objects as Stored}
use Rattle.lr_walk.specs.Jobs.{Context}
use Rattle.lr_actors.specs.declared.action.ActorCall.{ActorCall}
use Rattle.lr_actors.specs.declared.action.ActorCall.TheVariants as call
use Rattle.lr_actors.specs.declared.action.ActorReply.{ActorReply}
use Rattle.lr_actors.specs.declared.actor.ActorAction.TheVariants as action
use Rattle.lr_actors.specs.Actor as actor
use Rattle.lr_actors.specs.Actor.{Now, works, idles, reaps, over, handed, is_out, Took, Passed, HandsNow, AdmitsNow, Admits, IsWithin, object_called}
use Rattle.lr_walk.specs.Steps.{Reply}
use Rattle.lr_replies.specs.Replies.{AreMade, IsReady}
use Rattle.lr_world.specs.declared.world.World.{World}
use Rattle.lr_world.specs.declared.world.Turn.TheVariants as turn
use Rattle.lr_world.specs.Calling.{IsThere}
use Rattle.lr_world.specs.Turns.{turn_of, Turned}
use Rattle.lr_world.specs.World.{Seen, seen, objects_of, part_of, cast_of, IsInPlace, IsWorld, Called, StepsNow}

-- the part of an actor at its place
pub part_at : {O : Type 0} (w : Seen O) (i : ℕ) (a : actor.Seen) → slice_get w.actors i ≡ Some a → slice_get (cast_of w) i ≡ Some (part_of a)
part_at w i a got = slice_get-map part_of w.actors i ∙ ap (mapped part_of) got

-- an actor of a world is ready
pub ready : {O : Type 0} (context : Context) (hosts : ℕ) (w : Seen O) (i : ℕ) (a : actor.Seen) → IsWorld context hosts w → slice_get w.actors i ≡ Some a → IsReady (objects_of w) a
ready context hosts w i a is got =
    let shared = is.cast.shared i (part_of a) (part_at w i a got) in
    let place : IsInPlace (objects_of w) a = is.actors i a got in
    record {
      made = subst (λ (h : ℕ). AreMade (objects_of w) a.context h) (sym shared.1) (subst (λ (x : Context). AreMade (objects_of w) x hosts) (sym shared.0) is.made);
      is = place.is;
      stands = place.stands;
      lease = λ job at. place.leases (length a.account.results) job (omega arith) at;
    }

-- a call on an object of the context is on one of the world
pub within : {O : Type 0} (w : World O) (context : Context) (hosts : ℕ) (asked : ActorCall) → AreMade (objects_of (seen w)) context hosts → IsWithin context hosts (object_called asked) → IsThere w.parts asked
within w context hosts (call.Device n c) made h = omega (arith, made.many.0, h)
within w context hosts (call.Cache n c) made h = omega (arith, made.many.1, h)
within w context hosts (call.Node n c) made h = omega (arith, made.many.2, h)
within w context hosts (call.Depot c) made h = tt

-- what an actor that hands out a call does now
pub calls_now : (now : Now) (a : actor.Seen) (asked : ActorCall) → HandsNow now a (action.Call asked) → actor.Calls a asked
calls_now (works r) a asked h = h
calls_now (reaps made) a asked h = h
calls_now idles a asked h = absurd h
calls_now over a asked h = absurd h

pub out_now : (now : Now) (a : actor.Seen) (asked : ActorCall) → HandsNow now a (action.Call asked) → is_out now ≡ true
out_now (works r) a asked h = refl
out_now (reaps made) a asked h = refl
out_now idles a asked h = absurd h
out_now over a asked h = absurd h

-- handing out its call leaves what it admits
pub admits_handed : (now : Now) (a : actor.Seen) (reply : Reply) → AdmitsNow now a reply → AdmitsNow now (handed a) reply
admits_handed (works r) a reply h = h
admits_handed (reaps made) a reply h = h
admits_handed idles a reply h = h
admits_handed over a reply h = h

pub event_now : (now : Now) (a : actor.Seen) (asked : ActorCall) → HandsNow now a (action.Call asked) → turn.Event ≡ turn_of now
event_now (works r) a asked h = refl
event_now (reaps made) a asked h = refl
event_now idles a asked h = absurd h
event_now over a asked h = absurd h

pub over_now : (now : Now) (a : actor.Seen) → HandsNow now a action.Ended → now ≡ over
over_now over a h = refl
over_now idles a h = absurd h
over_now (works r) a h = absurd h
over_now (reaps made) a h = absurd h

pub idles_now : (now : Now) (a : actor.Seen) → HandsNow now a action.Idle → now ≡ idles
idles_now idles a h = refl
idles_now over a h = absurd h
idles_now (works r) a h = absurd h
idles_now (reaps made) a h = absurd h

-- nothing is handed out
pub handed_none : (a : actor.Seen) → a.out ≡ false → is_out a.now ≡ false → handed a ≡ a
handed_none a out now = λ i. record { number = a.number; context = a.context; hosts = a.hosts; jobs = a.jobs; crash = a.crash; state = a.state; steps = a.steps; account = a.account; now = a.now; out = (now ∙ sym out) i }

-- the step of a call
pub steps_call : {O : Type 0} (objects : O → Option Stored) (faults : O → ℕ) (now : Now) (old : Seen O) (i : ℕ) (a : actor.Seen) (asked : ActorCall) (reply : ActorReply) (new : Seen O)
    → HandsNow now a (action.Call asked) → Called objects faults old i a asked reply new → StepsNow objects faults (λ reply. ⊤) now old i a new
steps_call objects faults (works r) old i a asked reply new h c = (asked, reply, c, tt)
steps_call objects faults (reaps made) old i a asked reply new h c = (asked, reply, c, tt)
steps_call objects faults idles old i a asked reply new h c = absurd h
steps_call objects faults over old i a asked reply new h c = absurd h

-- the turn of an actor that has ended
pub ended_turn : {O : Type 0} (objects : O → Option Stored) (faults : O → ℕ) (old : Seen O) (i : ℕ) (a after : actor.Seen) → i < length old.actors → slice_get old.actors i ≡ Some a → a.out ≡ false → a.now ≡ over → after ≡ handed a
    → Turned objects faults old i turn.Ended (record old { actors = set old.actors i after })
ended_turn objects faults old i a after h got out now same =
    let back : after ≡ a = same ∙ handed_none a out (ap is_out now) in
    let kept : record old { actors = set old.actors i after } ≡ old =
    ap (λ (xs : List actor.Seen). record old { actors = xs }) (ap (set old.actors i) (back ∙ sym (get_or_from_slice_get old.actors i a a got)) ∙ set-get_or old.actors i a) in
    (a, got, ap turn_of (sym now), subst (λ (n : Now). StepsNow objects faults (λ reply. ⊤) n old i a (record old { actors = set old.actors i after })) (sym now) kept)

-- the turn of an actor that idles
pub idle_turn : {O : Type 0} (objects : O → Option Stored) (faults : O → ℕ) (old : Seen O) (i : ℕ) (a mid after : actor.Seen) → slice_get old.actors i ≡ Some a → a.out ≡ false → a.now ≡ idles → mid ≡ handed a → Passed mid after
    → Turned objects faults old i turn.Idle (record old { actors = set old.actors i after })
idle_turn objects faults old i a mid after got out now same passed =
    let back : mid ≡ a = same ∙ handed_none a out (ap is_out now) in (
      a,
      got,
      ap turn_of (sym now),
      subst (λ (n : Now). StepsNow objects faults (λ reply. ⊤) n old i a (record old { actors = set old.actors i after })) (sym now)
          (record { after = after; passed = subst (λ (x : actor.Seen). Passed x after) back passed; kept = refl }),
    )
