-- Turns of an actor while no other one has a claim out.
use Rattle.std.proofs.Common.{◌≡◌, ◌<◌, ◌+◌, ℕ, zero, suc, List, [], ◌∷◌, ◌++◌, length, false, cond, Option, Some, None, slice_get, refl, ap, sym, subst, ◌∙◌, inl, inr, arith}
use Rattle.std.specs.Prelude.{◌≢◌, ⊤, IsSome}
use Rattle.std.proofs.lemmas.List.{length-map}
use Rattle.lr_object.specs.declared.id.ObjectId.{ObjectId}
use Rattle.lr_object.specs.declared.id.ObjectId.TheVariants.{Cache}
use Rattle.lr_origin.specs.Objects.{Objects as Stored}
use Rattle.lr_cache.specs.declared.call.CacheReply.TheVariants.{Busy}
use Rattle.lr_walk.specs.Steps.{Reply}
use Rattle.lr_walk.specs.Jobs.{Context}
use Rattle.lr_history.specs.Ready.{claim_by, out_after}
use Rattle.lr_actors.specs.declared.action.ActorCall.{ActorCall}
use Rattle.lr_actors.specs.declared.action.ActorReply.{ActorReply}
use Rattle.lr_actors.specs.declared.action.ActorReply.TheVariants as by
use Rattle.lr_actors.specs.Asked.{seen_reply}
use Rattle.lr_actors.specs.Actor as actor
use Rattle.lr_actors.specs.Actor.{Now, works, idles, reaps, over}
use Rattle.lr_replies.specs.Objects.{own_lists, Replies}
use Rattle.lr_world.specs.Laws.{Laws}
use Rattle.lr_world.specs.declared.world.Turn.{Turn}
use Rattle.lr_world.specs.declared.world.Turn.TheVariants as turn
use Rattle.lr_world.specs.Turns.{turn_of, goes_on, TurnedBy, IsBusy, Goes, IsAlone, Falls, IsOverAt}
use Rattle.lr_world.specs.World.{Seen, objects_of, Part, part_of, cast_of, HasCalls, claim_out, IsWorld, Called, StepsNow, IsFree, weight_of}
use Rattle.lr_world.specs.Runs.{Works, goes}
use Rattle.lr_world.proofs.Taken.{part_at}
use Rattle.lr_world.proofs.Kept.{steps_cast}
use Rattle.lr_world.proofs.Falls.{BusyCall, busy, busy_only}
use Rattle.lr_world.proofs.Found.{same_actor, actor_in}

pub some_none : {X P : Type 0} (o : Option X) → o ≡ None → IsSome o → P
some_none None e s = absurd (cc)
some_none (Some x) e s = absurd (cc)

-- a part that stays keeps its actor's number
pub number_stays : {O : Type 0} (old new : Seen O) (i : ℕ) (a b : actor.Seen) → cast_of new ≡ cast_of old → slice_get old.actors i ≡ Some a → slice_get new.actors i ≡ Some b → b.number ≡ a.number
number_stays old new i a b cast e f =
    let same : Some (part_of b) ≡ Some (part_of a) = sym (part_at new i b f) ∙ ap (λ (c : List Part). slice_get c i) cast ∙ part_at old i a e in
    let part : part_of b ≡ part_of a = cc in
    ap (λ (p : Part). p.number) part

-- an actor's place stays
pub still_there : {O : Type 0} (old new : Seen O) (i : ℕ) (a : actor.Seen) → cast_of new ≡ cast_of old → slice_get old.actors i ≡ Some a → (b : actor.Seen) × (slice_get new.actors i ≡ Some b) × (part_of b ≡ part_of a)
still_there old new i a cast e = actor_in new.actors i (part_of a) (ap (λ (c : List Part). slice_get c i) cast ∙ part_at old i a e)

pub length_stays : {O : Type 0} (old new : Seen O) → cast_of new ≡ cast_of old → length new.actors ≡ length old.actors
length_stays old new cast = sym (length-map new.actors part_of) ∙ ap (λ (l : List Part). length l) cast ∙ length-map old.actors part_of

-- the own lists of other callers stay
pub others_stay : {O : Type 0} (laws : Laws) (objects : O → Option Stored) (faults : O → ℕ) (allows : Reply → Type 0) (old new : Seen O) (i : ℕ) (a : actor.Seen) (now : Now) → StepsNow objects faults allows now old i a new
    → (other : ℕ) → other ≢ a.number → (o : ObjectId) → own_lists (objects_of new) other o ≡ own_lists (objects_of old) other o
others_stay laws objects faults allows old new i a over s other ne o = ap (λ w. own_lists (objects_of w) other o) s
others_stay laws objects faults allows old new i a idles s other ne o = ap (λ w. own_lists (objects_of w) other o) s.kept
others_stay laws objects faults allows old new i a (works r) s other ne o = laws.gain.others (objects_of old) (objects_of new) a.number other s.0 s.1 s.2.called ne o
others_stay laws objects faults allows old new i a (reaps made) s other ne o = laws.gain.others (objects_of old) (objects_of new) a.number other s.0 s.1 s.2.called ne o

-- who is alone doesn't wait
pub alone_busy : {O : Type 0} {P : Type 0} (old new : Seen O) (i : ℕ) (a : actor.Seen) → slice_get old.actors i ≡ Some a → IsAlone old i → IsBusy old i new → P
alone_busy old new i a got alone b =
    let other : b.waits.holder ≢ a.number = λ e. b.waits.other (e ∙ b.is a got) in
    some_none (claim_out (objects_of old) b.waits.holder b.waits.host) (alone b.calls a got b.waits.holder other b.waits.host) b.waits.holds

pub alone_falls : {O : Type 0} (t : Turn) (old new : Seen O) (i : ℕ) (a : actor.Seen) → slice_get old.actors i ≡ Some a → IsAlone old i → Goes t old i new → Falls t old new
alone_falls turn.Ended old new i a got alone g = g
alone_falls turn.Event old new i a got alone (inl h) = h
alone_falls turn.Event old new i a got alone (inr b) = alone_busy old new i a got alone b
alone_falls turn.Idle old new i a got alone (inl h) = h
alone_falls turn.Idle old new i a got alone (inr b) = alone_busy old new i a got alone b

free_reply : (reply : ActorReply) → ((holder : ℕ) → reply ≡ by.Cache (Busy holder) → ⊥) → IsFree (seen_reply reply)
free_reply (by.Cache (Busy holder)) never = absurd (never holder refl)
free_reply (by.Cache x) never = tt
free_reply (by.Device x) never = tt
free_reply (by.Node x) never = tt
free_reply (by.Depot x) never = tt

module _ {O : Type 0} (laws : Laws) (objects : O → Option Stored) (faults : O → ℕ) (context : Context) (hosts : ℕ) (old new : Seen O) (i : ℕ) (a : actor.Seen) (is : IsWorld context hosts old) (got : slice_get old.actors i ≡ Some a) (alone : IsAlone old i) where
  free_called : (c : ActorCall) (reply : ActorReply) → a.now ≢ over → Called objects faults old i a c reply new → IsFree (seen_reply reply)
  free_called c reply going s =
      free_reply reply (λ holder e.
      alone_busy old new i a got alone (busy laws objects faults context hosts old new i a c reply is got going s
      (subst (BusyCall c) (sym e) (busy_only (objects_of old) a.number c holder (subst (Replies (objects_of old) a.number c) e s.called.replies)))))

  free_by : (now : Now) → a.now ≡ now → StepsNow objects faults (λ reply. ⊤) now old i a new → StepsNow objects faults IsFree now old i a new
  free_by over e s = s
  free_by idles e s = s
  free_by (works r) e s = (s.0, s.1, s.2, free_called s.0 s.1 (λ o. absurd (cc)) s.2)
  free_by (reaps made) e s = (s.0, s.1, s.2, free_called s.0 s.1 (λ o. absurd (cc)) s.2)

  pub free_turn : StepsNow objects faults (λ reply. ⊤) a.now old i a new → StepsNow objects faults IsFree a.now old i a new
  free_turn s = free_by a.now refl s

  pub still_alone : StepsNow objects faults (λ reply. ⊤) a.now old i a new → IsAlone new i
  still_alone s = λ calls b there other ne host.
      let cast : cast_of new ≡ cast_of old = steps_cast objects faults (λ reply. ⊤) old new i a a.now got s in
      let number : b.number ≡ a.number = number_stays old new i a b cast got there in
      let ne_a : other ≢ a.number = λ e. ne (e ∙ sym number) in
      ap (out_after (claim_by host) None) (others_stay laws objects faults (λ reply. ⊤) old new i a a.now s other ne_a (Cache host))
      ∙ alone (subst HasCalls cast calls) a got other ne_a host

-- ---- the work of one actor

ended_over : (now : Now) → goes_on (turn_of now) ≡ false → now ≡ over
ended_over over e = refl
ended_over idles e = absurd (cc)
ended_over (works r) e = absurd (cc)
ended_over (reaps made) e = absurd (cc)

works_by : {O : Type 0} (objects : O → Option Stored) (faults : O → ℕ) (number : ℕ) (start old new : Seen O) (steps : List ℕ) (i : ℕ) (a : actor.Seen) (now : Now) → a.now ≡ now → Works objects faults number start steps old → slice_get old.actors i ≡ Some a → a.number ≡ number
    → StepsNow objects faults IsFree a.now old i a new → (more : List ℕ) × Works objects faults number start more new
works_by objects faults number start old new steps i a over e w got n s = (steps, subst (λ x. Works objects faults number start steps x) (sym (subst (λ (k : Now). StepsNow objects faults IsFree k old i a new) e s)) w)
works_by objects faults number start old new steps i a idles e w got n s = (steps ++ number ∷ [], goes w (i, a, got, n, λ o. absurd (cc)) (i, a, got, n, s))
works_by objects faults number start old new steps i a (works r) e w got n s = (steps ++ number ∷ [], goes w (i, a, got, n, λ o. absurd (cc)) (i, a, got, n, s))
works_by objects faults number start old new steps i a (reaps made) e w got n s = (steps ++ number ∷ [], goes w (i, a, got, n, λ o. absurd (cc)) (i, a, got, n, s))

pub works_more : {O : Type 0} (objects : O → Option Stored) (faults : O → ℕ) (number : ℕ) (start old new : Seen O) (steps : List ℕ) (i : ℕ) (a : actor.Seen) (t : Turn) → Works objects faults number start steps old → slice_get old.actors i ≡ Some a → a.number ≡ number
    → TurnedBy objects faults IsFree old i t new → (more : List ℕ) × Works objects faults number start more new
works_more objects faults number start old new steps i a t w got n turned =
    let same : turned.0 ≡ a = same_actor old.actors i turned.0 a turned.1 got in
    works_by objects faults number start old new steps i turned.0 turned.0.now refl w turned.1 (ap (λ (x : actor.Seen). x.number) same ∙ n) turned.3

-- it has ended where its turn tells so
pub over_at : {O : Type 0} (objects : O → Option Stored) (faults : O → ℕ) (old new : Seen O) (i : ℕ) (t : Turn) → TurnedBy objects faults IsFree old i t new → goes_on t ≡ false → IsOverAt new i
over_at objects faults old new i t turned e =
    let now : turned.0.now ≡ over = ended_over turned.0.now (ap goes_on (sym turned.2) ∙ e) in
    let kept : new ≡ old = subst (λ (k : Now). StepsNow objects faults IsFree k old i turned.0 new) now turned.3 in
    λ b there. ap (λ (x : actor.Seen). x.now) (same_actor old.actors i b turned.0 (ap (λ w. slice_get w.actors i) (sym kept) ∙ there) turned.1) ∙ now

pub measure_falls : {O : Type 0} (t : Turn) (old new : Seen O) → Falls t old new → weight_of new + cond (goes_on t) 1 0 < weight_of old + 1
measure_falls turn.Ended old new f = omega (arith, ap weight_of f)
measure_falls turn.Event old new f = omega (arith, f)
measure_falls turn.Idle old new f = omega (arith, f)

pub part_number : (b a : actor.Seen) → part_of b ≡ part_of a → b.number ≡ a.number
part_number b a e = ap (λ (p : Part). p.number) e

-- there is one at each place
pub at_some : (xs : List actor.Seen) (i : ℕ) → i < length xs → (a : actor.Seen) × (slice_get xs i ≡ Some a)
at_some [] i h = absurd (omega arith)
at_some (x ∷ xs) zero h = (x, refl)
at_some (x ∷ xs) (suc i) h = at_some xs i (omega (arith, h))
