-- A round lowers the weight of a world, or all have ended.
use Rattle.std.proofs.Common.{◌≡◌, ◌<◌, ◌≤◌, ◌+◌, ℕ, zero, suc, List, [], ◌∷◌, ◌++◌, length, take, Bool, true, false, Option, Some, None, slice_get, refl, ap, sym, subst, ◌∙◌, inl, inr, arith}
use Rattle.std.specs.Prelude.{◌≢◌, ◌⊎◌, ◌||◌}
use Rattle.lr_object.specs.declared.id.ObjectId.TheVariants.{Cache}
use Rattle.lr_origin.specs.Objects.{Objects as Stored}
use Rattle.lr_walk.specs.Jobs.{Context}
use Rattle.lr_actors.specs.Actor as actor
use Rattle.lr_actors.specs.Actor.{Now, works, idles, reaps, over}
use Rattle.lr_replies.specs.Objects.{Objects}
use Rattle.lr_world.specs.declared.world.Turn.{Turn}
use Rattle.lr_world.specs.declared.world.Turn.TheVariants as turn
use Rattle.lr_world.specs.Turns.{turn_of, goes_on, Turned, Waits, IsBusy, Goes, LeavesActors}
use Rattle.lr_world.specs.Rounding.{Stalled, SoFar}
use Rattle.lr_world.specs.World.{Seen, objects_of, Part, part_of, cast_of, numbers_of, IsNumber, HasCalls, claim_out, LetsGo, IsWorld, weight_of}
use Rattle.lr_world.specs.Runs.{HasEnded, AllEnded, Round, begun, goes, rests}
use Rattle.lr_world.proofs.Taken.{part_at}
use Rattle.lr_world.proofs.Leases.{same_or_not}
use Rattle.std.proofs.lemmas.Option.{slice_get_within}
use Rattle.lr_world.proofs.Alone.{some_none, number_stays}
use Rattle.lr_world.proofs.Found.{one_number, same_actor, actor_of}
use Rattle.lr_world.proofs.Serial.{numbers_more}
use Rattle.lr_world.proofs.Gone.{lt_of}

pub begins : {O : Type 0} (objects : O → Option Stored) (faults : O → ℕ) (start : Seen O) → SoFar objects faults start start 0 false
begins objects faults start =
    record {
      cast = refl;
      steps = [];
      ran = begun;
      still = λ m. (refl, λ j a h e. absurd (omega (arith, h)));
      less = inr (record { same = refl; weight = omega arith; each = λ j a h e. absurd (omega (arith, h)); some = λ m. absurd (cc) });
    }

or_false : (a b : Bool) → (a || b) ≡ false → (a ≡ false) × (b ≡ false)
or_false true b e = absurd (cc)
or_false false b e = (refl, e)

or_true : (a b : Bool) → (a || b) ≡ true → b ≡ false → a ≡ true
or_true true b e f = refl
or_true false b e f = absurd (cc)

ended_over : (now : Now) → goes_on (turn_of now) ≡ false → now ≡ over
ended_over over e = refl
ended_over idles e = absurd (cc)
ended_over (works r) e = absurd (cc)
ended_over (reaps made) e = absurd (cc)

going_on : (now : Now) → goes_on (turn_of now) ≡ true → now ≢ over
going_on over e = absurd (cc)
going_on idles e = λ o. absurd (cc)
going_on (works r) e = λ o. absurd (cc)
going_on (reaps made) e = λ o. absurd (cc)

goes_ended : {O : Type 0} (t : Turn) (old new : Seen O) (i : ℕ) → goes_on t ≡ false → Goes t old i new → new ≡ old
goes_ended turn.Ended old new i e g = g
goes_ended turn.Event old new i e g = absurd (cc)
goes_ended turn.Idle old new i e g = absurd (cc)

goes_going : {O : Type 0} (t : Turn) (old new : Seen O) (i : ℕ) → goes_on t ≡ true → Goes t old i new → (weight_of new < weight_of old) ⊎ IsBusy old i new
goes_going turn.Ended old new i e g = absurd (cc)
goes_going turn.Event old new i e g = g
goes_going turn.Idle old new i e g = g

module _ {O : Type 0} (objects : O → Option Stored) (faults : O → ℕ) (context : Context) (hosts : ℕ) (start old new : Seen O) (i : ℕ) (moved : Bool) (t : Turn) (is : IsWorld context hosts old)
    (turned : Turned objects faults old i t new) (goes_so : Goes t old i new) (cast : cast_of new ≡ cast_of old) (others : LeavesActors i old new) (so : SoFar objects faults start old i moved) where
  abbrev a : actor.Seen
  a = turned.0

  got : slice_get old.actors i ≡ Some a
  got = turned.1

  at_cast : slice_get (cast_of start) i ≡ Some (part_of a)
  at_cast = ap (λ (c : List Part). slice_get c i) (sym so.cast) ∙ part_at old i a got

  ends_here : a.now ≡ over → HasEnded old a.number
  ends_here now j b f n =
      let same : i ≡ j = one_number context hosts old i j a b is got f (sym n) in
      let s : a ≡ b = same_actor old.actors j a b (ap (slice_get old.actors) (sym same) ∙ got) f in
      ap (λ (x : actor.Seen). x.now) (sym s) ∙ now

  ran_by : (b : Bool) → goes_on t ≡ b → (steps : List ℕ) × Round objects faults start (take (i + 1) (numbers_of (cast_of start))) steps new
  ran_by true e =
      let going : a.now ≢ over = going_on a.now (ap goes_on (sym turned.2) ∙ e) in (
        so.steps ++ a.number ∷ [],
        subst (λ (l : List ℕ). Round objects faults start l (so.steps ++ a.number ∷ []) new) (numbers_more (cast_of start) i (part_of a) at_cast)
            (goes so.ran a.number (i, a, got, refl, going) (i, a, got, refl, turned.3)),
      )
  ran_by false e =
      let now : a.now ≡ over = ended_over a.now (ap goes_on (sym turned.2) ∙ e) in
      let kept : new ≡ old = goes_ended t old new i e goes_so in (
        so.steps,
        subst (λ (w : Seen O). Round objects faults start (take (i + 1) (numbers_of (cast_of start))) so.steps w) (sym kept)
            (subst (λ (l : List ℕ). Round objects faults start l so.steps old) (numbers_more (cast_of start) i (part_of a) at_cast) (rests so.ran a.number (ends_here now))),
      )

  -- those up to here, one by one
  up_to : (P : actor.Seen → Type 0) → ((j : ℕ) (b : actor.Seen) → j < i → slice_get old.actors j ≡ Some b → P b) → ((b : actor.Seen) → slice_get new.actors i ≡ Some b → P b) → (j : ℕ) (b : actor.Seen) → j < i + 1 → slice_get new.actors j ≡ Some b → P b
  up_to P earlier here j b h e = by (same_or_not j i)
    where
      by : (j ≡ i) ⊎ (j ≢ i) → P b
      by (inl s) = here b (ap (slice_get new.actors) (sym s) ∙ e)
      by (inr ne) = earlier j b (lt_of j i (omega (arith, h)) ne) (sym (others j ne) ∙ e)

  still_by : (moved || goes_on t) ≡ false → (new ≡ start) × ((j : ℕ) (b : actor.Seen) → j < i + 1 → slice_get new.actors j ≡ Some b → b.now ≡ over)
  still_by m =
      let both = or_false moved (goes_on t) m in
      let was = so.still both.0 in
      let kept : new ≡ old = goes_ended t old new i both.1 goes_so in
      let now : a.now ≡ over = ended_over a.now (ap goes_on (sym turned.2) ∙ both.1) in
      (kept ∙ was.0, up_to (λ b. b.now ≡ over) was.1 (λ b e. ap (λ (x : actor.Seen). x.now) (same_actor old.actors i b a (ap (λ w. slice_get w.actors i) (sym kept) ∙ e) got) ∙ now))

  -- where the weight hasn't fallen before
  stalled_ended : (goes_on t ≡ false) → Stalled start old i moved → Stalled start new (i + 1) (moved || goes_on t)
  stalled_ended e s =
      let kept : new ≡ old = goes_ended t old new i e goes_so in
      let now : a.now ≡ over = ended_over a.now (ap goes_on (sym turned.2) ∙ e) in
      let at_old : Stalled start new i moved = subst (λ (w : Seen O). Stalled start w i moved) (sym kept) s in
      record {
        same = at_old.same;
        weight = at_old.weight;
        each = up_to (λ b. (b.now ≡ over) ⊎ Waits (objects_of new) b.number) (λ j b h f. at_old.each j b h (others_at j b h f))
            (λ b f. inl (ap (λ (x : actor.Seen). x.now) (same_actor old.actors i b a (ap (λ w. slice_get w.actors i) (sym kept) ∙ f) got) ∙ now));
        some = λ m. at_old.some (or_true moved (goes_on t) m e);
      }
    where
      others_at : (j : ℕ) (b : actor.Seen) → j < i → slice_get old.actors j ≡ Some b → slice_get new.actors j ≡ Some b
      others_at j b h f = others j (λ s. omega (arith, h, s)) ∙ f

  stalled_busy : IsBusy old i new → Stalled start old i moved → Stalled start new (i + 1) (moved || goes_on t)
  stalled_busy b s =
      let waits_new : Waits (objects_of new) b.number = subst (λ (w : Objects). Waits w b.number) (sym b.same) b.waits in
      record {
        same = b.same ∙ s.same;
        weight = omega (arith, b.weight, s.weight);
        each = up_to (λ x. (x.now ≡ over) ⊎ Waits (objects_of new) x.number) (λ j x h f. subst (λ (w : Objects). (x.now ≡ over) ⊎ Waits w x.number) (sym b.same) (s.each j x h f))
            (λ x f. inr (subst (Waits (objects_of new)) (sym (number_stays old new i a x cast got f ∙ b.is a got)) waits_new));
        some = λ m. (subst HasCalls (sym cast) b.calls, b.number, waits_new);
      }

  less_by : (b : Bool) → goes_on t ≡ b → (weight_of old < weight_of start) ⊎ Stalled start old i moved → (weight_of new < weight_of start) ⊎ Stalled start new (i + 1) (moved || goes_on t)
  less_by false e (inl h) = inl (omega (arith, h, ap weight_of (goes_ended t old new i e goes_so)))
  less_by false e (inr s) = inr (stalled_ended e s)
  less_by true e l = by l (goes_going t old new i e goes_so)
    where
      by : (weight_of old < weight_of start) ⊎ Stalled start old i moved → (weight_of new < weight_of old) ⊎ IsBusy old i new → (weight_of new < weight_of start) ⊎ Stalled start new (i + 1) (moved || goes_on t)
      by (inl h) (inl f) = inl (omega (arith, h, f))
      by (inl h) (inr b) = inl (omega (arith, h, b.weight))
      by (inr s) (inl f) = inl (omega (arith, s.weight, f))
      by (inr s) (inr b) = inr (stalled_busy b s)

  pub so_far_more : SoFar objects faults start new (i + 1) (moved || goes_on t)
  so_far_more =
      let ran = ran_by (goes_on t) refl in
      record {
        cast = cast ∙ so.cast;
        steps = ran.0;
        ran = ran.1;
        still = still_by;
        less = less_by (goes_on t) refl so.less;
      }

-- ---- after the round

-- a number is known or not
known_or : (cast : List Part) (number : ℕ) → IsNumber cast number ⊎ (¬ (IsNumber cast number))
known_or [] number = inr (λ k. let e = k.2 in absurd (cc))
known_or (p ∷ cast) number = by (same_or_not p.number number) (known_or cast number)
  where
    skip : ¬ (IsNumber cast number) → p.number ≢ number → (i : ℕ) (q : Part) → slice_get (p ∷ cast) i ≡ Some q → q.number ≡ number → ⊥
    skip unknown ne zero q e n = let s : p ≡ q = cc in ne (ap (λ (x : Part). x.number) s ∙ n)
    skip unknown ne (suc i) q e n = unknown (i, q, e, n)

    by : (p.number ≡ number) ⊎ (p.number ≢ number) → IsNumber cast number ⊎ (¬ (IsNumber cast number)) → IsNumber (p ∷ cast) number ⊎ (¬ (IsNumber (p ∷ cast) number))
    by (inl s) k = inl (0, p, refl, s)
    by (inr ne) (inl k) = inl (suc k.0, k.1, k.2, k.3)
    by (inr ne) (inr none) = inr (λ k. skip none ne k.0 k.1 k.2 k.3)

module _ {O : Type 0} (context : Context) (hosts : ℕ) (start w : Seen O) (n : ℕ) (is : IsWorld context hosts w) (all : length w.actors ≤ n) (s : Stalled start w n true) where
  -- nobody holds the claim that one waits for
  holder_none : (b h : ℕ) → HasCalls (cast_of w) → claim_out (objects_of w) b h ≡ None
  holder_none b h calling = by (known_or (cast_of w) b)
    where
      actor_none : (k : ℕ) (x : actor.Seen) → slice_get w.actors k ≡ Some x → (x.now ≡ over) ⊎ Waits (objects_of w) x.number → claim_out (objects_of w) x.number h ≡ None
      actor_none k x e (inl now) = (is.actors k x e).gone (Cache h) (subst (λ (m : Now). LetsGo m x (Cache h)) (sym now) tt)
      actor_none k x e (inr waits) = waits.none h

      by : IsNumber (cast_of w) b ⊎ (¬ (IsNumber (cast_of w) b)) → claim_out (objects_of w) b h ≡ None
      by (inr none) = is.claims calling b none h
      by (inl k) =
          let f = actor_of w b k in
          ap (λ (m : ℕ). claim_out (objects_of w) m h) (sym f.3) ∙ actor_none f.0 f.1 f.2 (s.each f.0 f.1 (omega (arith, slice_get_within w.actors f.0 f.1 f.2, all)) f.2)

  pub never_stalled : ⊥
  never_stalled =
      let some = s.some refl in
      some_none (claim_out (objects_of w) some.2.holder some.2.host) (holder_none some.2.holder some.2.host some.0) some.2.holds

pub round_falls : {O : Type 0} (objects : O → Option Stored) (faults : O → ℕ) (context : Context) (hosts : ℕ) (start w : Seen O) (n : ℕ) (moved : Bool) → IsWorld context hosts w → length w.actors ≤ n → SoFar objects faults start w n moved → moved ≡ true → weight_of w < weight_of start
round_falls objects faults context hosts start w n moved is all so m = by so.less
  where
    by : (weight_of w < weight_of start) ⊎ Stalled start w n moved → weight_of w < weight_of start
    by (inl h) = h
    by (inr s) = absurd (never_stalled context hosts start w n is all (subst (λ (b : Bool). Stalled start w n b) m s))

pub round_ended : {O : Type 0} (objects : O → Option Stored) (faults : O → ℕ) (start w : Seen O) (n : ℕ) (moved : Bool) → length w.actors ≤ n → SoFar objects faults start w n moved → moved ≡ false → AllEnded w × (w ≡ start)
round_ended objects faults start w n moved all so m =
    let s = so.still m in (λ i a e. s.1 i a (omega (arith, slice_get_within w.actors i a e, all)) e, s.0)
