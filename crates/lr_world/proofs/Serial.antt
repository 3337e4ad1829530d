-- One actor after another.
use Rattle.std.proofs.Common.{◌≡◌, ◌<◌, ◌≤◌, ◌+◌, ℕ, zero, suc, List, [], ◌∷◌, ◌++◌, length, take, Option, Some, None, slice_get, refl, ap, sym, subst, ◌∙◌, inl, inr, arith}
use Rattle.std.specs.Prelude.{◌≢◌, ◌⊎◌}
use Rattle.lr_object.specs.declared.id.ObjectId.TheVariants.{Cache}
use Rattle.lr_origin.specs.Objects.{Objects as Stored}
use Rattle.lr_walk.specs.Jobs.{Context}
use Rattle.lr_actors.specs.Actor as actor
use Rattle.lr_actors.specs.Actor.{Now, over}
use Rattle.lr_world.specs.Turns.{IsAlone}
use Rattle.lr_world.specs.Working.{WorkedOut}
use Rattle.lr_world.specs.World.{Seen, objects_of, Part, part_of, cast_of, numbers_of, HasCalls, HasNoClaims, claim_out, LetsGo, IsWorld}
use Rattle.lr_world.specs.Runs.{HasEnded, InTurn, next}
use Rattle.lr_world.proofs.Taken.{part_at}
use Rattle.lr_world.proofs.Leases.{same_or_not}
use Rattle.lr_world.proofs.Alone.{still_there}
use Rattle.lr_world.proofs.Found.{one_number}
use Rattle.lr_world.proofs.Gone.{lt_of}
use Rattle.std.proofs.lemmas.List.{length-map}

-- the numbers so far, and one more
pub numbers_more : (xs : List Part) (i : ℕ) (p : Part) → slice_get xs i ≡ Some p → take i (numbers_of xs) ++ p.number ∷ [] ≡ take (i + 1) (numbers_of xs)
numbers_more xs i p e = by xs i e ∙ (let k : suc i ≡ i + 1 = omega arith in ap (λ (n : ℕ). take n (numbers_of xs)) k)
  where
    by : (xs : List Part) (i : ℕ) → slice_get xs i ≡ Some p → take i (numbers_of xs) ++ p.number ∷ [] ≡ take (suc i) (numbers_of xs)
    by [] i e = absurd (cc)
    by (q ∷ xs) zero e = let same : q ≡ p = cc in ap (λ (x : Part). x.number ∷ []) (sym same)
    by (q ∷ xs) (suc i) e = ap (λ (l : List ℕ). q.number ∷ l) (by xs i e)

-- who is alone where nobody has a claim out
pub alone_free : {O : Type 0} (w : Seen O) (i : ℕ) → (HasCalls (cast_of w) → HasNoClaims (objects_of w)) → IsAlone w i
alone_free w i free = λ calling a got other ne host. free calling other host

module _ {O : Type 0} (objects : O → Option Stored) (faults : O → ℕ) (context : Context) (hosts : ℕ) (start old new : Seen O) (i : ℕ) (w : WorkedOut objects faults i old new) (is : IsWorld context hosts new) where
  there : (b : actor.Seen) × (slice_get new.actors i ≡ Some b) × (part_of b ≡ part_of w.worker)
  there = still_there old new i w.worker w.cast w.at

  -- nobody has a claim out again
  pub still_free : HasCalls (cast_of new) → HasNoClaims (objects_of new)
  still_free = λ calling caller host. by calling caller host (same_or_not caller there.0.number)
    where
      by : HasCalls (cast_of new) → (caller host : ℕ) → (caller ≡ there.0.number) ⊎ (caller ≢ there.0.number) → claim_out (objects_of new) caller host ≡ None
      by calling caller host (inr ne) = w.alone calling there.0 there.1 caller ne host
      by calling caller host (inl e) =
          let lets : LetsGo there.0.now there.0 (Cache host) = subst (λ (k : Now). LetsGo k there.0 (Cache host)) (sym (w.ended there.0 there.1)) tt in
          ap (λ (n : ℕ). claim_out (objects_of new) n host) e ∙ (is.actors i there.0 there.1).gone (Cache host) lets

  -- its number has ended
  pub number_ended : HasEnded new w.worker.number
  number_ended j b f n =
      let same : i ≡ j = one_number context hosts new i j there.0 b is there.1 f (ap (λ (p : Part). p.number) there.2 ∙ sym n) in
      w.ended b (ap (slice_get new.actors) same ∙ f)

  -- so have all up to it
  pub ended_more : ((j : ℕ) (a : actor.Seen) → j < i → slice_get old.actors j ≡ Some a → a.now ≡ over) → (j : ℕ) (a : actor.Seen) → j < i + 1 → slice_get new.actors j ≡ Some a → a.now ≡ over
  ended_more earlier j a h e = by (same_or_not j i)
    where
      by : (j ≡ i) ⊎ (j ≢ i) → a.now ≡ over
      by (inl s) = w.ended a (ap (slice_get new.actors) (sym s) ∙ e)
      by (inr ne) = earlier j a (lt_of j i (omega (arith, h)) ne) (sym (w.others j ne) ∙ e)

  pub turns_more : {steps : List ℕ} → cast_of old ≡ cast_of start → InTurn objects faults start (take i (numbers_of (cast_of start))) steps old → InTurn objects faults start (take (i + 1) (numbers_of (cast_of start))) (steps ++ w.steps) new
  turns_more {steps} cast turns =
      let part : slice_get (cast_of start) i ≡ Some (part_of w.worker) = ap (λ (c : List Part). slice_get c i) (sym cast) ∙ part_at old i w.worker w.at in
      subst (λ (l : List ℕ). InTurn objects faults start l (steps ++ w.steps) new) (numbers_more (cast_of start) i (part_of w.worker) part) (next turns w.worker.number w.works number_ended)

-- all of them
pub numbers_all : (xs : List Part) (n : ℕ) → length xs ≤ n → take n (numbers_of xs) ≡ numbers_of xs
numbers_all [] zero h = refl
numbers_all [] (suc n) h = refl
numbers_all (x ∷ xs) zero h = absurd (omega arith)
numbers_all (x ∷ xs) (suc n) h = ap (λ (l : List ℕ). x.number ∷ l) (numbers_all xs n (omega (arith, h)))

pub cast_length : {O : Type 0} (w : Seen O) → length (cast_of w) ≡ length w.actors
cast_length w = length-map w.actors part_of
