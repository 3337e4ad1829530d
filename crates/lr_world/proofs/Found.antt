-- Actors by their numbers.
use Rattle.std.proofs.Common.{◌≡◌, ◌<◌, ◌≤◌, ◌+◌, ℕ, zero, suc, List, [], ◌∷◌, length, map, Some, slice_get, refl, ap, sym, ◌∙◌, inl, inr, arith}
use Rattle.std.specs.Prelude.{◌≢◌, ◌⊎◌}
use Rattle.std.proofs.lemmas.Bool.{cases_lt}
use Rattle.std.proofs.lemmas.Option.{slice_get_within}
use Rattle.lr_world.proofs.Gone.{lt_of}
use Rattle.lr_walk.specs.Jobs.{Context}
use Rattle.lr_actors.specs.Actor as actor
use Rattle.lr_actors.specs.Actor.{Now, works, idles, reaps, over}
use Rattle.lr_world.specs.declared.world.Turn.{Turn}
use Rattle.lr_world.specs.declared.world.Stepped.{Stepped}
use Rattle.lr_world.specs.Turns.{turn_of, stepped_of}
use Rattle.lr_world.specs.World.{Seen, Part, part_of, cast_of, IsNumber, IsWorld, told_of}
use Rattle.lr_world.proofs.Taken.{part_at}
use Rattle.lr_world.proofs.Leases.{same_or_not}

-- the actor of a part
pub actor_in : (xs : List actor.Seen) (i : ℕ) (p : Part) → slice_get (map part_of xs) i ≡ Some p → (a : actor.Seen) × (slice_get xs i ≡ Some a) × (part_of a ≡ p)
actor_in [] i p e = absurd (cc)
actor_in (x ∷ xs) zero p e = let same : part_of x ≡ p = cc in (x, refl, same)
actor_in (x ∷ xs) (suc i) p e = actor_in xs i p e

-- a known number is that of some actor
pub actor_of : {O : Type 0} (w : Seen O) (number : ℕ) → IsNumber (cast_of w) number → (i : ℕ) × (a : actor.Seen) × (slice_get w.actors i ≡ Some a) × (a.number ≡ number)
actor_of w number k =
    let f = actor_in w.actors k.0 k.1 k.2 in
    (k.0, f.0, f.1, ap (λ (p : Part). p.number) f.2 ∙ k.3)

-- one that was looked for among all of them is not missing
pub found : {O : Type 0} (w : Seen O) (number : ℕ) → IsNumber (cast_of w) number → (n : ℕ) → length w.actors ≤ n → ((k : ℕ) (a : actor.Seen) → k < n → slice_get w.actors k ≡ Some a → a.number ≡ number → ⊥) → ⊥
found w number k n all none =
    let f = actor_of w number k in
    none f.0 f.1 (omega (arith, slice_get_within w.actors f.0 f.1 f.2, all)) f.2 f.3

-- one more was looked at
pub looked_at : (xs : List actor.Seen) (number n : ℕ) (x : actor.Seen) → slice_get xs n ≡ Some x → (x.number ≡ number → ⊥) → ((k : ℕ) (a : actor.Seen) → k < n → slice_get xs k ≡ Some a → a.number ≡ number → ⊥)
    → (k : ℕ) (a : actor.Seen) → k < n + 1 → slice_get xs k ≡ Some a → a.number ≡ number → ⊥
looked_at xs number n x got ne none k a h e s = by (same_or_not k n)
  where
    by : (k ≡ n) ⊎ (k ≢ n) → ⊥
    by (inl same) =
        let here : Some a ≡ Some x = sym e ∙ ap (slice_get xs) same ∙ got in
        let is : a ≡ x = cc in
        ne (ap (λ (y : actor.Seen). y.number) (sym is) ∙ s)
    by (inr other) = none k a (lt_of k n (omega (arith, h)) other) e s

-- what is told of a turn
pub told_turn : (now : Now) → stepped_of (turn_of now) ≡ told_of now
told_turn (works r) = refl
told_turn (reaps made) = refl
told_turn idles = refl
told_turn over = refl

-- numbers are those of one actor
pub one_number : {O : Type 0} (context : Context) (hosts : ℕ) (w : Seen O) (i j : ℕ) (a b : actor.Seen) → IsWorld context hosts w → slice_get w.actors i ≡ Some a → slice_get w.actors j ≡ Some b → a.number ≡ b.number → i ≡ j
one_number context hosts w i j a b is e f s = by (cases_lt i j) (cases_lt j i)
  where
    by : (i < j) ⊎ (j ≤ i) → (j < i) ⊎ (i ≤ j) → i ≡ j
    by (inl h) k = absurd (omega (arith, is.cast.ascending i j (part_of a) (part_of b) h (part_at w i a e) (part_at w j b f), s))
    by (inr h) (inl k) = absurd (omega (arith, is.cast.ascending j i (part_of b) (part_of a) k (part_at w j b f) (part_at w i a e), s))
    by (inr h) (inr k) = omega (arith, h, k)

-- .. so what is told is told of it
pub tells : {O : Type 0} (context : Context) (hosts : ℕ) (w : Seen O) (i : ℕ) (a : actor.Seen) (number : ℕ) (t : Turn) (s : Stepped) → IsWorld context hosts w → slice_get w.actors i ≡ Some a → a.number ≡ number → t ≡ turn_of a.now → s ≡ stepped_of t
    → (j : ℕ) (b : actor.Seen) → slice_get w.actors j ≡ Some b → b.number ≡ number → s ≡ told_of b.now
tells context hosts w i a number t s is e n turned step j b f m =
    let same : i ≡ j = one_number context hosts w i j a b is e f (n ∙ sym m) in
    let there : Some a ≡ Some b = sym e ∙ ap (slice_get w.actors) same ∙ f in
    let is_b : a ≡ b = cc in
    step ∙ ap stepped_of turned ∙ told_turn a.now ∙ ap (λ (x : actor.Seen). told_of x.now) is_b

-- one place has one actor
pub same_actor : (xs : List actor.Seen) (i : ℕ) (a b : actor.Seen) → slice_get xs i ≡ Some a → slice_get xs i ≡ Some b → a ≡ b
same_actor xs i a b e f = let s : Some a ≡ Some b = sym e ∙ f in cc
