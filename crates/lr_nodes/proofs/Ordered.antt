-- A node is orderly after every log.
use Rattle.std.proofs.Common.{◌≡◌, ◌≤◌, ℕ, ◌+◌, List, [], ◌∷◌, ◌++◌, length, take, Bool, true, false, Option, Some, None, find, fold, sym, ap, subst, ◌∙◌, arith, length-take, eqb-true, option_map, refl}
use Rattle.std.specs.Prelude.{count_by, ◌==◌, ◌&&◌}
use Rattle.std.specs.Arc.{arc_value}
use Rattle.std.specs.Str.{bytes_eq}
use Rattle.std.specs.List.{before_first, after_first}
use Rattle.std.specs.Option.{option_to_list}
use Rattle.std.proofs.lemmas.Bool.{and_parts}
use Rattle.std.proofs.lemmas.Slice.Eq.{bytes_eq-Decides}
use Rattle.std.proofs.lemmas.List.Sums.{fold-append}
use Rattle.lr_manifest.specs.declared.name.Name.{Name}
use Rattle.lr_stripe.specs.declared.stripe.Stripe.{Stripe}
use Rattle.lr_object.specs.Finds.{without_first}
use Rattle.lr_object.specs.Grown.{Grown, same, more}
use Rattle.lr_object.proofs.Counted.{one_if, hits, hits-count, hits-append, hits-take, hits_none, hits-without_first, hits-without_first_le, hits_all, found_passes}
use Rattle.lr_nodes.specs.Stripes.{is_at, flipped_at, with_first}
use Rattle.lr_nodes.specs.declared.call.NodeCall.{NodeCall}
use Rattle.lr_nodes.specs.declared.call.NodeCall.TheVariants.{Get, Put, Drop, Flip, Lose}
use Rattle.lr_nodes.specs.declared.call.NodeReply.{NodeReply}
use Rattle.lr_nodes.specs.declared.call.NodeReply.TheVariants.{Found, Kept, Dropped, Flipped, Lost}
use Rattle.lr_nodes.specs.Machine.{stripes_after, NodeStep, SameReply, LogEntry, after_entry, run}
use Rattle.lr_nodes.specs.Orderly.{Answers, MayEnter, IsOrderly, NodesAreOrderly}
use Rattle.lr_nodes.proofs.Lists.{without_first-none}

-- a change in place changes no count of what it keeps
hits-with_first : {X : Type 0} (p q : X → Bool) (f : X → X) → ((x : X) → q (f x) ≡ q x) → (xs : List X) → hits q (with_first p f xs) ≡ hits q xs
hits-with_first {X} p q f keeps xs = by (find p xs) refl
  where
    split : (o : Option X) → hits q (before_first p xs ++ (option_to_list (option_map f o) ++ after_first p xs)) ≡ hits q (option_to_list (option_map f o)) + hits q (without_first p xs)
    split o = omega (arith, hits-append q (before_first p xs) (option_to_list (option_map f o) ++ after_first p xs), hits-append q (option_to_list (option_map f o)) (after_first p xs), hits-append q (before_first p xs) (after_first p xs))

    by : (o : Option X) → find p xs ≡ o → hits q (with_first p f xs) ≡ hits q xs
    by None e = ap (λ (o : Option X). hits q (before_first p xs ++ (option_to_list (option_map f o) ++ after_first p xs))) e ∙ ap (hits q) (without_first-none p xs e)
    by (Some y) e =
        let kept : one_if (q (f y)) ≡ one_if (q y) = ap one_if (keeps y) in
        let there : hits q (with_first p f xs) ≡ hits q (before_first p xs ++ (option_to_list (option_map f (Some y)) ++ after_first p xs)) = ap (λ (o : Option X). hits q (before_first p xs ++ (option_to_list (option_map f o) ++ after_first p xs))) e in
        omega (arith, there, split (Some y), hits-without_first p q xs y e)

-- where at most one passes, none does without it
hits_gone : {X : Type 0} (p : X → Bool) (xs : List X) → hits p xs ≤ 1 → hits p (without_first p xs) ≡ 0
hits_gone {X} p xs one = by (find p xs) refl
  where
    by : (o : Option X) → find p xs ≡ o → hits p (without_first p xs) ≡ 0
    by None e = ap (hits p) (without_first-none p xs e) ∙ hits_none p xs e
    by (Some y) e =
        let passes : one_if (p y) ≡ 1 = ap one_if (found_passes p xs y e) in
        omega (arith, hits-without_first p p xs y e)

-- of this name's bytes and this index
abbrev at : List ℕ → ℕ → Stripe → Bool
at bytes index s = bytes_eq s.name.bytes bytes && s.index == index

-- the same, counted by recursion
record IsTidy (capacity : ℕ) (stripes : List Stripe) : Type 0 where
  once : (bytes : List ℕ) (index : ℕ) → hits (at bytes index) stripes ≤ 1
  few : length stripes ≤ capacity

module _ (capacity : ℕ) (stripes : List Stripe) (t : IsTidy capacity stripes) where
  raised : (name : Name) (index : ℕ) (s : Stripe) → find (is_at name index) stripes ≡ Some s → IsTidy capacity (s ∷ without_first (is_at name index) stripes)
  raised name index s f = record {
    once = λ b i. omega (arith, hits-without_first (is_at name index) (at b i) stripes s f, t.once b i);
    few = omega (arith, hits-without_first (is_at name index) (λ (c : Stripe). true) stripes s f, hits_all (without_first (is_at name index) stripes), hits_all stripes, t.few);
  }

  put : (s : Stripe) → IsTidy capacity (take capacity (s ∷ without_first (is_at s.name s.index) stripes))
  put s = record {
    once = λ b i. omega (arith, hits-take (at b i) capacity (s ∷ without_first (is_at s.name s.index) stripes), by b i (at b i s) refl);
    few = omega (arith, length-take capacity (s ∷ without_first (is_at s.name s.index) stripes));
  }
    where
      by : (b : List ℕ) (i : ℕ) (c : Bool) → at b i s ≡ c → one_if (at b i s) + hits (at b i) (without_first (is_at s.name s.index) stripes) ≤ 1
      by b i true e =
          let parts = and_parts (bytes_eq s.name.bytes b) (s.index == i) e in
          let bytes : s.name.bytes ≡ b = (bytes_eq-Decides s.name.bytes b).0 parts.0 in
          let index : s.index ≡ i = eqb-true s.index i parts.1 in
          let none : hits (at b i) (without_first (is_at s.name s.index) stripes) ≡ 0 =
          subst (λ (y : List ℕ). hits (at y i) (without_first (is_at s.name s.index) stripes) ≡ 0) bytes
          (subst (λ (n : ℕ). hits (at s.name.bytes n) (without_first (is_at s.name s.index) stripes) ≡ 0) index (hits_gone (is_at s.name s.index) stripes (t.once s.name.bytes s.index))) in
          let first : one_if (at b i s) ≡ 1 = ap one_if e in
          omega arith
      by b i false e =
          let first : one_if (at b i s) ≡ 0 = ap one_if e in
          omega (arith, hits-without_first_le (is_at s.name s.index) (at b i) stripes, t.once b i)

  dropped : (name : Name) (index : ℕ) → IsTidy capacity (without_first (is_at name index) stripes)
  dropped name index = record {
    once = λ b i. omega (arith, hits-without_first_le (is_at name index) (at b i) stripes, t.once b i);
    few = omega (arith, hits-without_first_le (is_at name index) (λ (c : Stripe). true) stripes, hits_all (without_first (is_at name index) stripes), hits_all stripes, t.few);
  }

  flipped : (name : Name) (index place : ℕ) → IsTidy capacity (with_first (is_at name index) (flipped_at place) stripes)
  flipped name index place =
      let now : List Stripe = with_first (is_at name index) (flipped_at place) stripes in
      record {
        once = λ b i. omega (arith, hits-with_first (is_at name index) (at b i) (flipped_at place) (λ s. refl) stripes, t.once b i);
        few = omega (arith, hits-with_first (is_at name index) (λ (c : Stripe). true) (flipped_at place) (λ s. refl) stripes, hits_all now, hits_all stripes, t.few);
      }

  lost : IsTidy capacity []
  lost = record { once = λ b i. omega arith; few = omega arith }

  tidy_after : (call : NodeCall) (reply : NodeReply) → NodeStep stripes call reply → IsTidy capacity (stripes_after capacity stripes call reply)
  tidy_after (Get name index) (Found s) h = raised name index (arc_value s) h
  tidy_after (Get name index) reply h = t
  tidy_after (Put s) Kept h = put (arc_value s)
  tidy_after (Put s) reply h = t
  tidy_after (Drop name index) Dropped h = dropped name index
  tidy_after (Drop name index) reply h = t
  tidy_after (Flip name index place) Flipped h = flipped name index place
  tidy_after (Flip name index place) reply h = t
  tidy_after Lose (Lost n) h = lost
  tidy_after Lose reply h = t

-- a stripe of the same parts is found as well
found_told : (stripes : List Stripe) (call : NodeCall) (told : NodeReply) (s : _) → SameReply told (Found s) → NodeStep stripes call (Found s) → NodeStep stripes call told
found_told stripes (Get name index) (Found a) s e h = h ∙ ap Some (sym e)
found_told stripes (Get name index) reply s e h = absurd (cc)
found_told stripes (Put c) reply s e h = absurd h
found_told stripes (Drop name index) reply s e h = absurd h
found_told stripes (Flip name index place) reply s e h = absurd h
found_told stripes Lose reply s e h = absurd h

-- what the log keeps of a reply, the machine gives as well
pub told_step : (stripes : List Stripe) (call : NodeCall) (told reply : NodeReply) → SameReply told reply → NodeStep stripes call reply → NodeStep stripes call told
told_step stripes call (Found a) (Found b) e h = found_told stripes call (Found a) b e h
told_step stripes call (Found a) reply e h = absurd e
told_step stripes call told reply e h = subst (λ (r : NodeReply). NodeStep stripes call r) (sym e) h

from_start : {capacity : ℕ} {start log : List LogEntry} → Grown Answers MayEnter capacity start log → IsTidy capacity (run capacity start) → IsTidy capacity (run capacity log)
from_start same h = h
from_start {capacity} (more {log = log} g call reply e answered entered) h =
    let old : IsTidy capacity (run capacity log) = from_start g h in
    let step : NodeStep (run capacity log) e.call e.reply =
    told_step (run capacity log) e.call e.reply reply entered.told (subst (λ (c : NodeCall). NodeStep (run capacity log) c reply) (sym entered.noted) answered) in
    subst (IsTidy capacity) (sym (fold-append (after_entry capacity) [] log (e ∷ []))) (tidy_after capacity (run capacity log) old e.call e.reply step)

pub nodes_are_orderly : NodesAreOrderly
nodes_are_orderly capacity log g =
    let t = from_start g (record { once = λ b i. omega arith; few = omega arith }) in
    record {
      once = λ name i. omega (arith, hits-count (is_at name i) (run capacity log), t.once name.bytes i);
      within = t.few;
    }
