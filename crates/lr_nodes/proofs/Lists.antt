-- Lists and the first element of theirs that passes.
use Rattle.std.proofs.Common.{◌≡◌, ℕ, suc, zero, ◌<◌, ◌≤◌, ◌+◌, List, [], ◌∷◌, ◌++◌, Bool, true, false, cond, not, Option, Some, None, find, slice_get, length, map, refl, ap, sym, ◌∙◌, position, nat_lt, arith, option_map, set, take, drop, take_all, subst, inl, inr}
use Rattle.std.specs.Prelude.{IfSome}
use Rattle.std.specs.List.{position_or_len}
use Rattle.std.specs.Option.{option_to_list}
use Rattle.std.proofs.lemmas.List.Folds.{find_at}
use Rattle.std.proofs.lemmas.List.{length-map, drop_all, append-nil, take-append-drop, take-set, drop-set}
use Rattle.std.proofs.lemmas.Grind.{common_steps}
use Rattle.lr_object.specs.Finds.{without_first}
use Rattle.lr_object.proofs.Found.{position_or_len-map}
use Rattle.lr_nodes.specs.Stripes.{with_first}

past_end : {X : Type 0} (xs : List X) (i : ℕ) → slice_get xs i ≡ None → length xs ≤ i
past_end [] i h = omega arith
past_end (x ∷ xs) zero h = absurd (grind (arith, h))
past_end (x ∷ xs) (suc i) h = omega (arith, past_end xs i h)

set_parts : {X : Type 0} (xs : List X) (i : ℕ) (y : X) → i < length xs → set xs i y ≡ take i xs ++ (y ∷ drop (i + 1) xs)
set_parts xs i y lt = sym (take-append-drop i (set xs i y)) ∙ (λ k. take-set xs i y k ++ drop-set xs i y lt k)

-- where none passes, nothing goes
pub without_first-none : {X : Type 0} (p : X → Bool) (xs : List X) → find p xs ≡ None → without_first p xs ≡ xs
without_first-none p xs h =
    let past : length xs ≤ position_or_len p xs = past_end xs (position_or_len p xs) (sym (find_at p xs) ∙ h) in
    (λ k. take_all (position_or_len p xs) xs past k ++ drop_all (position_or_len p xs + 1) xs (omega arith) k) ∙ append-nil xs

by_test : (b : Bool) (n m : ℕ) → n ≡ m → IfSome (cond b (Some n) None) (λ i. i ≡ m)
by_test true n m e = e
by_test false n m e = tt

-- the place that is found is the first one
pub first_place : {X Y : Type 0} (p : Y → Bool) (f : X → Y) (xs : List X) → IfSome (position (λ x. p (f x)) xs) (λ i. i ≡ position_or_len p (map f xs))
first_place p f xs = by_test _ (position_or_len (λ x. p (f x)) xs) (position_or_len p (map f xs)) (sym (position_or_len-map p f xs))

-- a change at the first place
pub with_first-set : {X : Type 0} (p : X → Bool) (f : X → X) (xs : List X) (i : ℕ) (x y : X) → i ≡ position_or_len p xs → i < length xs → find p xs ≡ Some x → y ≡ f x
    → set xs i y ≡ with_first p f xs
with_first-set {X} p f xs i x y e lt found is =
    set_parts xs i y lt ∙ (λ k. take (e k) xs ++ (is k ∷ drop (e k + 1) xs))
    ∙ ap (λ (o : Option X). take (position_or_len p xs) xs ++ (option_to_list (option_map f o) ++ drop (position_or_len p xs + 1) xs)) (sym found)

-- what is seen of a list with one element written
pub map-set : {X Y : Type 0} (f : X → Y) (xs : List X) (i : ℕ) (y : X) → map f (set xs i y) ≡ set (map f xs) i (f y)
map-set f [] i y = refl
map-set f (x ∷ xs) zero y = refl
map-set f (x ∷ xs) (suc i) y = ap (λ l. f x ∷ l) (map-set f xs i y)
