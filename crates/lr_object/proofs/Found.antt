-- Places that `position` finds.
use Rattle.std.proofs.Common.{◌≡◌, ℕ, ◌<◌, ◌≤◌, ◌+◌, List, [], ◌∷◌, Bool, true, false, cond, Option, Some, None, find, slice_get, remove, length, map, refl, ap, sym, get_or, ◌∙◌, position, nat_lt, not, suc, arith, option_map}
use Rattle.std.specs.List.{position_or_len}
use Rattle.std.proofs.Math.Numerals.{add-one}
use Rattle.std.proofs.lemmas.List.Folds.{find_at}
use Rattle.std.proofs.lemmas.List.{length-map, take-map, drop-map, map-append}
use Rattle.std.proofs.lemmas.Option.{slice_get_past, slice_get-get_or}
use Rattle.std.proofs.lemmas.Grind.{common_steps}
use Rattle.lr_object.specs.Finds.{IsFirst, FindsAt, without_first}

found_at : {X : Type 0} (p : X → Bool) (xs : List X) (i : ℕ) → position_or_len p xs ≡ i → i < length xs → IsFirst p xs i
found_at p xs i e h = record {
  within = h;
  found = rw (← e) (find_at p xs);
  rest = rw (← e, add-one) refl;
}

by_test : {X : Type 0} (p : X → Bool) (xs : List X) (b : Bool) → nat_lt (position_or_len p xs) (length xs) ≡ b → FindsAt p xs (cond b (Some (position_or_len p xs)) None)
by_test p xs true e = found_at p xs _ refl (grind (arith, common_steps))
by_test p xs false e = find_at p xs ∙ slice_get_past xs _ (grind (arith, common_steps))

-- what `position` finds
pub finds : {X : Type 0} (p : X → Bool) (xs : List X) → FindsAt p xs (position p xs)
finds p xs = by_test p xs _ refl

-- the place of an element is that of what it is seen as
pub position_or_len-map : {X Y : Type 0} (p : Y → Bool) (f : X → Y) (xs : List X) → position_or_len p (map f xs) ≡ position_or_len (λ x. p (f x)) xs
position_or_len-map p f [] = refl
position_or_len-map p f (x ∷ xs) = ap (λ n. cond (not (p (f x))) (1 + n) 0) (position_or_len-map p f xs)

-- what `position` finds in a list that is seen by f
pub finds_in_map : {X Y : Type 0} (p : Y → Bool) (f : X → Y) (xs : List X) → FindsAt p (map f xs) (position (λ x. p (f x)) xs)
finds_in_map p f xs =
    let same : position (λ x. p (f x)) xs ≡ position p (map f xs) = rw (position_or_len-map p f xs, length-map) refl in
    rw same (finds p (map f xs))

pub map-remove : {X Y : Type 0} (f : X → Y) (xs : List X) (i : ℕ) → map f (remove xs i) ≡ remove (map f xs) i
map-remove f xs i = rw (map-append, take-map, drop-map) refl

-- the element that was read at the place found
pub found_there : {X : Type 0} {p : X → Bool} {xs : List X} {i : ℕ} {x : X} → IsFirst p xs i → x ≡ get_or xs i x → find p xs ≡ Some x
found_there {X} {p} {xs} {i} {x} h e = h.found ∙ slice_get-get_or xs i x h.within ∙ ap Some (sym e)
