-- Lists of actors.
use Rattle.std.proofs.Common.{◌≡◌, ℕ, ◌+◌, List, [], ◌∷◌, ◌++◌, map, Bool, cond, not, nat_lt, Some, None, ap, ap₂, refl}
use Rattle.std.specs.List.{position, position_or_len}
use Rattle.std.proofs.lemmas.List.{length-map}
use Rattle.lr_script.specs.Seen.{JobSeen}
use Rattle.lr_script.specs.State.{onto_last}

or_len_map : {A B : Type 0} (f : A → B) (p : B → Bool) (xs : List A) → position_or_len p (map f xs) ≡ position_or_len (λ x. p (f x)) xs
or_len_map f p [] = refl
or_len_map f p (x ∷ xs) = ap (λ (n : ℕ). cond (not (p (f x))) (1 + n) 0) (or_len_map f p xs)

pub position_map : {A B : Type 0} (f : A → B) (p : B → Bool) (xs : List A) → position p (map f xs) ≡ position (λ x. p (f x)) xs
position_map f p xs = ap₂ (λ (i n : ℕ). cond (nat_lt i n) (Some i) None) (or_len_map f p xs) (length-map xs f)

pub onto_last-push : (job : JobSeen) (front : List (List ℕ × List JobSeen)) (a : List ℕ × List JobSeen) → onto_last job (front ++ a ∷ []) ≡ front ++ (a.0, a.1 ++ job ∷ []) ∷ []
onto_last-push job [] a = refl
onto_last-push job (b ∷ []) a = refl
onto_last-push job (b ∷ c ∷ rest) a = ap (λ (t : List (List ℕ × List JobSeen)). b ∷ t) (onto_last-push job (c ∷ rest) a)
