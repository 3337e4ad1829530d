-- More on how many elements pass a test and which the first is, and on lists of different names.
use Rattle.std.proofs.Common.{◌≡◌, ◌≤◌, ℕ, zero, suc, ◌+◌, ◌<◌, List, [], ◌∷◌, ◌++◌, length, map, get_or, cond, Bool, true, false, Option, Some, None, find, refl, sym, ap, subst, ◌∙◌, inl, inr, arith}
use Rattle.std.specs.Prelude.{◌⊎◌, IsNone}
use Rattle.std.specs.List.{AllByRecursion, Contains}
use Rattle.std.specs.Str.{bytes_eq}
use Rattle.std.proofs.lemmas.Slice.Eq.{bytes_eq-Decides}
use Rattle.lr_object.specs.Finds.{without_first}
use Rattle.lr_object.proofs.Counted.{one_if, hits, find_first, find_later, without_here, without_later, some_same}

pub is_same : (a b : List ℕ) → bytes_eq a b ≡ true → a ≡ b
is_same a b e = (bytes_eq-Decides a b).0 e

pub some_none : {X : Type 0} {P : Type 0} (x : X) (o : Option X) → o ≡ Some x → IsNone o → P
some_none x None e n = absurd (cc)
some_none x (Some y) e n = absurd (cc)

module _ {X : Type 0} (p : X → Bool) where
  pub none_found : (xs : List X) → hits p xs ≡ 0 → find p xs ≡ None
  none_found [] e = refl
  none_found (x ∷ xs) e = by (none_found xs) (p x) refl
    where
      by : (hits p xs ≡ 0 → find p xs ≡ None) → (b : Bool) → p x ≡ b → find p (x ∷ xs) ≡ None
      by more true t =
          let one : one_if (p x) ≡ 1 = rw t refl in
          absurd (omega (arith, e, one))
      by more false t = find_later p x xs t ∙ more (omega arith)

  pub without_all : (P : X → Type 0) (xs : List X) → AllByRecursion P xs → AllByRecursion P (without_first p xs)
  without_all P [] h = tt
  without_all P (x ∷ xs) h = by (without_all P xs h.1) (p x) refl
    where
      by : AllByRecursion P (without_first p xs) → (b : Bool) → p x ≡ b → AllByRecursion P (without_first p (x ∷ xs))
      by more true t = rw (without_here p x xs t) h.1
      by more false t = rw (without_later p x xs t) (h.0, more)

  pub found_all : (P : X → Type 0) (xs : List X) (y : X) → find p xs ≡ Some y → AllByRecursion P xs → P y
  found_all P [] y e h = absurd (cc)
  found_all P (x ∷ xs) y e h = by (found_all P xs y) (p x) refl
    where
      by : (find p xs ≡ Some y → AllByRecursion P xs → P y) → (b : Bool) → p x ≡ b → P y
      by more true t = subst P (some_same x y (sym (find_first p x xs t) ∙ e)) h.0
      by more false t = more (sym (find_later p x xs t) ∙ e) h.1

  pub find_new : (xs : List X) (y : X) → find p xs ≡ None → p y ≡ true → find p (xs ++ y ∷ []) ≡ Some y
  find_new [] y e t = find_first p y [] t
  find_new (x ∷ xs) y e t = by (find_new xs y) (p x) refl
    where
      by : (find p xs ≡ None → p y ≡ true → find p (xs ++ y ∷ []) ≡ Some y) → (b : Bool) → p x ≡ b → find p (x ∷ xs ++ y ∷ []) ≡ Some y
      by more true f =
          let there : find p (x ∷ xs) ≡ Some x = find_first p x xs f in
          absurd (cc)
      by more false f = find_later p x (xs ++ y ∷ []) f ∙ more (sym (find_later p x xs f) ∙ e) t

  pub find_old : (xs : List X) (y : X) → p y ≡ false → find p (xs ++ y ∷ []) ≡ find p xs
  find_old [] y t = find_later p y [] t
  find_old (x ∷ xs) y t = by (find_old xs y t) (p x) refl
    where
      by : find p (xs ++ y ∷ []) ≡ find p xs → (b : Bool) → p x ≡ b → find p (x ∷ xs ++ y ∷ []) ≡ find p (x ∷ xs)
      by more true f = find_first p x (xs ++ y ∷ []) f ∙ sym (find_first p x xs f)
      by more false f = find_later p x (xs ++ y ∷ []) f ∙ more ∙ sym (find_later p x xs f)

  pub find_beside : (q : X → Bool) → ((x : X) → q x ≡ true → p x ≡ false) → (xs : List X) → find p (without_first q xs) ≡ find p xs
  find_beside q apart [] = refl
  find_beside q apart (x ∷ xs) = by (find_beside q apart xs) (q x) (p x) refl refl
    where
      by : find p (without_first q xs) ≡ find p xs → (b c : Bool) → q x ≡ b → p x ≡ c → find p (without_first q (x ∷ xs)) ≡ find p (x ∷ xs)
      by more true c t f = ap (find p) (without_here q x xs t) ∙ sym (find_later p x xs (apart x t))
      by more false true t f = ap (find p) (without_later q x xs t) ∙ find_first p x (without_first q xs) f ∙ sym (find_first p x xs f)
      by more false false t f = ap (find p) (without_later q x xs t) ∙ find_later p x (without_first q xs) f ∙ more ∙ sym (find_later p x xs f)

pub hits_map : {X Y : Type 0} (q : Y → Bool) (f : X → Y) (xs : List X) → hits q (map f xs) ≡ hits (λ (x : X). q (f x)) xs
hits_map q f [] = refl
hits_map q f (x ∷ xs) = ap (λ (n : ℕ). one_if (q (f x)) + n) (hits_map q f xs)

-- ---- lists of names: each of several, at most once

abbrev pub In : List (List ℕ) → List ℕ → Type 0
In [] y = ⊥
In (s ∷ some) y = (y ≡ s) ⊎ In some y

pub in_of : (some : List (List ℕ)) (y : List ℕ) → Contains some y → In some y
in_of [] y c = absurd (omega (arith, c.1))
in_of (s ∷ some) y c = by (in_of some y) c.0 c.1 c.2
  where
    by : (Contains some y → In some y) → (k : ℕ) → k < length (s ∷ some) → get_or (s ∷ some) k y ≡ y → In (s ∷ some) y
    by more zero l e = inl (sym e)
    by more (suc k) l e = inr (more (k, omega arith, e))

abbrev without : List ℕ → List (List ℕ) → List (List ℕ)
without s [] = []
without s (y ∷ ys) = cond (bytes_eq y s) (without s ys) (y ∷ without s ys)

abbrev pub is_one : List ℕ → List ℕ → Bool
is_one x y = bytes_eq y x

split_off : (s : List ℕ) (ys : List (List ℕ)) → length ys ≡ hits (is_one s) ys + length (without s ys)
split_off s [] = refl
split_off s (y ∷ ys) = by (split_off s ys) (bytes_eq y s)
  where
    by : length ys ≡ hits (is_one s) ys + length (without s ys) → (b : Bool) → length (y ∷ ys) ≡ one_if b + hits (is_one s) ys + length (cond b (without s ys) (y ∷ without s ys))
    by e true = omega arith
    by e false = omega arith

hits_without : (q : List ℕ → Bool) (s : List ℕ) (ys : List (List ℕ)) → hits q (without s ys) ≤ hits q ys
hits_without q s [] = omega arith
hits_without q s (y ∷ ys) = by (hits_without q s ys) (bytes_eq y s)
  where
    by : hits q (without s ys) ≤ hits q ys → (b : Bool) → hits q (cond b (without s ys) (y ∷ without s ys)) ≤ one_if (q y) + hits q ys
    by e true = omega arith
    by e false = omega arith

others_in : (s : List ℕ) (some ys : List (List ℕ)) → AllByRecursion (In (s ∷ some)) ys → AllByRecursion (In some) (without s ys)
others_in s some [] h = tt
others_in s some (y ∷ ys) h = by (others_in s some ys h.1) h.0 (bytes_eq y s) refl
  where
    by : AllByRecursion (In some) (without s ys) → (y ≡ s) ⊎ In some y → (b : Bool) → bytes_eq y s ≡ b → AllByRecursion (In some) (cond b (without s ys) (y ∷ without s ys))
    by more i true t = more
    by more (inr i) false t = (i, more)
    by more (inl e) false t =
        let same : bytes_eq y s ≡ true = (bytes_eq-Decides y s).1 e in
        absurd (cc)

-- So many different ones are there at most.
pub few : (some ys : List (List ℕ)) → AllByRecursion (In some) ys → ((x : List ℕ) → hits (is_one x) ys ≤ 1) → length ys ≤ length some
few [] [] h u = omega arith
few [] (y ∷ ys) h u = absurd h.0
few (s ∷ some) ys h u =
    let rest : length (without s ys) ≤ length some = few some (without s ys) (others_in s some ys h) (λ x. let a = hits_without (is_one x) s ys in let b = u x in omega arith) in
    let one = u s in
    let all = split_off s ys in
    omega arith
