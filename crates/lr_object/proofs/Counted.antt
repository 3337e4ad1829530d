-- How many elements pass a test, and what goes with the first one.
use Rattle.std.proofs.Common.{◌≡◌, ◌≤◌, ℕ, zero, suc, ◌+◌, List, [], ◌∷◌, ◌++◌, length, take, drop, cond, Bool, true, false, Option, Some, None, find, refl, sym, ap, ◌∙◌, arith}
use Rattle.std.specs.Prelude.{IsNone, IsSome, count_by}
use Rattle.std.specs.List.{position_or_len}
use Rattle.std.proofs.lemmas.List.Recursion.{is_count_by}
use Rattle.lr_object.specs.Finds.{without_first}

-- 1 for yes, 0 for no
abbrev pub one_if : Bool → ℕ
one_if b = cond b 1 0

-- how many pass, by recursion
abbrev pub hits : {X : Type 0} → (X → Bool) → List X → ℕ
hits p [] = 0
hits p (x ∷ xs) = one_if (p x) + hits p xs

pub find_first : {X : Type 0} (p : X → Bool) (x : X) (xs : List X) → p x ≡ true → find p (x ∷ xs) ≡ Some x
find_first p x xs e = rw e refl

pub find_later : {X : Type 0} (p : X → Bool) (x : X) (xs : List X) → p x ≡ false → find p (x ∷ xs) ≡ find p xs
find_later p x xs e = rw e refl

pub without_here : {X : Type 0} (p : X → Bool) (x : X) (xs : List X) → p x ≡ true → without_first p (x ∷ xs) ≡ xs
without_here p x xs e = rw e refl

seam : {X : Type 0} (x : X) (xs : List X) (n : ℕ) → take (1 + n) (x ∷ xs) ++ drop (1 + n + 1) (x ∷ xs) ≡ x ∷ (take n xs ++ drop (n + 1) xs)
seam x xs n =
    let a : 1 + n ≡ suc n = omega arith in
    let b : 1 + n + 1 ≡ suc (n + 1) = omega arith in
    rw (b, a) refl

pub without_later : {X : Type 0} (p : X → Bool) (x : X) (xs : List X) → p x ≡ false → without_first p (x ∷ xs) ≡ x ∷ without_first p xs
without_later p x xs e = rw e (seam x xs (position_or_len p xs))

pub some_same : {X : Type 0} (x y : X) → Some x ≡ Some y → x ≡ y
some_same x y e = cc

pub none_is : {X : Type 0} (o : Option X) → IsNone o → o ≡ None
none_is None n = refl
none_is (Some x) n = absurd (cc)

pub some_is : {X : Type 0} (o : Option X) → IsSome o → (x : X) × (o ≡ Some x)
some_is None s = absurd (cc)
some_is (Some x) s = (x, refl)

module _ {X : Type 0} (p : X → Bool) where
  pub hits-count : (xs : List X) → hits p xs ≡ count_by p xs
  hits-count xs = is_count_by (hits p) p refl step xs
    where
      by : (b : Bool) (n : ℕ) → one_if b + n ≡ cond b (1 + n) n
      by true n = refl
      by false n = omega arith

      step : (x : X) (ys : List X) → hits p (x ∷ ys) ≡ cond (p x) (1 + hits p ys) (hits p ys)
      step x ys = by (p x) (hits p ys)

  pub hits-append : (xs ys : List X) → hits p (xs ++ ys) ≡ hits p xs + hits p ys
  hits-append [] ys = omega arith
  hits-append (x ∷ xs) ys = let e = hits-append xs ys in omega arith

  pub hits-take : (n : ℕ) (xs : List X) → hits p (take n xs) ≤ hits p xs
  hits-take zero xs = omega arith
  hits-take (suc n) [] = omega arith
  hits-take (suc n) (x ∷ xs) = let e = hits-take n xs in omega arith

  pub hits_none : (xs : List X) → find p xs ≡ None → hits p xs ≡ 0
  hits_none [] e = refl
  hits_none (x ∷ xs) e = by (hits_none xs) (p x) refl
    where
      by : (find p xs ≡ None → hits p xs ≡ 0) → (b : Bool) → p x ≡ b → one_if (p x) + hits p xs ≡ 0
      by more true t =
          let there : find p (x ∷ xs) ≡ Some x = find_first p x xs t in
          absurd (cc)
      by more false t =
          let rest : hits p xs ≡ 0 = more (sym (find_later p x xs t) ∙ e) in
          let none : one_if (p x) ≡ 0 = rw t refl in
          omega arith

  pub found_passes : (xs : List X) (y : X) → find p xs ≡ Some y → p y ≡ true
  found_passes [] y e = absurd (cc)
  found_passes (x ∷ xs) y e = by (found_passes xs y) (p x) refl
    where
      by : (find p xs ≡ Some y → p y ≡ true) → (b : Bool) → p x ≡ b → p y ≡ true
      by more true t =
          let same : x ≡ y = some_same x y (sym (find_first p x xs t) ∙ e) in
          ap p (sym same) ∙ t
      by more false t = more (sym (find_later p x xs t) ∙ e)

  -- what passes q in the list, and in the list without the first that passes p
  pub hits-without_first : (q : X → Bool) (xs : List X) (y : X) → find p xs ≡ Some y → one_if (q y) + hits q (without_first p xs) ≡ hits q xs
  hits-without_first q [] y e = absurd (cc)
  hits-without_first q (x ∷ xs) y e = by (hits-without_first q xs y) (p x) refl
    where
      by : (find p xs ≡ Some y → one_if (q y) + hits q (without_first p xs) ≡ hits q xs) → (b : Bool) → p x ≡ b → one_if (q y) + hits q (without_first p (x ∷ xs)) ≡ one_if (q x) + hits q xs
      by more true t =
          let same : x ≡ y = some_same x y (sym (find_first p x xs t) ∙ e) in
          let rest : hits q (without_first p (x ∷ xs)) ≡ hits q xs = ap (hits q) (without_here p x xs t) in
          let one : one_if (q x) ≡ one_if (q y) = ap (λ (z : X). one_if (q z)) same in
          omega arith
      by more false t =
          let tail : one_if (q y) + hits q (without_first p xs) ≡ hits q xs = more (sym (find_later p x xs t) ∙ e) in
          let rest : hits q (without_first p (x ∷ xs)) ≡ one_if (q x) + hits q (without_first p xs) = ap (hits q) (without_later p x xs t) in
          omega arith

  -- no more pass where the first that passes p is gone, if there is one
  pub hits-without_first_le : (q : X → Bool) (xs : List X) → hits q (without_first p xs) ≤ hits q xs
  hits-without_first_le q [] = omega arith
  hits-without_first_le q (x ∷ xs) = by (hits-without_first_le q xs) (p x) refl
    where
      by : hits q (without_first p xs) ≤ hits q xs → (b : Bool) → p x ≡ b → hits q (without_first p (x ∷ xs)) ≤ one_if (q x) + hits q xs
      by more true t =
          let rest : hits q (without_first p (x ∷ xs)) ≡ hits q xs = ap (hits q) (without_here p x xs t) in
          omega arith
      by more false t =
          let rest : hits q (without_first p (x ∷ xs)) ≡ one_if (q x) + hits q (without_first p xs) = ap (hits q) (without_later p x xs t) in
          omega arith

pub hits_all : {X : Type 0} (xs : List X) → hits (λ (x : X). true) xs ≡ length xs
hits_all [] = refl
hits_all {X} (x ∷ xs) = let e = hits_all xs in omega arith
