-- What is decided, and searches: what is decided of each number below a bound is decided of some number, and so of lists.
use Rattle.std.proofs.Common.{◌≡◌, ℕ, zero, suc, ◌<◌, ◌≤◌, List, [], ◌∷◌, ◌⊎◌, inl, inr, length, get_or, Bool, true, false, Option, Some, None, refl, ap, ap₂, sym, subst, arith}
use Rattle.std.proofs.lemmas.Bool.{cases_lt, cases_order}
use Rattle.std.specs.List.{AllByRecursion}

-- It holds, or it never does.
pub data Sure (P : Type 0) : Type 0 where
  yes : P → Sure P
  never : (P → ⊥) → Sure P

pub mapped : {P Q : Type 0} → Sure P → (P → Q) → (Q → P) → Sure Q
mapped (yes p) f g = yes (f p)
mapped (never n) f g = never (λ q. n (g q))

pub both : {P Q : Type 0} → Sure P → Sure Q → Sure (P × Q)
both (yes p) (yes q) = yes (p, q)
both (never n) d = never (λ r. n r.0)
both (yes p) (never n) = never (λ r. n r.1)

pub denied : {P : Type 0} → Sure P → Sure (P → ⊥)
denied (yes p) = never (λ n. n p)
denied (never n) = yes n

pub is_true : (b : Bool) → Sure (b ≡ true)
is_true true = yes refl
is_true false = never (λ e. cc e)

pub is_false : (b : Bool) → Sure (b ≡ false)
is_false false = yes refl
is_false true = never (λ e. cc e)

pub is_less : (m n : ℕ) → Sure (m < n)
is_less m n = from (cases_lt m n) where
  from : (m < n) ⊎ (n ≤ m) → Sure (m < n)
  from (inl lt) = yes lt
  from (inr le) = never (λ lt. omega arith)

pub is_most : (m n : ℕ) → Sure (m ≤ n)
is_most m n = from (cases_lt n m) where
  from : (n < m) ⊎ (m ≤ n) → Sure (m ≤ n)
  from (inl lt) = never (λ le. omega arith)
  from (inr le) = yes le

pub same_number : (m n : ℕ) → Sure (m ≡ n)
same_number m n = from (cases_order m n) where
  from : (m ≡ n) ⊎ ((m < n) ⊎ (n < m)) → Sure (m ≡ n)
  from (inl e) = yes e
  from (inr (inl lt)) = never (λ e. omega arith)
  from (inr (inr lt)) = never (λ e. omega arith)

pub same_list : {A : Type 0} → ((x y : A) → Sure (x ≡ y)) → (xs ys : List A) → Sure (xs ≡ ys)
same_list same [] [] = yes refl
same_list same [] (y ∷ ys) = never (λ e. cc e)
same_list same (x ∷ xs) [] = never (λ e. cc e)
same_list {A} same (x ∷ xs) (y ∷ ys) = mapped {P = (x ≡ y) × (xs ≡ ys)} (both (same x y) (same_list same xs ys)) (λ p. ap₂ (λ (u : A) (us : List A). u ∷ us) p.0 p.1) (λ e. (cc e, cc e))

pub same_text : (xs ys : List ℕ) → Sure (xs ≡ ys)
same_text xs ys = same_list same_number xs ys

pub same_texts : (v w : List (List ℕ)) → Sure (v ≡ w)
same_texts v w = same_list same_text v w

pub no_place : (o : Option ℕ) → Sure (o ≡ None)
no_place None = yes refl
no_place (Some i) = never (λ e. cc e)

pub same_place : (o : Option ℕ) (i : ℕ) → Sure (o ≡ Some i)
same_place None i = never (λ e. cc e)
same_place (Some j) i = mapped (same_number j i) (λ e. ap (λ (k : ℕ). Some k) e) (λ e. cc e)

-- the word of a place
pub some_word : {P : List ℕ → Type 0} → (w : List (List ℕ)) (i : ℕ) → ((x : List ℕ) → Sure (P x)) → ((x : List ℕ) → P x → get_or w i [] ≡ x) → Sure ((x : List ℕ) × P x)
some_word {P} w i d at = mapped (d (get_or w i [])) (λ p. (get_or w i [], p)) (λ q. subst P (sym (at q.0 q.1)) q.1)

-- the place that is found
pub some_place : {P : ℕ → Type 0} → (o : Option ℕ) → ((i : ℕ) → Sure (P i)) → ((i : ℕ) → P i → o ≡ Some i) → Sure ((i : ℕ) × P i)
some_place {P} None d at = never (λ q. let e : None ≡ Some q.0 = at q.0 q.1 in cc e)
some_place {P} (Some j) d at = mapped (d j) (λ p. (j, p)) (λ q. let e : Some j ≡ Some q.0 = at q.0 q.1 in let s : q.0 ≡ j = cc e in subst P s q.1)

below_more : {P : ℕ → Type 0} → (k : ℕ) → Sure (P k) → Sure ((n : ℕ) × (n < k) × P n) → Sure ((n : ℕ) × (n < suc k) × P n)
below_more k (yes p) s = yes (k, omega arith, p)
below_more k (never none) (yes q) = let lt : q.0 < k = q.1 in yes (q.0, omega arith, q.2)
below_more {P} k (never none) (never fewer) = never (λ q. last q.0 q.1 q.2 (cases_lt q.0 k)) where
  last : (n : ℕ) → n < suc k → P n → (n < k) ⊎ (k ≤ n) → ⊥
  last n lt p (inl less) = fewer (n, less, p)
  last n lt p (inr more) = let e : n ≡ k = omega arith in none (subst P e p)

pub some_below : {P : ℕ → Type 0} → (k : ℕ) → ((n : ℕ) → Sure (P n)) → Sure ((n : ℕ) × (n < k) × P n)
some_below zero d = never (λ q. let lt : q.0 < 0 = q.1 in omega arith)
some_below (suc k) d = below_more k (d k) (some_below k d)

-- a number below a bound
pub some_number : {P : ℕ → Type 0} → (k : ℕ) → ((n : ℕ) → Sure (P n)) → ((n : ℕ) → P n → n < k) → Sure ((n : ℕ) × P n)
some_number {P} k d low = mapped (some_below {P = P} k d) (λ q. (q.0, q.2)) (λ q. (q.0, low q.0 q.1, q.1))

split : {A : Type 0} (R : A → Type 0) (P : List A → Type 0) (n : ℕ) (xs : List A) → length xs ≡ suc n → AllByRecursion R xs → P xs → (a : A) × R a × ((ys : List A) × (length ys ≡ n) × AllByRecursion R ys × P (a ∷ ys))
split R P n [] e all p = absurd (omega arith)
split R P n (x ∷ xs) e all p = (x, all.0, (xs, omega arith, all.1, p))

-- a list of so many
pub some_list : {A : Type 0} (R : A → Type 0) → ((P : A → Type 0) → ((a : A) → Sure (P a)) → Sure ((a : A) × R a × P a)) → (n : ℕ) (P : List A → Type 0) → ((xs : List A) → Sure (P xs)) → Sure ((xs : List A) × (length xs ≡ n) × AllByRecursion R xs × P xs)
some_list {A} R el zero P d = mapped (d []) (λ p. ([], refl, tt, p)) (λ q. empty q.0 q.1 q.3) where
  empty : (xs : List A) → length xs ≡ 0 → P xs → P []
  empty [] e p = p
  empty (x ∷ xs) e p = absurd (omega arith)
some_list {A} R el (suc n) P d =
    mapped (el (λ (a : A). (ys : List A) × (length ys ≡ n) × AllByRecursion R ys × P (a ∷ ys)) (λ a. some_list R el n (λ (ys : List A). P (a ∷ ys)) (λ ys. d (a ∷ ys))))
    (λ q. (q.0 ∷ q.2.0, (let e : length q.2.0 ≡ n = q.2.1 in omega arith), (q.1, q.2.2), q.2.3))
    (λ q. split R P n q.0 q.1 q.2 q.3)

-- a list of fewer than so many
pub some_short_list : {A : Type 0} (R : A → Type 0) → ((P : A → Type 0) → ((a : A) → Sure (P a)) → Sure ((a : A) × R a × P a)) → (k : ℕ) (P : List A → Type 0) → ((xs : List A) → Sure (P xs)) → ((xs : List A) → P xs → length xs < k) → ((xs : List A) → P xs → AllByRecursion R xs) → Sure ((xs : List A) × P xs)
some_short_list {A} R el k P d short each =
    mapped (some_below {P = λ (n : ℕ). (xs : List A) × (length xs ≡ n) × AllByRecursion R xs × P xs} k (λ n. some_list R el n P d))
    (λ q. (q.2.0, q.2.3)) (λ q. (length q.0, short q.0 q.1, (q.0, refl, each q.0 q.1, q.1)))
