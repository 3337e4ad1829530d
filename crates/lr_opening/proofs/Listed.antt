-- One key more, and no further key.
use Rattle.std.proofs.Common.{◌≡◌, ◌<◌, ◌+◌, ◌-◌, ℕ, zero, suc, List, [], ◌∷◌, ◌++◌, length, get_or, Some, None, IsSome, Vec, refl, sym, ap, subst, ◌∙◌, inl, inr, arith, Contains, take}
use mathlib.Core.Logic.{◌⊎◌}
use Rattle.std.specs.FinMap as fin
use Rattle.std.specs.declared.cmp.Ordering.{Ordering}
use Rattle.std.specs.declared.cmp.Ordering.TheVariants.{Less, Equal, Greater}
use Rattle.std.specs.declared.alloc.Global.{Global}
use Rattle.std.specs.Ordering.{ordering_reverse}
use Rattle.std.specs.Cmp.Lexicographic.{nat_list_cmp_total}
use Rattle.std.specs.List.{slice_get, AllByRecursion}
use Rattle.std.specs.List.Sorted.{IsStrictlySortedBy}
use Rattle.std.proofs.lemmas.Map.Lookups.{exact_bytes}
use Rattle.std.proofs.lemmas.List.Elements.{Contains-append_left, Contains-append_right, Contains-append_cases}
use Rattle.lr_origin.specs.Objects.{Objects, IsAfter, IsNext, key_cmp}
use Rattle.lr_opening.specs.Listing.{Lists, ListsAll, HasMany, last_of, bytes_of}
use Rattle.lr_opening.proofs.Decided.{not_none}

last_more : (ks : List (List ℕ)) (k : List ℕ) → last_of (ks ++ k ∷ []) ≡ Some k
last_more [] k = refl
last_more (j ∷ []) k = refl
last_more (j ∷ i ∷ ks) k = last_more (i ∷ ks) k

pub one : (k q : List ℕ) → q ≡ k → Contains (k ∷ []) q
one k q e = (0, omega arith, sym e)

pub the_one : (k q : List ℕ) → Contains (k ∷ []) q → q ≡ k
the_one k q c = at c.0 c.1 c.2
  where
    at : (i : ℕ) → i < length (k ∷ []) → get_or (k ∷ []) i q ≡ q → q ≡ k
    at zero h e = sym e
    at (suc i) h e = absurd (omega arith)

pub below_trans : (x y z : List ℕ) → key_cmp x y ≡ Less → key_cmp y z ≡ Less → key_cmp x z ≡ Less
below_trans x y z a b = nat_list_cmp_total.trans x y z a b

all_push : (P : List ℕ → Type 0) (xs : List (List ℕ)) (k : List ℕ) → AllByRecursion P xs → P k → AllByRecursion P (xs ++ k ∷ [])
all_push P [] k all p = (p, tt)
all_push P (x ∷ xs) k all p = (all.0, all_push P xs k all.1 p)

all_last : (P : List ℕ → Type 0) (xs : List (List ℕ)) (k : List ℕ) → AllByRecursion P (xs ++ k ∷ []) → P k
all_last P [] k all = all.0
all_last P (x ∷ xs) k all = all_last P xs k all.1

-- a key above the last
sorted_push : (ks : List (List ℕ)) (k : List ℕ) → IsStrictlySortedBy key_cmp ks → IsAfter (last_of ks) k → IsStrictlySortedBy key_cmp (ks ++ k ∷ [])
unfolding IsStrictlySortedBy
sorted_push [] k s a = (tt, tt)
sorted_push (x ∷ []) k s a = ((a, tt), (tt, tt))
sorted_push (x ∷ y ∷ ks) k s a =
    let rest : IsStrictlySortedBy key_cmp ((y ∷ ks) ++ k ∷ []) = sorted_push (y ∷ ks) k s.1 a in
    (all_push (λ z. key_cmp x z ≡ Less) (y ∷ ks) k s.0 (below_trans x y k s.0.0 (all_last (λ z. key_cmp y z ≡ Less) ks k rest.0)), rest)

lists_nothing : (m : Objects) → Lists m []
unfolding IsStrictlySortedBy
lists_nothing m = record { ascends = tt; each = λ q c. absurd (omega (arith, c.1)); up_to = λ q h. inr tt }

pub lists_none : (m : Objects) (ks : List (Vec ℕ Global)) → ks ≡ [] → Lists m (bytes_of ks)
lists_none m ks e = subst (λ ks. Lists m (bytes_of ks)) (sym e) (lists_nothing m)

pub lists_all : (m : Objects) (ks : List (List ℕ)) → Lists m ks → IsNext (last_of ks) m None → ListsAll m ks
lists_all m ks l none = record {
  ascends = l.ascends;
  each = l.each;
  all = λ q h. elim (l.up_to q h) [ inl c ↦ c | inr a ↦ absurd (not_none (fin.get m q) (none q a) h) ];
}

pub lists_more : (m : Objects) (ks : List (List ℕ)) (k : List ℕ) → Lists m ks → IsNext (last_of ks) m (Some k) → Lists m (ks ++ k ∷ [])
lists_more m ks k l next = record {
  ascends = sorted_push ks k l.ascends next.0;
  each = λ q c. elim (Contains-append_cases ks (k ∷ []) q c) [ inl a ↦ l.each q a | inr b ↦ subst (λ q. IsSome (fin.get m q)) (sym (the_one k q b)) next.1 ];
  up_to = λ q h. elim (l.up_to q h) [ inl c ↦ inl (Contains-append_left ks (k ∷ []) q c) | inr a ↦ by q h a (key_cmp q k) refl ];
}
  where
    by : (q : List ℕ) → IsSome (fin.get m q) → IsAfter (last_of ks) q → (o : Ordering) → key_cmp q k ≡ o → Contains (ks ++ k ∷ []) q ⊎ IsAfter (last_of (ks ++ k ∷ [])) q
    by q h a Less e = absurd (not_none (fin.get m q) (next.2 q a e) h)
    by q h a Equal e = inl (Contains-append_right ks (k ∷ []) q (one k q (exact_bytes q k e)))
    by q h a Greater e = inr (subst (λ o. IsAfter o q) (sym (last_more ks k)) (nat_list_cmp_total.antisymm k q ∙ ap ordering_reverse e))

bytes_push : (ks : List (Vec ℕ Global)) (k : Vec ℕ Global) → bytes_of (ks ++ k ∷ []) ≡ bytes_of ks ++ k.items ∷ []
bytes_push [] k = refl
bytes_push (j ∷ ks) k = ap (λ l. j.items ∷ l) (bytes_push ks k)

pub pushed_bytes : (ks new : List (Vec ℕ Global)) (k : Vec ℕ Global) → new ≡ ks ++ k ∷ [] → bytes_of new ≡ bytes_of ks ++ k.items ∷ []
pushed_bytes ks new k e = ap bytes_of e ∙ bytes_push ks k

last_get : (ks : List (Vec ℕ Global)) (i : ℕ) (k : Vec ℕ Global) → i + 1 ≡ length ks → Some k ≡ slice_get ks i → Some k.items ≡ last_of (bytes_of ks)
last_get [] i k n e = absurd (omega arith)
last_get (x ∷ []) zero k n e = let f : k ≡ x = cc in ap (λ v. Some v.items) f
last_get (x ∷ []) (suc i) k n e = absurd (omega arith)
last_get (x ∷ y ∷ ks) zero k n e = absurd (omega arith)
last_get (x ∷ y ∷ ks) (suc i) k n e = last_get (y ∷ ks) i k (omega arith) e

pub last_is : (ks xs : List (Vec ℕ Global)) (k : Vec ℕ Global) (b : List ℕ) → ks ≡ xs → Some k ≡ slice_get ks (length ks - 1) → b ≡ k.items → Some b ≡ last_of (bytes_of xs)
last_is ks xs k b e h f = ap Some f ∙ by ks h ∙ ap (λ l. last_of (bytes_of l)) e
  where
    by : (ks : List (Vec ℕ Global)) → Some k ≡ slice_get ks (length ks - 1) → Some k.items ≡ last_of (bytes_of ks)
    by [] h = cc
    by (x ∷ ks) h = last_get (x ∷ ks) (length (x ∷ ks) - 1) k (omega arith) h

pub length_bytes : (ks : List (Vec ℕ Global)) → length (bytes_of ks) ≡ length ks
length_bytes [] = refl
length_bytes (k ∷ ks) = ap suc (length_bytes ks)

pub lists_many : (m : Objects) (ks : List (Vec ℕ Global)) (n : ℕ) → Lists m (bytes_of ks) → length ks ≡ n → HasMany m n
lists_many m ks n l e = (bytes_of ks, l, length_bytes ks ∙ e)

-- the keys in front of one are below it
module _ (P : List ℕ → Type 0) where
  all_here : (xs : List (List ℕ)) (i : ℕ) (d : List ℕ) → i < length xs → AllByRecursion P xs → P (get_or xs i d)
  all_here [] i d less all = absurd (omega arith)
  all_here (x ∷ xs) zero d less all = all.0
  all_here (x ∷ xs) (suc i) d less all = all_here xs i d (omega arith) all.1

sorted_below : (ks : List (List ℕ)) (j i : ℕ) (d e : List ℕ) → j < i → i < length ks → IsStrictlySortedBy key_cmp ks → key_cmp (get_or ks j d) (get_or ks i e) ≡ Less
unfolding IsStrictlySortedBy
sorted_below [] j i d e less below s = absurd (omega arith)
sorted_below (k ∷ ks) j zero d e less below s = absurd (omega arith)
sorted_below (k ∷ ks) zero (suc i) d e less below s = all_here (λ q. key_cmp k q ≡ Less) ks i e (omega arith) s.0
sorted_below (k ∷ ks) (suc j) (suc i) d e less below s = sorted_below ks j i d e (omega arith) (omega arith) s.1

get_taken : (ks : List (List ℕ)) (n j : ℕ) (d : List ℕ) → j < length (take n ks) → get_or (take n ks) j d ≡ get_or ks j d
get_taken [] zero j d less = refl
get_taken [] (suc n) j d less = refl
get_taken (k ∷ ks) zero j d less = absurd (omega arith)
get_taken (k ∷ ks) (suc n) zero d less = refl
get_taken (k ∷ ks) (suc n) (suc j) d less = get_taken ks n j d (omega arith)

taken_less : (ks : List (List ℕ)) (n j : ℕ) → j < length (take n ks) → j < n
taken_less [] zero j less = absurd (omega arith)
taken_less [] (suc n) j less = absurd (omega arith)
taken_less (k ∷ ks) zero j less = absurd (omega arith)
taken_less (k ∷ ks) (suc n) zero less = omega arith
taken_less (k ∷ ks) (suc n) (suc j) less = let h : j < n = taken_less ks n j (omega arith) in omega (arith, h)

pub taken_below : (ks : List (List ℕ)) (i : ℕ) (e q : List ℕ) → i < length ks → IsStrictlySortedBy key_cmp ks → Contains (take i ks) q → key_cmp q (get_or ks i e) ≡ Less
taken_below ks i e q below s c =
    subst (λ p. key_cmp p (get_or ks i e) ≡ Less) (sym (get_taken ks i c.0 q c.1) ∙ c.2) (sorted_below ks c.0 i q e (taken_less ks i c.0 c.1) below s)

pub take_more : (ks : List (List ℕ)) (i : ℕ) (d : List ℕ) → i < length ks → take (suc i) ks ≡ take i ks ++ get_or ks i d ∷ []
take_more [] i d less = absurd (omega arith)
take_more (k ∷ ks) zero d less = refl
take_more (k ∷ ks) (suc i) d less = ap (λ l. k ∷ l) (take_more ks i d (omega arith))

pub take_all : (ks : List (List ℕ)) → take (length ks) ks ≡ ks
take_all [] = refl
take_all (k ∷ ks) = ap (λ l. k ∷ l) (take_all ks)

-- the bytes of the key at a place
pub key_at : (ks : List (Vec ℕ Global)) (i : ℕ) (k l : Vec ℕ Global) → i < length ks → k ≡ get_or ks i l → (d : List ℕ) → k.items ≡ get_or (bytes_of ks) i d
key_at [] i k l below e d = absurd (omega arith)
key_at (x ∷ ks) zero k l below e d = ap (λ v. v.items) e
key_at (x ∷ ks) (suc i) k l below e d = key_at ks i k l (omega arith) e d
