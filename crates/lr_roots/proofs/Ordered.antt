-- Walks over keys in order.
use Rattle.std.proofs.Common.{◌≡◌, ◌<◌, ◌≤◌, ◌+◌, ◌||◌, ℕ, suc, arith, true, false, List, [], ◌∷◌, length, Option, Some, None, IsSome, IfSome, refl, sym, ap, subst, ◌∙◌, inl, inr}
use mathlib.Core.Logic.{◌⊎◌}
use Rattle.std.specs.declared.cmp.Ordering.{Ordering}
use Rattle.std.specs.declared.cmp.Ordering.TheVariants.{Less, Equal, Greater}
use Rattle.std.specs.List.{AllByRecursion}
use Rattle.std.specs.List.Sorted.{IsStrictlySortedBy}
use Rattle.std.proofs.lemmas.Map.Keys.{sorted_head, sorted_tail}
use Rattle.std.specs.FinMap as fin
use Rattle.lr_manifest.specs.Manifest.{ManifestFields}
use Rattle.lr_origin.specs.Kind.{kind_cmp, kind_total}
use Rattle.lr_origin.specs.declared.key.KeyKind.{KeyKind}
use Rattle.lr_origin.specs.Objects.{key_cmp, IsAfter}
use Rattle.std.specs.Ordering.{is_eq, ordering_reverse, eq_by_cmp}
use Rattle.std.specs.List.{list_any}
use Rattle.std.specs.Cmp.Lexicographic.{nat_list_cmp_total}
use Rattle.std.proofs.lemmas.Bool.{cases_Bool, false≢true}
use Rattle.std.specs.FinMap.{contains_key-keys}
use Rattle.lr_origin.specs.declared.key.KeyKind.TheVariants.{Root, Expired, Deleted, Chunk, Manifest, Withdrawn}
use Rattle.lr_roots.specs.View.{View, Has}
use Rattle.lr_roots.specs.Catalog.{without}
use Rattle.lr_roots.proofs.Trees.{same_key}
use Rattle.lr_roots.proofs.Aside.{itself, has_all}
use Rattle.lr_roots.specs.Names.{IsOneOf, AreMany, IsFirst, Names, IsNamed, IsNextImage, IsManifestAt, number_of}
use Rattle.lr_roots.specs.Walks.{IsNearer, IsNearest}

-- the keys that pass are among the rest, which is in order
abbrev pub AreLeft : (KeyKind → Type 0) → List KeyKind → Type 0
AreLeft P rest = ((q : KeyKind) → P q → IsOneOf rest q) × IsStrictlySortedBy kind_cmp rest

-- with those of the rest that pass, there are as many as were counted and these
abbrev pub AreCounted : (KeyKind → Type 0) → ℕ → List KeyKind → Type 0
AreCounted P count rest = (m : ℕ) → AreMany (λ q. IsOneOf rest q × P q) m → AreMany P (count + m)

-- a key of the rest that is in the view names the image
abbrev pub IsNamedLater : View → List KeyKind → List ℕ → Type 0
IsNamedLater v rest image = (key : KeyKind) × IsOneOf rest key × Has v key × Names key image

-- a nearer name is named by the rest
abbrev pub AreNearerLeft : View → Option (List ℕ) → Option (List ℕ) → List KeyKind → Type 0
AreNearerLeft v after best rest = (q : List ℕ) → IsNearer after best q → IsNamed v q → IsNamedLater v rest q

-- a manifest with a greater number is among the rest
abbrev pub AreGreaterLeft : View → ℕ → List KeyKind → Type 0
AreGreaterLeft v n rest = (key : KeyKind) (m : ManifestFields) → IsManifestAt v key m → (number_of m ≤ n) ⊎ IsOneOf rest key

one_of : (ks : List KeyKind) (q : KeyKind) → list_any (eq_by_cmp kind_cmp q) ks ≡ true → IsOneOf ks q
one_of [] q e = cc
one_of (k ∷ ks) q e = by (one_of ks q) (cases_Bool (eq_by_cmp kind_cmp q k))
  where
    by : (list_any (eq_by_cmp kind_cmp q) ks ≡ true → IsOneOf ks q) → (eq_by_cmp kind_cmp q k ≡ true) ⊎ (eq_by_cmp kind_cmp q k ≡ false) → IsOneOf (k ∷ ks) q
    by later (inl y) = inl (same_key q k y)
    by later (inr n) = inr (later (ap (λ b. b || list_any (eq_by_cmp kind_cmp q) ks) (sym n) ∙ e))

-- each key of the view is one of the keys
pub listed : (aside : Option KeyKind) (all v : View) (ks : List KeyKind) → without aside all ≡ v → ks ≡ fin.keys all → (q : KeyKind) → Has v q → IsOneOf ks q
listed aside all v ks view list q has =
    let here : Has all q = has_all aside all q (subst (λ w. Has w q) (sym view) has) in
    subst (λ l. IsOneOf l q) (sym list) (one_of (fin.keys all) q (sym (contains_key-keys all q) ∙ here))

not_below : (q : KeyKind) → kind_cmp q q ≡ Less → ⊥
not_below q less = false≢true (sym (ap is_eq less) ∙ itself q)

below_each : (k : KeyKind) (ks : List KeyKind) → AllByRecursion (λ y. kind_cmp k y ≡ Less) ks → (q : KeyKind) → IsOneOf ks q → kind_cmp k q ≡ Less
below_each k [] h q i = absurd i
below_each k (x ∷ ks) h q (inl e) = ap (kind_cmp k) e ∙ h.0
below_each k (x ∷ ks) h q (inr i) = below_each k ks h.1 q i

-- the first of the rest doesn't stand there again
once : (k : KeyKind) (ks : List KeyKind) → IsStrictlySortedBy kind_cmp (k ∷ ks) → IsOneOf ks k → ⊥
once k ks s i = not_below k (below_each k ks (sorted_head kind_cmp k ks s) k i)

module _ (P : KeyKind → Type 0) (all rest : List KeyKind) (k : KeyKind) (split : all ≡ k ∷ rest) where
  pub left_step : AreLeft P all → (P k → ⊥) → AreLeft P rest
  left_step left not =
      let h : AreLeft P (k ∷ rest) = subst (AreLeft P) split left in
      (λ q p. other q p (h.0 q p), sorted_tail kind_cmp k rest h.1)
    where
      other : (q : KeyKind) → P q → IsOneOf (k ∷ rest) q → IsOneOf rest q
      other q p (inl e) = absurd (not (subst P e p))
      other q p (inr i) = i

  pub left_found : AreLeft P all → P k → IsFirst P (Some k)
  left_found left p =
      let h : AreLeft P (k ∷ rest) = subst (AreLeft P) split left in
      (p, λ q less pq. other q less (sorted_head kind_cmp k rest h.1) (h.0 q pq))
    where
      other : (q : KeyKind) → kind_cmp q k ≡ Less → AllByRecursion (λ y. kind_cmp k y ≡ Less) rest → IsOneOf (k ∷ rest) q → ⊥
      other q less above (inl e) = not_below k (subst (λ x. kind_cmp x k ≡ Less) e less)
      other q less above (inr i) = not_below q (kind_total.trans q k q less (below_each k rest above q i))

  pub count_in : IsStrictlySortedBy kind_cmp all → (n : ℕ) → P k → AreCounted P n all → AreCounted P (n + 1) rest
  count_in sorted n p counted m many =
      let more : AreMany (λ q. IsOneOf (k ∷ rest) q × P q) (m + 1) = record {
        each = k ∷ many.each;
        just = λ x. (into x, back x);
        apart = (λ i. once k rest (subst (IsStrictlySortedBy kind_cmp) split sorted) ((many.just k).0 i).0, many.apart);
        long = omega (arith, many.long);
      } in
      subst (AreMany P) (omega arith) (counted (m + 1) (subst (λ l. AreMany (λ q. IsOneOf l q × P q) (m + 1)) (sym split) more))
    where
      into : (x : KeyKind) → IsOneOf (k ∷ many.each) x → IsOneOf (k ∷ rest) x × P x
      into x (inl e) = (inl e, subst P (sym e) p)
      into x (inr i) = (inr ((many.just x).0 i).0, ((many.just x).0 i).1)

      back : (x : KeyKind) → IsOneOf (k ∷ rest) x × P x → IsOneOf (k ∷ many.each) x
      back x (inl e, q) = inl e
      back x (inr i, q) = inr ((many.just x).1 (i, q))

  pub count_out : (n : ℕ) → (P k → ⊥) → AreCounted P n all → AreCounted P n rest
  count_out n not counted m many =
      let same : AreMany (λ q. IsOneOf (k ∷ rest) q × P q) m = record {
        each = many.each;
        just = λ x. (λ i. (inr ((many.just x).0 i).0, ((many.just x).0 i).1), back x);
        apart = many.apart;
        long = many.long;
      } in
      counted m (subst (λ l. AreMany (λ q. IsOneOf l q × P q) m) (sym split) same)
    where
      back : (x : KeyKind) → IsOneOf (k ∷ rest) x × P x → IsOneOf many.each x
      back x (inl e, q) = absurd (not (subst P e q))
      back x (inr i, q) = (many.just x).1 (i, q)

pub left_none : (P : KeyKind → Type 0) (rest : List KeyKind) → rest ≡ [] → AreLeft P rest → IsFirst P None
left_none P rest e left q p = subst (λ l. IsOneOf l q) e (left.0 q p)

pub count_start : (P : KeyKind → Type 0) (ks : List KeyKind) → ((q : KeyKind) → P q → IsOneOf ks q) → AreCounted P 0 ks
count_start P ks within m many = record {
  each = many.each;
  just = λ x. (λ i. ((many.just x).0 i).1, λ p. (many.just x).1 (within x p, p));
  apart = many.apart;
  long = omega (arith, many.long);
}

pub count_end : (P : KeyKind → Type 0) (rest : List KeyKind) (n : ℕ) → rest ≡ [] → AreCounted P n rest → AreMany P n
count_end P rest n e counted =
    let none : AreMany (λ q. IsOneOf [] q × P q) 0 = record { each = []; just = λ x. (λ i. absurd i, λ h. absurd h.0); apart = tt; long = refl } in
    subst (AreMany P) (omega arith) (counted 0 (subst (λ l. AreMany (λ q. IsOneOf l q × P q) 0) (sym e) none))

pub nearer_start : (v : View) (after : Option (List ℕ)) (ks : List KeyKind) → ((q : KeyKind) → Has v q → IsOneOf ks q) → AreNearerLeft v after None ks
nearer_start v after ks within q near named = (named.0, within named.0 named.1, named.1, named.2)

names_one : (k : KeyKind) (a b : List ℕ) → Names k a → Names k b → a ≡ b
names_one (Manifest r i) a b x y = sym x ∙ y
names_one (Withdrawn i) a b x y = sym x ∙ y
names_one (Root r) a b x y = absurd x
names_one (Expired r) a b x y = absurd x
names_one (Deleted r) a b x y = absurd x
names_one (Chunk r n) a b x y = absurd x

name_not_below : (a : List ℕ) → key_cmp a a ≡ Less → ⊥
name_not_below a less = by (key_cmp a a) less (nat_list_cmp_total.antisymm a a)
  where
    by : (o : Ordering) → o ≡ Less → o ≡ ordering_reverse o → ⊥
    by Less l e = cc
    by Equal l e = cc
    by Greater l e = cc

nearer_still : (after best : Option (List ℕ)) (image q : List ℕ) → IsNearer after best image → IsNearer after (Some image) q → IsNearer after best q
nearer_still after None image q near less = (less.0, tt)
nearer_still after (Some best) image q near less = (less.0, nat_list_cmp_total.trans q image best less.1 near.1)

module _ (v : View) (after best : Option (List ℕ)) (all rest : List KeyKind) (k : KeyKind) (split : all ≡ k ∷ rest) where
  at_split : (q : List ℕ) → IsNamedLater v all q → IsNamedLater v (k ∷ rest) q
  at_split q h = subst (λ l. IsNamedLater v l q) split h

  pub nearer_keep : ((q : List ℕ) → Has v k → Names k q → IsNearer after best q → ⊥) → AreNearerLeft v after best all → AreNearerLeft v after best rest
  nearer_keep not left q near named = by (at_split q (left q near named))
    where
      by : IsNamedLater v (k ∷ rest) q → IsNamedLater v rest q
      by (key, inl e, has, names) = absurd (not q (subst (Has v) e has) (subst (λ x. Names x q) e names) near)
      by (key, inr i, has, names) = (key, i, has, names)

  pub nearer_take : (image : List ℕ) → Names k image → IsNearer after best image → AreNearerLeft v after best all → AreNearerLeft v after (Some image) rest
  nearer_take image is near left q less named = by (at_split q (left q (nearer_still after best image q near less) named))
    where
      by : IsNamedLater v (k ∷ rest) q → IsNamedLater v rest q
      by (key, inl e, has, names) = absurd (name_not_below image (subst (λ x. key_cmp x image ≡ Less) (names_one k q image (subst (λ x. Names x q) e names) is) less.1))
      by (key, inr i, has, names) = (key, i, has, names)

pub nearer_step : (v : View) (after best next : Option (List ℕ)) (all rest : List KeyKind) (k : KeyKind) → all ≡ k ∷ rest → IsNearest v k after best next
    → AreNearerLeft v after best all × IfSome best (λ b. IsAfter after b × IsNamed v b) → AreNearerLeft v after next rest × IfSome next (λ b. IsAfter after b × IsNamed v b)
nearer_step v after best next all rest k split (inl h) left =
    subst (λ o. AreNearerLeft v after o rest × IfSome o (λ b. IsAfter after b × IsNamed v b)) (sym h.1)
    (nearer_take v after best all rest k split h.0 h.3 h.4 left.0, (h.4.0, (k, h.2, h.3)))
nearer_step v after best next all rest k split (inr h) left =
    subst (λ o. AreNearerLeft v after o rest × IfSome o (λ b. IsAfter after b × IsNamed v b)) (sym h.0) (nearer_keep v after best all rest k split h.1 left.0, left.1)

pub nearer_end : (v : View) (after best : Option (List ℕ)) (rest : List KeyKind) → rest ≡ [] → AreNearerLeft v after best rest → IfSome best (λ b. IsAfter after b × IsNamed v b) → IsNextImage after v best
nearer_end v after None rest e left found = λ q past named. (subst (λ l. IsNamedLater v l q) e (left q (past, tt) named)).1
nearer_end v after (Some b) rest e left found = (found.0, found.1, λ q past less named. (subst (λ l. IsNamedLater v l q) e (left q (past, less) named)).1)

has_manifest : (v : View) (key : KeyKind) (m : ManifestFields) → IsManifestAt v key m → Has v key
has_manifest v (Manifest r i) m e = subst IsSome (sym e) refl
has_manifest v (Withdrawn i) m e = absurd e
has_manifest v (Root r) m e = absurd e
has_manifest v (Expired r) m e = absurd e
has_manifest v (Deleted r) m e = absurd e
has_manifest v (Chunk r n) m e = absurd e

pub greater_start : (v : View) (ks : List KeyKind) → ((q : KeyKind) → Has v q → IsOneOf ks q) → AreGreaterLeft v 0 ks
greater_start v ks within key m at = inr (within key (has_manifest v key m at))

pub greater_step : (v : View) (all rest : List KeyKind) (k : KeyKind) (n next : ℕ) → all ≡ k ∷ rest → n ≤ next → ((m : ManifestFields) → IsManifestAt v k m → number_of m ≤ next) → AreGreaterLeft v n all → AreGreaterLeft v next rest
greater_step v all rest k n next split more own left key m at = by (left key m at)
  where
    here : IsOneOf (k ∷ rest) key → (number_of m ≤ next) ⊎ IsOneOf rest key
    here (inl e) = inl (own m (subst (λ x. IsManifestAt v x m) e at))
    here (inr i) = inr i

    by : (number_of m ≤ n) ⊎ IsOneOf all key → (number_of m ≤ next) ⊎ IsOneOf rest key
    by (inl le) = inl (omega (arith, le, more))
    by (inr i) = here (subst (λ l. IsOneOf l key) split i)

pub greater_end : (v : View) (rest : List KeyKind) (n : ℕ) → rest ≡ [] → AreGreaterLeft v n rest → (key : KeyKind) (m : ManifestFields) → IsManifestAt v key m → number_of m ≤ n
greater_end v rest n e left key m at = by (left key m at)
  where
    by : (number_of m ≤ n) ⊎ IsOneOf rest key → number_of m ≤ n
    by (inl le) = le
    by (inr i) = absurd (subst (λ l. IsOneOf l key) e i)

shorter_by : (all rest : List KeyKind) (k : KeyKind) → all ≡ k ∷ rest → length all ≡ length rest + 1
shorter_by all rest k e = ap length e ∙ one_more (length rest)
  where
    one_more : (n : ℕ) → suc n ≡ n + 1
    one_more n = omega arith

pub shorter : (all rest : List KeyKind) (k : KeyKind) (most n : ℕ) → all ≡ k ∷ rest → n + length all < most → n + 1 + length rest < most
shorter all rest k most n e less = let by : length all ≡ length rest + 1 = shorter_by all rest k e in omega (arith, by, less)

pub shorter_too : (all rest : List KeyKind) (k : KeyKind) (most n : ℕ) → all ≡ k ∷ rest → n + length all < most → n + length rest < most
shorter_too all rest k most n e less = let by : length all ≡ length rest + 1 = shorter_by all rest k e in omega (arith, by, less)

pub from_none : (ks js : List KeyKind) (most : ℕ) → ks ≡ js → length js < most → 0 + length ks < most
from_none ks js most e less = let same : length ks ≡ length js = ap length e in omega (arith, same, less)
