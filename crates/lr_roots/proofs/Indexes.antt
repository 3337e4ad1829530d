-- The index of a view, and what its orders tell.
use Rattle.std.proofs.Common.{◌≡◌, ◌≢◌, ◌<◌, ◌≤◌, ℕ, arith, Bool, true, false, List, [], Option, Some, None, IsTrue, is_some, nat_eq, refl, sym, ap, subst, ◌∙◌, inl, inr}
use mathlib.Core.Logic.{◌⊎◌}
use Rattle.std.specs.declared.cmp.Ordering.{Ordering}
use Rattle.std.specs.declared.cmp.Ordering.TheVariants.{Less, Equal, Greater}
use Rattle.std.specs.Option.{option_cmp}
use Rattle.std.specs.Ordering.{is_eq, is_lt, is_gt, nat_cmp, ordering_then, ordering_reverse, eq_by_cmp}
use Rattle.std.specs.Cmp.{nat_cmp_is}
use Rattle.std.specs.Cmp.Lexicographic.{nat_list_cmp_total, bytes_decides, pointwise}
use Rattle.std.proofs.lemmas.Cmp.{eq_by_cmp_equiv}
use Rattle.std.proofs.lemmas.Map.Lookups.{exact_unsigned, exact_bytes}
use Rattle.std.proofs.lemmas.Bool.{cases_Bool, cond-true, cond-false, false≢true}
use Rattle.std.specs.BTreeSet.{BTreeSet, contains, Updates}
use Rattle.std.specs.FinMap as fin
use Rattle.std.specs.FinMap.{get-empty}
use Rattle.lr_origin.specs.Kind.{kind_cmp}
use Rattle.lr_origin.specs.Objects.{key_cmp}
use Rattle.lr_origin.specs.declared.key.KeyKind.{KeyKind}
use Rattle.lr_origin.specs.declared.key.KeyKind.TheVariants.{Root, Expired, Deleted, Chunk, Manifest, Withdrawn}
use Rattle.lr_roots.specs.declared.index.Naming.{Naming}
use Rattle.lr_roots.specs.View.{View, Held}
use Rattle.lr_roots.specs.declared.index.Index.{Index}
use Rattle.lr_roots.specs.Index.{naming_cmp, key_naming, naming_key, AreKeys, IsIndex, IsLastBelow, IsFirstFrom, IsNamedIn}
use Rattle.lr_roots.proofs.Trees.{is_eq-Equal}
use Rattle.lr_roots.proofs.Aside.{get_inserted, get_beside, get_removed, get_kept}

-- A set of keys through the changes of one key.
module _ {A : Type 0} (cmp : A → A → Ordering) (key : A → KeyKind) where
  -- equal ones are the same, and different ones have different keys
  pub record IsExact : Type 0 where
    pub same : (a b : A) → is_eq (cmp a b) ≡ true → a ≡ b
    pub itself : (a : A) → is_eq (cmp a a) ≡ true
    pub one : (a b : A) → key a ≡ key b → a ≡ b

  apart : IsExact → (a q : A) → is_eq (cmp a q) ≡ false → key q ≢ key a
  apart exact a q n e = false≢true (sym n ∙ subst (λ x. is_eq (cmp a x) ≡ true) (sym (exact.one q a e)) (exact.itself a))

  pub entered : IsExact → (v : View) (s t : BTreeSet A) (a : A) (held : Held) → Updates cmp s t a true → AreKeys cmp key v s → AreKeys cmp key (fin.insert v (key a) held) t
  entered exact v s t a held u h q = by (cases_Bool (is_eq (cmp a q)))
    where
      by : (is_eq (cmp a q) ≡ true) ⊎ (is_eq (cmp a q) ≡ false) → contains cmp t q ≡ is_some (fin.get (fin.insert v (key a) held) (key q))
      by (inl y) = u.0 q ∙ cond-true _ true _ y ∙ subst (λ x. true ≡ is_some (fin.get (fin.insert v (key a) held) (key x))) (exact.same a q y) (sym (ap is_some (get_inserted v (key a) held)))
      by (inr n) = u.0 q ∙ cond-false _ true _ n ∙ h q ∙ ap is_some (sym (get_beside v (key a) (key q) held (apart exact a q n)))

  pub gone : IsExact → (v : View) (s t : BTreeSet A) (a : A) → Updates cmp s t a false → AreKeys cmp key v s → AreKeys cmp key (fin.remove v (key a)) t
  gone exact v s t a u h q = by (cases_Bool (is_eq (cmp a q)))
    where
      by : (is_eq (cmp a q) ≡ true) ⊎ (is_eq (cmp a q) ≡ false) → contains cmp t q ≡ is_some (fin.get (fin.remove v (key a)) (key q))
      by (inl y) = u.0 q ∙ cond-true _ false _ y ∙ subst (λ x. false ≡ is_some (fin.get (fin.remove v (key a)) (key x))) (exact.same a q y) (sym (ap is_some (get_removed v (key a))))
      by (inr n) = u.0 q ∙ cond-false _ false _ n ∙ h q ∙ ap is_some (sym (get_kept v (key a) (key q) (apart exact a q n)))

  -- another key comes or goes
  pub entered_beside : (v : View) (s : BTreeSet A) (k : KeyKind) (held : Held) → ((a : A) → key a ≢ k) → AreKeys cmp key v s → AreKeys cmp key (fin.insert v k held) s
  entered_beside v s k held other h q = h q ∙ ap is_some (sym (get_beside v k (key q) held (other q)))

  pub gone_beside : (v : View) (s : BTreeSet A) (k : KeyKind) → ((a : A) → key a ≢ k) → AreKeys cmp key v s → AreKeys cmp key (fin.remove v k) s
  gone_beside v s k other h q = h q ∙ ap is_some (sym (get_kept v k (key q) (other q)))

  pub empty_keys : (s : BTreeSet A) → ((q : A) → contains cmp s q ≡ false) → AreKeys cmp key fin.empty s
  empty_keys s none q = none q ∙ ap is_some (sym (get-empty kind_cmp (key q)))

-- what tells the keys apart
abbrev number_in : KeyKind → ℕ
number_in (Root r) = r
number_in (Manifest r image) = r
number_in key = 0

abbrev image_in : KeyKind → List ℕ
image_in (Manifest r image) = image
image_in (Withdrawn image) = image
image_in key = []

pub roots_exact : IsExact nat_cmp Root
roots_exact = record {
  same = λ a b e. exact_unsigned a b (is_eq-Equal _ e);
  itself = λ a. grind arith;
  one = λ a b e. ap number_in e;
}

then_equal : (x y : Ordering) → ordering_then x y ≡ Equal → (x ≡ Equal) × (y ≡ Equal)
then_equal Less y e = cc
then_equal Equal y e = (refl, e)
then_equal Greater y e = cc

same_roots : (p q : Option ℕ) → option_cmp nat_cmp p q ≡ Equal → p ≡ q
same_roots None None e = refl
same_roots None (Some y) e = cc
same_roots (Some x) None e = cc
same_roots (Some x) (Some y) e = ap Some (exact_unsigned x y e)

one_naming : (i j : List ℕ) (p q : Option ℕ) → key_naming i p ≡ key_naming j q → (i ≡ j) × (p ≡ q)
one_naming i j None None e = (ap image_in e, refl)
one_naming i j None (Some y) e = cc
one_naming i j (Some x) None e = cc
one_naming i j (Some x) (Some y) e = (ap image_in e, ap (λ k. Some (number_in k)) e)

pub same_image : (i : List ℕ) → key_cmp i i ≡ Equal
same_image i = is_eq-Equal _ ((eq_by_cmp_equiv nat_list_cmp_total).refl i)

same_number : (p : Option ℕ) → is_eq (option_cmp nat_cmp p p) ≡ true
same_number None = refl
same_number (Some x) = grind arith

pub namings_exact : IsExact naming_cmp naming_key
namings_exact = record {
  same = λ a b e. let h = then_equal (key_cmp a.image b.image) (option_cmp nat_cmp a.root b.root) (is_eq-Equal _ e) in λ i. record { image = exact_bytes a.image b.image h.0 i; root = same_roots a.root b.root h.1 i };
  itself = λ a. ap (λ o. is_eq (ordering_then o (option_cmp nat_cmp a.root a.root))) (same_image a.image) ∙ same_number a.root;
  one = λ a b e. let h = one_naming a.image b.image a.root b.root e in λ i. record { image = h.0 i; root = h.1 i };
}

-- neither a root nor a key that names an image
pub record IsOther (k : KeyKind) : Type 0 where
  pub no_root : (r : ℕ) → Root r ≢ k
  pub no_naming : (n : Naming) → naming_key n ≢ k

no_key : (k : KeyKind) → ((i : List ℕ) (p : Option ℕ) → key_naming i p ≢ k) → (n : Naming) → naming_key n ≢ k
no_key k other n = other n.image n.root

not_root : (r : ℕ) (i : List ℕ) (p : Option ℕ) → key_naming i p ≢ Root r
not_root r i None e = cc
not_root r i (Some q) e = cc

pub naming_not_root : (r : ℕ) (n : Naming) → naming_key n ≢ Root r
naming_not_root r = no_key (Root r) (not_root r)

root_not : (i : List ℕ) (p : Option ℕ) (r : ℕ) → Root r ≢ key_naming i p
root_not i None r e = cc
root_not i (Some q) r e = cc

pub root_not_naming : (n : Naming) (r : ℕ) → Root r ≢ naming_key n
root_not_naming n = root_not n.image n.root

not_expired : (r : ℕ) (i : List ℕ) (p : Option ℕ) → key_naming i p ≢ Expired r
not_expired r i None e = cc
not_expired r i (Some q) e = cc

not_deleted : (r : ℕ) (i : List ℕ) (p : Option ℕ) → key_naming i p ≢ Deleted r
not_deleted r i None e = cc
not_deleted r i (Some q) e = cc

not_chunk : (r : ℕ) (h : List ℕ) (i : List ℕ) (p : Option ℕ) → key_naming i p ≢ Chunk r h
not_chunk r h i None e = cc
not_chunk r h i (Some q) e = cc

pub other_expired : (r : ℕ) → IsOther (Expired r)
other_expired r = record { no_root = λ q e. cc; no_naming = no_key (Expired r) (not_expired r) }

pub other_deleted : (r : ℕ) → IsOther (Deleted r)
other_deleted r = record { no_root = λ q e. cc; no_naming = no_key (Deleted r) (not_deleted r) }

pub other_chunk : (r : ℕ) (h : List ℕ) → IsOther (Chunk r h)
other_chunk r h = record { no_root = λ q e. cc; no_naming = no_key (Chunk r h) (not_chunk r h) }

pub enters_other : (v : View) (index : Index) (k : KeyKind) (held : Held) → IsOther k → IsIndex v index → IsIndex (fin.insert v k held) index
enters_other v index k held other h = record {
  roots = entered_beside nat_cmp Root v index.roots k held other.no_root h.roots;
  namings = entered_beside naming_cmp naming_key v index.namings k held other.no_naming h.namings;
}

pub leaves_other : (v : View) (index : Index) (k : KeyKind) → IsOther k → IsIndex v index → IsIndex (fin.remove v k) index
leaves_other v index k other h = record {
  roots = gone_beside nat_cmp Root v index.roots k other.no_root h.roots;
  namings = gone_beside naming_cmp naming_key v index.namings k other.no_naming h.namings;
}

of_less : (a b : ℕ) → a < b → nat_cmp a b ≡ Less
of_less a b h = sym (nat_cmp_is a b Less h)

less_of : (a b : ℕ) → nat_cmp a b ≡ Less → a < b
less_of a b h = grind (arith, h)

le_of : (a b : ℕ) → is_gt (nat_cmp a b) ≡ false → a ≤ b
le_of a b h = grind (arith, h)

not_gt : (a b : ℕ) → a ≤ b → is_gt (nat_cmp a b) ≡ false
not_gt a b h = grind (arith, h)

gt_of : (a b : ℕ) → b < a → is_gt (nat_cmp a b) ≡ true
gt_of a b h = grind (arith, h)

-- what a test of two names tells
pub named_same : (x y : List ℕ) (b : Bool) → b ≡ pointwise nat_eq x y → b ≡ true → x ≡ y
named_same x y b is t = (bytes_decides x y).0 (sym is ∙ t)

pub named_other : (x y : List ℕ) (b : Bool) → b ≡ pointwise nat_eq x y → b ≡ false → x ≢ y
named_other x y b is f e = false≢true (sym f ∙ is ∙ (bytes_decides x y).1 e)

-- the last root of a range of roots
module _ (s : BTreeSet ℕ) (bound : ℕ) where
  pub last_root : (r : ℕ) → nat_cmp r bound ≡ Less → IsTrue (contains nat_cmp s r) → ((q : ℕ) → nat_cmp q bound ≡ Less → IsTrue (contains nat_cmp s q) → is_lt (nat_cmp r q) ≡ false) → IsLastBelow (λ q. IsTrue (contains nat_cmp s q)) bound (Some r)
  last_root r less here great = (less_of r bound less, here, λ q above below there. false≢true (sym (great q (of_less q bound below) there) ∙ ap is_lt (of_less r q above)))

  pub no_root : ((q : ℕ) → nat_cmp q bound ≡ Less → contains nat_cmp s q ≡ false) → IsLastBelow (λ q. IsTrue (contains nat_cmp s q)) bound None
  no_root none q below there = false≢true (sym (none q (of_less q bound below)) ∙ there)

-- the manifests of an image at an end of a range of namings
module _ (s : BTreeSet Naming) (image : List ℕ) (bound : ℕ) where
  abbrev at : Option ℕ → Naming
  at p = record { image = image; root = p }

  own : (p q : Option ℕ) → naming_cmp (at p) (at q) ≡ option_cmp nat_cmp p q
  own p q = ap (λ o. ordering_then o (option_cmp nat_cmp p q)) (same_image image)

  abbrev pub IsBefore : Naming → Type 0
  IsBefore q = naming_cmp q (record { image = image; root = Some bound }) ≡ Less

  abbrev pub IsFrom : Naming → Type 0
  IsFrom q = is_gt (naming_cmp (record { image = image; root = Some bound }) q) ≡ false

  abbrev AreUpTo : Naming → Type 0
  AreUpTo last = (q : Naming) → IsBefore q → IsTrue (contains naming_cmp s q) → is_lt (naming_cmp last q) ≡ false

  abbrev AreFrom : Naming → Type 0
  AreFrom first = (q : Naming) → IsFrom q → IsTrue (contains naming_cmp s q) → is_gt (naming_cmp first q) ≡ false

  before : (q : ℕ) → q < bound → IsBefore (at (Some q))
  before q below = own (Some q) (Some bound) ∙ of_less q bound below

  from : (q : ℕ) → bound ≤ q → IsFrom (at (Some q))
  from q le = ap is_gt (own (Some bound) (Some q)) ∙ not_gt bound q le

  last_own : (p : Option ℕ) → IsBefore (at p) → IsTrue (contains naming_cmp s (at p)) → AreUpTo (at p) → IsLastBelow (IsNamedIn s image) bound p
  last_own None less here great = λ q below named. false≢true (sym (great (at (Some q)) (before q below) named) ∙ ap is_lt (own None (Some q)))
  last_own (Some r) less here great = (
    less_of r bound (sym (own (Some r) (Some bound)) ∙ less),
    here,
    λ q above below named. false≢true (sym (great (at (Some q)) (before q below) named) ∙ ap is_lt (own (Some r) (Some q) ∙ of_less r q above)),
  )

  pub last_same : (last : Naming) → last.image ≡ image → IsBefore last → IsTrue (contains naming_cmp s last) → AreUpTo last → IsLastBelow (IsNamedIn s image) bound last.root
  last_same last e = subst Q (sym e) (last_own last.root)
    where
      Q : List ℕ → Type 0
      Q i =
          IsBefore (record { image = i; root = last.root }) → IsTrue (contains naming_cmp s (record { image = i; root = last.root }))
          → AreUpTo (record { image = i; root = last.root }) → IsLastBelow (IsNamedIn s image) bound last.root

  pub last_other : (last : Naming) → last.image ≢ image → IsBefore last → AreUpTo last → IsLastBelow (IsNamedIn s image) bound None
  last_other last other less great q below named = false≢true (sym (great (at (Some q)) (before q below) named) ∙ ap is_lt (earlier (key_cmp last.image image) refl))
    where
      earlier : (o : Ordering) → key_cmp last.image image ≡ o → naming_cmp last (at (Some q)) ≡ Less
      earlier Less e = ap (λ o. ordering_then o (option_cmp nat_cmp last.root (Some q))) e
      earlier Equal e = absurd (other (exact_bytes last.image image e))
      earlier Greater e = let h : Greater ≡ Less = sym (ap (λ o. ordering_then o (option_cmp nat_cmp last.root (Some bound))) e) ∙ less in cc

  pub last_none : ((q : Naming) → IsBefore q → contains naming_cmp s q ≡ false) → IsLastBelow (IsNamedIn s image) bound None
  last_none none q below named = false≢true (sym (none (at (Some q)) (before q below)) ∙ named)

  first_own : (p : Option ℕ) → IsFrom (at p) → IsTrue (contains naming_cmp s (at p)) → AreFrom (at p) → IsFirstFrom (IsNamedIn s image) bound p
  first_own None after here least = absurd (false≢true (sym after ∙ ap is_gt (own (Some bound) None)))
  first_own (Some r) after here least = (
    le_of bound r (sym (ap is_gt (own (Some bound) (Some r))) ∙ after),
    here,
    λ q le below named. false≢true (sym (least (at (Some q)) (from q le) named) ∙ ap is_gt (own (Some r) (Some q)) ∙ gt_of r q below),
  )

  pub first_same : (first : Naming) → first.image ≡ image → IsFrom first → IsTrue (contains naming_cmp s first) → AreFrom first → IsFirstFrom (IsNamedIn s image) bound first.root
  first_same first e = subst Q (sym e) (first_own first.root)
    where
      Q : List ℕ → Type 0
      Q i =
          IsFrom (record { image = i; root = first.root }) → IsTrue (contains naming_cmp s (record { image = i; root = first.root }))
          → AreFrom (record { image = i; root = first.root }) → IsFirstFrom (IsNamedIn s image) bound first.root

  pub first_other : (first : Naming) → first.image ≢ image → IsFrom first → AreFrom first → IsFirstFrom (IsNamedIn s image) bound None
  first_other first other after least q le named = false≢true (sym (least (at (Some q)) (from q le) named) ∙ later (key_cmp image first.image) refl)
    where
      later : (o : Ordering) → key_cmp image first.image ≡ o → is_gt (naming_cmp first (at (Some q))) ≡ true
      later Less e = ap (λ o. is_gt (ordering_then o (option_cmp nat_cmp first.root (Some q)))) (nat_list_cmp_total.antisymm first.image image ∙ ap ordering_reverse e)
      later Equal e = absurd (other (sym (exact_bytes image first.image e)))
      later Greater e = let h : true ≡ false = sym (ap (λ o. is_gt (ordering_then o (option_cmp nat_cmp (Some bound) first.root))) e) ∙ after in cc

  pub first_none : ((q : Naming) → IsFrom q → contains naming_cmp s q ≡ false) → IsFirstFrom (IsNamedIn s image) bound None
  first_none none q le named = false≢true (sym (none (at (Some q)) (from q le)) ∙ named)

-- the same by another property
pub last_by : (P Q : ℕ → Type 0) (bound : ℕ) (o : Option ℕ) → ((q : ℕ) → P q → Q q) → ((q : ℕ) → Q q → P q) → IsLastBelow P bound o → IsLastBelow Q bound o
last_by P Q bound None into back h = λ q below there. h q below (back q there)
last_by P Q bound (Some r) into back h = (h.0, into r h.1, λ q above below there. h.2 q above below (back q there))

pub first_by : (P Q : ℕ → Type 0) (bound : ℕ) (o : Option ℕ) → ((q : ℕ) → P q → Q q) → ((q : ℕ) → Q q → P q) → IsFirstFrom P bound o → IsFirstFrom Q bound o
first_by P Q bound None into back h = λ q le there. h q le (back q there)
first_by P Q bound (Some r) into back h = (h.0, into r h.1, λ q le below there. h.2 q le below (back q there))
