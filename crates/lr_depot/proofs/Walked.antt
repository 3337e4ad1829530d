-- A walk over the names of a view in byte order, and over sessions by their numbers.
use Rattle.std.proofs.Common.{◌≡◌, ◌<◌, ◌+◌, ℕ, suc, List, [], ◌∷◌, length, map, Option, Some, None, refl, sym, ap, subst, ◌∙◌, inl, inr, arith}
use mathlib.Core.Logic.{◌⊎◌}
use Rattle.std.specs.declared.cmp.Ordering.{Ordering}
use Rattle.std.specs.declared.cmp.Ordering.TheVariants.{Less, Equal, Greater}
use Rattle.std.specs.Ordering.{MatchOrdering}
use Rattle.std.specs.Cmp.{ranks}
use Rattle.std.specs.Ordering.{nat_cmp, ordering_reverse}
use Rattle.std.specs.Cmp.Lexicographic.{nat_list_cmp_total}
use Rattle.std.specs.FinMap as fin
use Rattle.std.specs.FinMap.{FinMap, IsAntisymmetric, slice_cmp-IsAntisymmetric, nat_cmp-IsAntisymmetric}
use Rattle.std.specs.List.Sorted.{IsStrictlySortedBy}
use Rattle.std.proofs.lemmas.Map.Keys.{sorted_head, sorted_tail}
use Rattle.lr_origin.specs.Objects.{key_cmp, IsAfter}
use Rattle.lr_roots.specs.View.{View}
use Rattle.lr_roots.specs.Names.{IsOneOf, AreApart, AreFewer, IsNamed, IsNextImage}
use Rattle.lr_depot.specs.Machine.{IsFirstName, IsLeast}
use Rattle.lr_depot.proofs.Numbers.{AreLeft, left_start, left_step, left_first, left_end, above}

exact : IsAntisymmetric key_cmp
exact = slice_cmp-IsAntisymmetric nat_cmp-IsAntisymmetric

-- no name is below itself
itself : (a : List ℕ) → key_cmp a a ≡ Less → ⊥
itself a less = by (key_cmp a a) less (nat_list_cmp_total.antisymm a a)
  where
    by : (o : Ordering) → o ≡ Less → o ≡ ordering_reverse o → ⊥
    by Less l e = cc
    by Equal l e = cc
    by Greater l e = cc

-- how two names stand
stand : (a b : List ℕ) → (key_cmp a b ≡ Less) ⊎ ((a ≡ b) ⊎ (key_cmp b a ≡ Less))
stand a b = by (key_cmp a b) refl
  where
    by : (o : Ordering) → key_cmp a b ≡ o → (key_cmp a b ≡ Less) ⊎ ((a ≡ b) ⊎ (key_cmp b a ≡ Less))
    by Less e = inl e
    by Equal e = inr (inl (exact a b e))
    by Greater e = inr (inr (nat_list_cmp_total.antisymm b a ∙ ap ordering_reverse e))

-- whether a name is past the bound
past : (after : Option (List ℕ)) (x : List ℕ) → IsAfter after x ⊎ ¬ (IsAfter after x)
past None x = inl tt
past (Some b) x = by (key_cmp b x) refl
  where
    by : (o : Ordering) → key_cmp b x ≡ o → (key_cmp b x ≡ Less) ⊎ ¬ (key_cmp b x ≡ Less)
    by Less e = inl e
    by Equal e = inr (λ f. cc)
    by Greater e = inr (λ f. cc)

-- what is above a name past the bound is past it
further : (after : Option (List ℕ)) (image x : List ℕ) → IsAfter after image → key_cmp image x ≡ Less → IsAfter after x
further None image x a less = tt
further (Some b) image x a less = nat_list_cmp_total.trans b image x a less

module _ (v : View) (P : List ℕ → Type 0) where
  -- So many names were seen, and none up to the bound passes.
  pub record IsWalked (after : Option (List ℕ)) (turn : ℕ) : Type 0 where
    pub seen : List (List ℕ)
    pub named : (x : List ℕ) → IsOneOf seen x → IsNamed v x
    pub below : (x : List ℕ) → IsOneOf seen x → ¬ (IsAfter after x)
    pub apart : AreApart seen
    pub long : length seen ≡ turn
    pub none : (x : List ℕ) → IsNamed v x → ¬ (IsAfter after x) → ¬ (P x)

  pub walked_start : IsWalked None 0
  walked_start = record { seen = []; named = λ x i. absurd i; below = λ x i. absurd i; apart = tt; long = refl; none = λ x named far. absurd (far tt) }

  pub walked_step : (after : Option (List ℕ)) (turn next : ℕ) (image : List ℕ) → next ≡ turn + 1 → IsWalked after turn → IsNextImage after v (Some image) → ¬ (P image) → IsWalked (Some image) next
  walked_step after turn next image more w is not = record {
    seen = image ∷ w.seen;
    named = named;
    below = below;
    apart = (λ i. w.below image i is.0, w.apart);
    long = longer (length w.seen) w.long;
    none = none;
  }
    where
      longer : (n : ℕ) → n ≡ turn → suc n ≡ next
      longer n e = omega (arith, e, more)

      named : (x : List ℕ) → IsOneOf (image ∷ w.seen) x → IsNamed v x
      named x (inl e) = subst (IsNamed v) (sym e) is.1
      named x (inr i) = w.named x i

      below : (x : List ℕ) → IsOneOf (image ∷ w.seen) x → ¬ (IsAfter (Some image) x)
      below x (inl e) less = itself image (subst (λ y. key_cmp image y ≡ Less) e less)
      below x (inr i) less = w.below x i (further after image x is.0 less)

      none : (x : List ℕ) → IsNamed v x → ¬ (IsAfter (Some image) x) → ¬ (P x)
      none x there far p = elim (past after x) [
        | inl a ↦ elim (stand x image) [ inl less ↦ is.2 x a less there | inr other ↦ elim other [ inl same ↦ not (subst P same p) | inr more ↦ far more ] ]
        | inr near ↦ w.none x there near p
      ]

  module _ (has : (x : List ℕ) → P x → IsNamed v x) (after : Option (List ℕ)) (turn : ℕ) (w : IsWalked after turn) where
    pub walked_found : (image : List ℕ) → IsNextImage after v (Some image) → P image → IsFirstName P (Some image)
    walked_found image is p = (
      p,
      λ q less pq. elim (past after q) [
        | inl a ↦ is.2 q a less (has q pq)
        | inr near ↦ w.none q (has q pq) near pq
      ],
    )

    pub walked_end : IsNextImage after v None → IsFirstName P None
    walked_end is q pq = elim (past after q) [ inl a ↦ is q a (has q pq) | inr near ↦ w.none q (has q pq) near pq ]

  -- there are not so many
  pub walked_all : (after : Option (List ℕ)) (turn most : ℕ) → IsWalked after turn → most ≡ turn → AreFewer (IsNamed v) most → ⊥
  walked_all after turn most w e few = let less : length w.seen < most = few w.seen w.named w.apart in omega (arith, less, e, w.long)

module _ {X : Type 0} (m : FinMap nat_cmp X) (P : X → Type 0) where
  -- those of the map that pass are among the rest, which are in order
  pub record AreLeftInOrder (rest : List (ℕ × X)) : Type 0 where
    pub left : AreLeft m P rest
    pub sorted : IsStrictlySortedBy nat_cmp (map (λ e. e.0) rest)

  pub order_start : (es : List (ℕ × X)) → es ≡ fin.entries m → IsStrictlySortedBy nat_cmp (fin.keys m) → AreLeftInOrder es
  order_start es e s = record { left = left_start m P es e s; sorted = subst (λ l. IsStrictlySortedBy nat_cmp (map (λ (e : ℕ × X). e.0) l)) (sym e) s }

  pub order_step : (all rest : List (ℕ × X)) (n : ℕ) (x : X) → all ≡ (n, x) ∷ rest → AreLeftInOrder all → (P x → ⊥) → AreLeftInOrder rest
  order_step all rest n x split h not = record {
    left = left_step m P all rest n x split h.left not;
    sorted = sorted_tail nat_cmp n (map (λ (e : ℕ × X). e.0) rest) (subst (λ l. IsStrictlySortedBy nat_cmp (map (λ (e : ℕ × X). e.0) l)) split h.sorted);
  }

  abbrev Passes : ℕ → Type 0
  Passes n = (x : X) × (fin.get m n ≡ Some x) × P x

  pub order_found : (all rest : List (ℕ × X)) (n : ℕ) (x : X) → all ≡ (n, x) ∷ rest → AreLeftInOrder all → P x → IsLeast Passes (Some n)
  order_found all rest n x split h p = (
    (x, left_first m P all rest n x split h.left, p),
    λ q less passes. by q less passes.0 passes.2 (subst (λ l. IsOneOf l (q, passes.0)) split (h.left.left q passes.0 passes.1 passes.2)),
  )
    where
      not_both_ways : (q n : ℕ) → q < n → nat_cmp n q ≡ Less → ⊥
      not_both_ways q n less more = let l : n < q = subst (λ r. MatchOrdering r (n < q) (n ≡ q) (q < n)) more (ranks n q) in omega (arith, less, l)

      by : (q : ℕ) → q < n → (y : X) → P y → IsOneOf ((n, x) ∷ rest) (q, y) → ⊥
      by q less y py (inl e) = let same : q ≡ n = ap (λ (p : ℕ × X). p.0) e in omega (arith, less, same)
      by q less y py (inr i) =
          let more : nat_cmp n q ≡ Less = above n rest (sorted_head nat_cmp n (map (λ (e : ℕ × X). e.0) rest) (subst (λ l. IsStrictlySortedBy nat_cmp (map (λ (e : ℕ × X). e.0) l)) split h.sorted)) q y i in
          not_both_ways q n less more

  pub order_end : (rest : List (ℕ × X)) → rest ≡ [] → AreLeftInOrder rest → IsLeast Passes None
  order_end rest e h n passes = left_end m P rest e h.left n passes.0 passes.1 passes.2
