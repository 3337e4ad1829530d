-- Searches through numbers, from a bound down and from one up.
use Rattle.std.proofs.Common.{◌≡◌, ◌<◌, ◌≤◌, ◌+◌, ℕ, Some, None, subst, sym, inl, inr, arith}
use mathlib.Core.Logic.{◌⊎◌}
use Rattle.lr_roots.specs.Index.{IsLastBelow, IsFirstFrom}

-- none passes from the bound on
abbrev pub NoneFrom : (ℕ → Type 0) → ℕ → Type 0
NoneFrom P bound = (q : ℕ) → bound ≤ q → P q → ⊥

-- none passes below the bound
abbrev pub NoneBelow : (ℕ → Type 0) → ℕ → Type 0
NoneBelow P bound = (q : ℕ) → q < bound → P q → ⊥

-- All that pass are among those that are walked.
module _ (P K : ℕ → Type 0) (within : (q : ℕ) → P q → K q) (bound : ℕ) where
  -- none passes above the last one
  pub none_above : (r : ℕ) → NoneFrom P bound → IsLastBelow K bound (Some r) → (q : ℕ) → r < q → P q → ⊥
  none_above r none last q above p = by split
    where
      split : (q < bound) ⊎ (bound ≤ q)
      split = grind arith

      by : (q < bound) ⊎ (bound ≤ q) → ⊥
      by (inl below) = last.2 q above below (within q p)
      by (inr le) = none q le p

  pub one_down : (r : ℕ) → NoneFrom P bound → IsLastBelow K bound (Some r) → (P r → ⊥) → NoneFrom P r
  one_down r none last not q le p = by split
    where
      split : (r < q) ⊎ (q ≡ r)
      split = grind (arith, le)

      by : (r < q) ⊎ (q ≡ r) → ⊥
      by (inl above) = none_above r none last q above p
      by (inr same) = not (subst P same p)

  pub none_left : NoneFrom P bound → IsLastBelow K bound None → (q : ℕ) → P q → ⊥
  none_left none last q p = by split
    where
      split : (q < bound) ⊎ (bound ≤ q)
      split = grind arith

      by : (q < bound) ⊎ (bound ≤ q) → ⊥
      by (inl below) = last q below (within q p)
      by (inr le) = none q le p

  -- none passes below the first one
  pub none_under : (r : ℕ) → NoneBelow P bound → IsFirstFrom K bound (Some r) → NoneBelow P r
  none_under r none first q below p = by split
    where
      split : (q < bound) ⊎ (bound ≤ q)
      split = grind arith

      by : (q < bound) ⊎ (bound ≤ q) → ⊥
      by (inl less) = none q less p
      by (inr le) = first.2 q le below (within q p)

  pub one_up : (r : ℕ) → NoneBelow P bound → IsFirstFrom K bound (Some r) → (P r → ⊥) → NoneBelow P (r + 1)
  one_up r none first not q below p = by split
    where
      split : (q < r) ⊎ (q ≡ r)
      split = grind (arith, below)

      by : (q < r) ⊎ (q ≡ r) → ⊥
      by (inl less) = none_under r none first q less p
      by (inr same) = not (subst P same p)

  pub none_on : NoneBelow P bound → IsFirstFrom K bound None → (q : ℕ) → P q → ⊥
  none_on none first q p = by split
    where
      split : (q < bound) ⊎ (bound ≤ q)
      split = grind arith

      by : (q < bound) ⊎ (bound ≤ q) → ⊥
      by (inl below) = none q below p
      by (inr le) = first q le (within q p)
