-- The keys of a store, listed.
use Rattle.std.specs.Prelude.{◌≡◌, ◌<◌, ◌⊎◌, ℕ, List, [], ◌∷◌, Option, Some, None, IsSome, Vec, map, Contains, length}
use Rattle.std.specs.declared.alloc.Global.{Global}
use Rattle.std.specs.FinMap as fin
use Rattle.std.specs.List.Sorted.{IsStrictlySortedBy}
use Rattle.lr_origin.specs.Objects.{Objects, IsAfter, key_cmp}

abbrev pub bytes_of : List (Vec ℕ Global) → List (List ℕ)
bytes_of keys = map (λ k. k.items) keys

-- the last of the list, if there is one
abbrev pub last_of : List (List ℕ) → Option (List ℕ)
last_of [] = None
last_of (k ∷ []) = Some k
last_of (k ∷ j ∷ ks) = last_of (j ∷ ks)

-- The first keys of a store: each is there, and each other one is above the last.
pub record Lists (m : Objects) (keys : List (List ℕ)) : Type 0 where
  pub ascends : IsStrictlySortedBy key_cmp keys
  pub each : (q : List ℕ) → Contains keys q → IsSome (fin.get m q)
  pub up_to : (q : List ℕ) → IsSome (fin.get m q) → Contains keys q ⊎ IsAfter (last_of keys) q

-- all keys of a store, in byte order
pub record ListsAll (m : Objects) (keys : List (List ℕ)) : Type 0 where
  pub ascends : IsStrictlySortedBy key_cmp keys
  pub each : (q : List ℕ) → Contains keys q → IsSome (fin.get m q)
  pub all : (q : List ℕ) → IsSome (fin.get m q) → Contains keys q

-- the store has fewer keys than this
abbrev pub HasFewer : Objects → ℕ → Type 0
HasFewer m most = (keys : List (List ℕ)) × ListsAll m keys × (length keys < most)

-- the store has this many keys at least
abbrev pub HasMany : Objects → ℕ → Type 0
HasMany m many = (keys : List (List ℕ)) × Lists m keys × (length keys ≡ many)
