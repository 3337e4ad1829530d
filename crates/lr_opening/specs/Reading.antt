-- What is read of the listed keys.
use Rattle.std.specs.Prelude.{◌≡◌, ◌⊎◌, ℕ, List, [], ◌∷◌, ◌++◌, Option, Some, None, IsSome, Bool, true, false, Contains}
use Rattle.std.specs.declared.cmp.Ordering.TheVariants.{Less}
use Rattle.std.specs.FinMap as map
use Rattle.lr_spec.specs.Told.{Told}
use Rattle.lr_origin.specs.Objects.{Objects, key_cmp}
use Rattle.lr_origin.specs.Text.{key_text, IsKind}
use Rattle.lr_origin.specs.declared.key.KeyKind.{KeyKind}
use Rattle.lr_roots.specs.declared.kept.Kept.{Kept}
use Rattle.lr_roots.specs.View.{View, Held, Has}
use Rattle.lr_roots.specs.Keys.{plain}
use Rattle.lr_roots.specs.Names.{IsFirst}
use Rattle.lr_roots.specs.Foreign.{IsForeign}
use Rattle.lr_roots.specs.Sound.{Suits}
use Rattle.lr_opening.specs.Store.{IsBody, IsSame, IsMalformed}
use Rattle.lr_opening.specs.Listing.{ListsAll}

-- What is kept of a body, or that it isn't one of its kind.
abbrev pub IsKeptOf : KeyKind → List ℕ → Option Kept → Type 0
IsKeptOf k body (Some kept) = IsBody k (plain kept) body
IsKeptOf k body None = (held : Held) → ¬ (IsBody k held body)

-- there is an object under the key, of whose body this is kept
abbrev pub HasBody : Objects → KeyKind → Option Kept → Type 0
HasBody m k kept = (body : List ℕ) × (map.get m (key_text k) ≡ Some body) × IsKeptOf k body kept

-- where the store tells its objects, one has this key
abbrev pub IsThere : Option Objects → List ℕ → Type 0
IsThere told q = Told told (λ m. IsSome (map.get m q))

-- where the store tells its objects, these are all keys
abbrev pub AreListed : Option Objects → List (List ℕ) → Type 0
AreListed told keys = Told told (λ m. ListsAll m keys)

-- Each key is of the grammar, and what is kept of its object is of its kind.
abbrev pub AreSuited : View → Type 0
AreSuited v = (k : KeyKind) (x : Held) → map.get v k ≡ Some x → IsKind k × Suits k x

-- The view before and after a key was read. A malformed one isn't put in, and neither is one that is there already.
abbrev pub WhenRead : Objects → List ℕ → View → View → Bool → Type 0
WhenRead m q v w true =
    (k : KeyKind) × IsKind k × (q ≡ key_text k)
    × ((Has v k × (w ≡ v)) ⊎ ((x : Held) × (body : List ℕ) × (map.get m q ≡ Some body) × IsBody k x body × (w ≡ map.insert v k x)))
WhenRead m q v w false = IsMalformed m q × (w ≡ v)

-- The first malformed key of the list, if there is one.
abbrev pub IsFirstMalformed : Objects → List (List ℕ) → Option (List ℕ) → Type 0
IsFirstMalformed m keys None = (q : List ℕ) → Contains keys q → ¬ (IsMalformed m q)
IsFirstMalformed m keys (Some p) =
    Contains keys p × IsMalformed m p × ((q : List ℕ) → Contains keys q → key_cmp q p ≡ Less → ¬ (IsMalformed m q))

-- the malformed key that is remembered, after one more came
abbrev pub first_of : Option (List ℕ) → List ℕ → Option (List ℕ)
first_of None q = Some q
first_of (Some p) q = Some p

-- These keys were read: each key of the view is one of them, and each of them is in the view or malformed.
pub record HaveRead (m : Objects) (keys : List (List ℕ)) (v : View) (malformed : Option (List ℕ)) : Type 0 where
  pub within : (k : KeyKind) → Has v k → IsKind k × Contains keys (key_text k) × IsSame k (map.get m (key_text k)) (map.get v k)
  pub each : (q : List ℕ) → Contains keys q → ((k : KeyKind) × (q ≡ key_text k) × Has v k) ⊎ IsMalformed m q
  pub first : IsFirstMalformed m keys malformed

-- each key of the list is below this one
abbrev pub AreBelow : List (List ℕ) → List ℕ → Type 0
AreBelow keys q = (p : List ℕ) → Contains keys p → key_cmp p q ≡ Less

-- A key was read after those below it.
abbrev pub ReadsOn : Objects → List ℕ → View → Option (List ℕ) → View → Option (List ℕ) → Type 0
ReadsOn m q v before w after =
    (keys : List (List ℕ)) → HaveRead m keys v before → IsSome (map.get m q) → AreBelow keys q → HaveRead m (keys ++ q ∷ []) w after

-- The text of the first foreign key of a view, if there is one.
abbrev pub IsForeignText : View → Option (List ℕ) → Type 0
IsForeignText v None = IsFirst (IsForeign v) None
IsForeignText v (Some text) = (k : KeyKind) × IsFirst (IsForeign v) (Some k) × (text ≡ key_text k)
