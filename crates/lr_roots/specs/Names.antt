-- How many keys and names of a view there are, the next name, the next key of a root, the greatest creation number.
use Rattle.std.specs.Prelude.{◌≡◌, ◌≤◌, ◌<◌, ℕ, List, [], ◌∷◌, Option, Some, None, length, drop, ◌↔◌, ◌⊎◌}
use Rattle.std.specs.Int.{w64, from_be_bytes}
use Rattle.std.specs.declared.cmp.Ordering.TheVariants.{Less}
use Rattle.std.specs.FinMap as map
use Rattle.lr_manifest.specs.Manifest.{ManifestFields}
use Rattle.lr_origin.specs.Kind.{kind_cmp}
use Rattle.lr_origin.specs.Objects.{key_cmp, IsAfter}
use Rattle.lr_origin.specs.declared.key.KeyKind.{KeyKind}
use Rattle.lr_origin.specs.declared.key.KeyKind.TheVariants.{Chunk, Manifest, Withdrawn}
use Rattle.lr_roots.specs.View.{View, Has, manifest}

-- x is one of the list
abbrev pub IsOneOf : {A : Type 0} → List A → A → Type 0
IsOneOf [] x = ⊥
IsOneOf (y ∷ ys) x = (x ≡ y) ⊎ IsOneOf ys x

-- none of the list stands there again
abbrev pub AreApart : {A : Type 0} → List A → Type 0
AreApart [] = Unit {0}
AreApart (x ∷ xs) = ¬ (IsOneOf xs x) × AreApart xs

-- So many pass: a list without repeats has just those that do, and has this length.
pub record AreMany {A : Type 0} (P : A → Type 0) (count : ℕ) : Type 0 where
  pub each : List A
  pub just : (x : A) → IsOneOf each x ↔ P x
  pub apart : AreApart each
  pub long : length each ≡ count

-- Fewer than this pass: each list without repeats of some that do is shorter.
abbrev pub AreFewer : {A : Type 0} → (A → Type 0) → ℕ → Type 0
AreFewer {A} P most = (some : List A) → ((x : A) → IsOneOf some x → P x) → AreApart some → length some < most

-- The key names the image: it is a manifest of it in some root, or it withdraws it.
abbrev pub Names : KeyKind → List ℕ → Type 0
Names (Manifest r image) name = image ≡ name
Names (Withdrawn image) name = image ≡ name
Names key name = ⊥

-- The name of an image: a key of the view names it.
abbrev pub IsNamed : View → List ℕ → Type 0
IsNamed v image = (key : KeyKind) × Has v key × Names key image

-- a manifest in the root
abbrev pub IsManifestOf : ℕ → KeyKind → Type 0
IsManifestOf r (Manifest q image) = q ≡ r
IsManifestOf r key = ⊥

-- a chunk of the root
abbrev pub IsChunkOf : ℕ → KeyKind → Type 0
IsChunkOf r (Chunk q name) = q ≡ r
IsChunkOf r key = ⊥

-- The least name above the bound, or none where no name is above it.
abbrev pub IsNextImage : Option (List ℕ) → View → Option (List ℕ) → Type 0
IsNextImage after v None = (q : List ℕ) → IsAfter after q → ¬ (IsNamed v q)
IsNextImage after v (Some image) =
    IsAfter after image × IsNamed v image × ((q : List ℕ) → IsAfter after q → key_cmp q image ≡ Less → ¬ (IsNamed v q))

-- the key is above the bound, if there is one
abbrev pub IsPast : Option KeyKind → KeyKind → Type 0
IsPast None key = Unit {0}
IsPast (Some bound) key = kind_cmp bound key ≡ Less

-- a chunk or a manifest of the root above the bound
abbrev pub IsListed : ℕ → Option KeyKind → KeyKind → Type 0
IsListed r after key = (IsManifestOf r key ⊎ IsChunkOf r key) × IsPast after key

-- The first key that passes, in byte order, or none where no key does.
abbrev pub IsFirst : (KeyKind → Type 0) → Option KeyKind → Type 0
IsFirst P None = (q : KeyKind) → ¬ (P q)
IsFirst P (Some key) = P key × ((q : KeyKind) → kind_cmp q key ≡ Less → ¬ (P q))

-- the creation number of a manifest: the last 8 bytes of its nonce, big-endian
abbrev pub number_of : ManifestFields → ℕ
number_of m = from_be_bytes w64 (drop 4 m.nonce)

-- the manifest that the view keeps under this key
abbrev pub IsManifestAt : View → KeyKind → ManifestFields → Type 0
IsManifestAt v (Manifest r image) m = map.get v (Manifest r image) ≡ Some (manifest m)
IsManifestAt v key m = ⊥

-- a manifest of the view has this creation number
abbrev pub HasNumber : View → ℕ → Type 0
HasNumber v n = (key : KeyKind) × (m : ManifestFields) × IsManifestAt v key m × (number_of m ≡ n)

-- The greatest creation number of a manifest, 0 where there is none.
pub record IsGreatestNumber (v : View) (n : ℕ) : Type 0 where
  pub above : (q : ℕ) → HasNumber v q → q ≤ n
  pub had : HasNumber v n ⊎ (n ≡ 0)
