-- How a store's objects and a view belong together, and the foreign key of a store.
use Rattle.std.specs.Prelude.{◌≡◌, ◌⊎◌, ℕ, List, [], length, Option, Some, None, IsSome, ⊤}
use Rattle.std.specs.declared.cmp.Ordering.TheVariants.{Less}
use Rattle.std.specs.FinMap as map
use Rattle.sha2.specs.Sha256.{sha256}
use Rattle.lr_manifest.specs.Manifest.{spelling}
use Rattle.lr_origin.specs.Objects.{Objects, key_cmp}
use Rattle.lr_origin.specs.Text.{key_text, IsKind}
use Rattle.lr_origin.specs.declared.key.KeyKind.{KeyKind}
use Rattle.lr_origin.specs.declared.key.KeyKind.TheVariants.{Chunk}
use Rattle.lr_roots.specs.View.{View, Held, salt, manifest, bare, Has}
use Rattle.lr_roots.specs.Names.{IsFirst}
use Rattle.lr_roots.specs.Foreign.{IsForeign}
use Rattle.lr_roots.specs.Sound.{Suits, IsSound}

-- the body of an object of which this is kept, where it isn't a chunk
abbrev pub body_of : Held → List ℕ
body_of (salt s) = s
body_of (manifest m) = spelling m
body_of bare = []

-- A body under a key of this kind, of which this is kept. A chunk's body isn't read.
abbrev pub IsBody : KeyKind → Held → List ℕ → Type 0
IsBody (Chunk r name) held body = held ≡ bare
IsBody k held body = Suits k held × (body ≡ body_of held)

-- an object where the view has its key, and none where it has none
abbrev pub IsSame : KeyKind → Option (List ℕ) → Option Held → Type 0
IsSame k None None = ⊤
IsSame k (Some body) (Some held) = IsBody k held body
IsSame k None (Some held) = ⊥
IsSame k (Some body) None = ⊥

-- The store's objects are those of the view, and each has the body of which that is kept.
pub record Mirrors (m : Objects) (v : View) : Type 0 where
  pub each : (k : KeyKind) → IsKind k → IsSame k (map.get m (key_text k)) (map.get v k)
  pub kinds : (k : KeyKind) → Has v k → IsKind k
  pub only : (q : List ℕ) → IsSome (map.get m q) → (k : KeyKind) × IsKind k × (q ≡ key_text k)

-- The object's key is outside the grammar, or its body isn't one of its kind.
abbrev pub IsMalformed : Objects → List ℕ → Type 0
IsMalformed m q =
    (body : List ℕ) × (map.get m q ≡ Some body)
    × ((k : KeyKind) (held : Held) → IsKind k → q ≡ key_text k → ¬ (IsBody k held body))

-- The foreign key of a store, in byte order: the first malformed one. Where none is, the first that breaks a rule of
-- the view.
abbrev pub IsForeignKey : Objects → List ℕ → Type 0
IsForeignKey m q =
    (IsMalformed m q × ((p : List ℕ) → key_cmp p q ≡ Less → ¬ (IsMalformed m p)))
    ⊎ ((v : View) × Mirrors m v × ((k : KeyKind) × IsFirst (IsForeign v) (Some k) × (q ≡ key_text k)))

-- each chunk has 524,288 bytes, and their SHA-256 is its name
abbrev pub HasChunks : Objects → Type 0
HasChunks m =
    (r : ℕ) (name body : List ℕ) → IsKind (Chunk r name) → map.get m (key_text (Chunk r name)) ≡ Some body
    → (length body ≡ 524288) × (sha256 body ≡ name)

-- A sound store: no key is foreign, and each chunk is the one that its key names.
abbrev pub IsSoundStore : Objects → Type 0
IsSoundStore m = ((v : View) × Mirrors m v × IsSound v) × HasChunks m
