-- The roots of a view: their states, the homes of images, complete manifests.
use Rattle.std.specs.Prelude.{◌≡◌, ◌<◌, ◌≤◌, ℕ, List, Option, Some, None, All}
use Rattle.std.specs.List.{slice_get}
use Rattle.lr_manifest.specs.Manifest.{ManifestFields}
use Rattle.lr_manifest.specs.declared.name.Name.{Name}
use Rattle.lr_origin.specs.declared.key.KeyKind.TheVariants.{Root, Expired, Deleted, Chunk, Manifest}
use Rattle.lr_roots.specs.declared.state.RootState.{RootState}
use Rattle.lr_roots.specs.declared.state.RootState.TheVariants as state
use Rattle.lr_roots.specs.View.{View, Has, Lacks}

-- The roots are 1 to n.
abbrev pub RootsAre : View → ℕ → Type 0
RootsAre v n = ((r : ℕ) → 1 ≤ r → r ≤ n → Has v (Root r)) × ((r : ℕ) → Has v (Root r) → (1 ≤ r) × (r ≤ n))

-- A live root: it is there, and it isn't deleted.
abbrev pub IsLive : View → ℕ → Type 0
IsLive v r = Has v (Root r) × Lacks v (Deleted r)

-- It has the greatest number of a root.
abbrev pub IsGreatest : View → ℕ → Type 0
IsGreatest v r = Has v (Root r) × ((q : ℕ) → Has v (Root q) → q ≤ r)

-- The greatest root, or 0 where there is none.
abbrev pub IsTop : View → ℕ → Type 0
IsTop v n = ((r : ℕ) → Has v (Root r) → r ≤ n) × (0 < n → Has v (Root n))

-- The state of a root: deleted, else expired, else active where it is the greatest, else retired.
abbrev pub IsRootState : View → ℕ → Option RootState → Type 0
IsRootState v r None = Lacks v (Root r)
IsRootState v r (Some state.Deleted) = Has v (Root r) × Has v (Deleted r)
IsRootState v r (Some state.Expired) = IsLive v r × Has v (Expired r)
IsRootState v r (Some state.Active) = IsLive v r × Lacks v (Expired r) × IsGreatest v r
IsRootState v r (Some state.Retired) = IsLive v r × Lacks v (Expired r) × ((q : ℕ) × (r < q) × Has v (Root q))

-- The home of an image: the greatest live root that has a manifest of it.
pub record IsHome (v : View) (image : List ℕ) (r : ℕ) : Type 0 where
  pub live : IsLive v r
  pub listed : Has v (Manifest r image)
  pub greatest : (q : ℕ) → r < q → IsLive v q → Lacks v (Manifest q image)

-- No live root has a manifest of the image.
abbrev pub IsHomeless : View → List ℕ → Type 0
IsHomeless v image = (r : ℕ) → IsLive v r → Lacks v (Manifest r image)

-- The image has a home, and the home isn't expired.
abbrev pub IsHomed : View → List ℕ → Type 0
IsHomed v image = (r : ℕ) × IsHome v image r × Lacks v (Expired r)

-- Each chunk that the manifest names is there under the root.
abbrev pub IsComplete : View → ℕ → ManifestFields → Type 0
IsComplete v r m = All (λ name. Has v (Chunk r name.bytes)) m.names

-- The first name whose chunk isn't there under the root stands at this place.
pub record IsMissing (v : View) (r : ℕ) (names : List Name) (at : ℕ) : Type 0 where
  pub name : Name
  pub there : slice_get names at ≡ Some name
  pub lacks : Lacks v (Chunk r name.bytes)
  pub earlier : (i : ℕ) (n : Name) → i < at → slice_get names i ≡ Some n → Has v (Chunk r n.bytes)
