-- The rules of a sound store that the keys of a view can break, each with the key that breaks it.
use Rattle.std.specs.Prelude.{◌≡◌, ◌≢◌, ◌⊎◌, ◌<◌, ◌≤◌, ◌+◌, ℕ, List, Some}
use Rattle.std.specs.FinMap as map
use Rattle.lr_manifest.specs.Manifest.{ManifestFields}
use Rattle.lr_origin.specs.declared.key.KeyKind.{KeyKind}
use Rattle.lr_origin.specs.declared.key.KeyKind.TheVariants.{Root, Expired, Deleted, Chunk, Manifest, Withdrawn}
use Rattle.lr_roots.specs.View.{View, Has, Lacks, manifest}
use Rattle.lr_roots.specs.Roots.{IsLive, IsGreatest, IsHomed, IsComplete}

-- A root from 1 to this one isn't there.
abbrev pub IsGap : View → ℕ → Type 0
IsGap v r = (q : ℕ) × (1 ≤ q) × (q ≤ r) × Lacks v (Root q)

-- Just so many roots are there one after another, from 1 on.
abbrev pub IsUnbroken : View → ℕ → Type 0
IsUnbroken v n = ((q : ℕ) → 1 ≤ q → q ≤ n → Has v (Root q)) × Lacks v (Root (n + 1))

-- A root up to the key's own isn't there.
abbrev pub LacksRoot : View → KeyKind → Type 0
LacksRoot v (Root r) = IsGap v r
LacksRoot v (Expired r) = IsGap v r
LacksRoot v (Deleted r) = IsGap v r
LacksRoot v (Chunk r name) = IsGap v r
LacksRoot v (Manifest r image) = IsGap v r
LacksRoot v (Withdrawn image) = ⊥

-- A deleted root isn't expired, or the greatest root is.
abbrev pub IsOutOfOrder : View → KeyKind → Type 0
IsOutOfOrder v (Deleted r) = Lacks v (Expired r)
IsOutOfOrder v (Expired r) = IsGreatest v r
IsOutOfOrder v key = ⊥

-- the first root that has a manifest of the image
abbrev pub IsFirstRoot : View → List ℕ → ℕ → Type 0
IsFirstRoot v image r = Has v (Manifest r image) × ((q : ℕ) → q < r → Lacks v (Manifest q image))

-- The manifest differs from that of its image in the first root that has one. A manifest has one spelling, so it
-- differs just where its bytes do.
abbrev pub DiffersFromFirst : View → KeyKind → Type 0
DiffersFromFirst v (Manifest r image) =
    (q : ℕ) × (first : ManifestFields) × (own : ManifestFields) × IsFirstRoot v image q
    × (map.get v (Manifest q image) ≡ Some (manifest first)) × (map.get v (Manifest r image) ≡ Some (manifest own)) × (own ≢ first)
DiffersFromFirst v key = ⊥

-- A chunk that the manifest of a live root names isn't there under the root.
abbrev pub LacksChunk : View → KeyKind → Type 0
LacksChunk v (Manifest r image) =
    IsLive v r × ((m : ManifestFields) × (map.get v (Manifest r image) ≡ Some (manifest m)) × ¬ (IsComplete v r m))
LacksChunk v key = ⊥

-- An image that isn't withdrawn has no home, or its home is expired. The key is its manifest in the greatest root
-- that has one.
abbrev pub LacksHome : View → KeyKind → Type 0
LacksHome v (Manifest r image) =
    Lacks v (Withdrawn image) × ((q : ℕ) → r < q → Lacks v (Manifest q image)) × ¬ (IsHomed v image)
LacksHome v key = ⊥

-- The key breaks one of the rules.
abbrev pub Breaks : View → KeyKind → Type 0
Breaks v key = LacksRoot v key ⊎ (IsOutOfOrder v key ⊎ (DiffersFromFirst v key ⊎ (LacksChunk v key ⊎ LacksHome v key)))

-- A key of the view that breaks one of the rules.
abbrev pub IsForeign : View → KeyKind → Type 0
IsForeign v key = Has v key × Breaks v key
