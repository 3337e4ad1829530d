-- What walks over the keys of a view look for.
use Rattle.std.specs.Prelude.{◌≡◌, ◌<◌, ◌⊎◌, ℕ, List, Option, Some, None}
use Rattle.std.specs.declared.cmp.Ordering.TheVariants.{Less}
use Rattle.lr_origin.specs.Objects.{key_cmp, IsAfter}
use Rattle.lr_origin.specs.declared.key.KeyKind.{KeyKind}
use Rattle.lr_origin.specs.declared.key.KeyKind.TheVariants.{Manifest, Withdrawn}
use Rattle.lr_roots.specs.declared.walks.Wanted.{Wanted}
use Rattle.lr_roots.specs.declared.walks.Wanted.TheVariants as wanted
use Rattle.lr_roots.specs.View.{View, Has, Lacks}
use Rattle.lr_roots.specs.Names.{Names, IsManifestOf, IsChunkOf, IsListed}
use Rattle.lr_roots.specs.Foreign.{IsUnbroken, Breaks}

-- The first key that names its image: its manifest in the first root that has one, else the key that withdraws it.
abbrev pub NamesFirst : View → KeyKind → Type 0
NamesFirst v (Manifest r image) = (q : ℕ) → q < r → Lacks v (Manifest q image)
NamesFirst v (Withdrawn image) = (q : ℕ) → Lacks v (Manifest q image)
NamesFirst v key = ⊥

-- what is looked for knows the view
abbrev pub Suits : View → Wanted → Type 0
Suits v (wanted.Foreign n) = IsUnbroken v n
Suits v (wanted.Listed r after) = Unit {0}
Suits v (wanted.Manifests r) = Unit {0}
Suits v (wanted.Chunks r) = Unit {0}
Suits v wanted.Named = Unit {0}

-- the key is what is looked for
abbrev pub Passes : View → Wanted → KeyKind → Type 0
Passes v (wanted.Foreign n) key = Breaks v key
Passes v (wanted.Listed r after) key = IsListed r after key
Passes v (wanted.Manifests r) key = IsManifestOf r key
Passes v (wanted.Chunks r) key = IsChunkOf r key
Passes v wanted.Named key = NamesFirst v key

-- a key of the view that is looked for
abbrev pub IsWanted : View → Wanted → KeyKind → Type 0
IsWanted v w key = Has v key × Passes v w key

-- the name is below the best so far, if there is one
abbrev pub IsBelow : Option (List ℕ) → List ℕ → Type 0
IsBelow None q = Unit {0}
IsBelow (Some best) q = key_cmp q best ≡ Less

-- the name is above the bound and below the best so far
abbrev pub IsNearer : Option (List ℕ) → Option (List ℕ) → List ℕ → Type 0
IsNearer after best q = IsAfter after q × IsBelow best q

-- The next best is a nearer name that a key of the view names, or the best so far where the key names none.
abbrev pub IsNearest : View → KeyKind → Option (List ℕ) → Option (List ℕ) → Option (List ℕ) → Type 0
IsNearest v key after best next =
    ((image : List ℕ) × (next ≡ Some image) × Has v key × Names key image × IsNearer after best image)
    ⊎ ((next ≡ best) × ((q : List ℕ) → Has v key → Names key q → ¬ (IsNearer after best q)))
