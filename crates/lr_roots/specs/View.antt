-- A view: what is known of the keys of a store.
use Rattle.std.specs.Prelude.{◌≡◌, ◌⊎◌, ℕ, List, Option, Some, None, IsSome, refl}
use Rattle.std.proofs.Common.{inl, inr}
use Rattle.std.specs.Coded.{Coded, code_by, coded_option, coded_list, coded_ℕ, coded⊎}
use Rattle.std.specs.FinMap as map
use Rattle.std.specs.FinMap.{FinMap}
use Rattle.lr_manifest.specs.Manifest.{ManifestFields}
use Rattle.lr_origin.specs.Kind.{kind_cmp}
use Rattle.lr_origin.specs.declared.key.KeyKind.{KeyKind}
use Rattle.lr_origin.specs.declared.key.KeyKind.TheVariants.{Root, Expired, Deleted, Chunk, Manifest, Withdrawn}

-- What is kept of an object: the salt of a root, the manifest of an image, or its key alone.
pub data Held : Type 0 where
  salt : List ℕ → Held
  manifest : ManifestFields → Held
  bare : Held

-- how what is kept is told apart
abbrev as_sum : Held → List ℕ ⊎ Option ManifestFields
as_sum (salt s) = inl s
as_sum (manifest m) = inr (Some m)
as_sum bare = inr None

abbrev of_sum : List ℕ ⊎ Option ManifestFields → Held
of_sum (inl s) = salt s
of_sum (inr (Some m)) = manifest m
of_sum (inr None) = bare

pub of_sum-as_sum : (held : Held) → of_sum (as_sum held) ≡ held
of_sum-as_sum (salt s) = refl
of_sum-as_sum (manifest m) = refl
of_sum-as_sum bare = refl

abbrev pub held_code : Coded ManifestFields → Coded Held
held_code fields = code_by (List ℕ ⊎ Option ManifestFields) (coded⊎ (coded_list coded_ℕ) (coded_option fields)) as_sum of_sum of_sum-as_sum

-- a finite map from keys to what is kept of their objects
abbrev pub View : Type 0
View = FinMap kind_cmp Held

-- The key is in the view.
abbrev pub Has : View → KeyKind → Type 0
Has v key = IsSome (map.get v key)

-- The key isn't in the view.
abbrev pub Lacks : View → KeyKind → Type 0
Lacks v key = map.get v key ≡ None

-- what is kept is of the key's kind
abbrev pub Fits : KeyKind → Held → Type 0
Fits (Root r) (salt s) = Unit {0}
Fits (Manifest r image) (manifest m) = Unit {0}
Fits (Expired r) bare = Unit {0}
Fits (Deleted r) bare = Unit {0}
Fits (Chunk r name) bare = Unit {0}
Fits (Withdrawn image) bare = Unit {0}
Fits key held = ⊥
