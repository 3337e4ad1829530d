-- The roots of a view, and the keys that name images, each in an order of its own.
use Rattle.std.specs.Prelude.{◌≡◌, ◌<◌, ◌≤◌, ℕ, List, Option, Some, None, is_some, IsTrue}
use Rattle.std.specs.declared.cmp.Ordering.{Ordering}
use Rattle.std.specs.Option.{option_cmp}
use Rattle.std.specs.Ordering.{nat_cmp, ordering_then}
use Rattle.std.specs.BTreeSet.{BTreeSet, contains}
use Rattle.std.specs.FinMap as map
use Rattle.lr_origin.specs.Objects.{key_cmp}
use Rattle.lr_origin.specs.declared.key.KeyKind.{KeyKind}
use Rattle.lr_origin.specs.declared.key.KeyKind.TheVariants.{Root, Manifest, Withdrawn}
use Rattle.lr_roots.specs.declared.index.Naming.{Naming}
use Rattle.lr_roots.specs.declared.index.Index.{Index}
use Rattle.lr_roots.specs.View.{View, Has, Lacks}

-- by image, and then by root, the key that withdraws the image before its manifests
abbrev pub naming_cmp : Naming → Naming → Ordering
naming_cmp a b = ordering_then (key_cmp a.image b.image) (option_cmp nat_cmp a.root b.root)

abbrev pub key_naming : List ℕ → Option ℕ → KeyKind
key_naming image None = Withdrawn image
key_naming image (Some root) = Manifest root image

-- the key of a naming
abbrev pub naming_key : Naming → KeyKind
naming_key n = key_naming n.image n.root

-- just the keys of the view that are `key` of something stand in the set
abbrev pub AreKeys : {A : Type 0} → (A → A → Ordering) → (A → KeyKind) → View → BTreeSet A → Type 0
AreKeys {A} cmp key v s = (a : A) → contains cmp s a ≡ is_some (map.get v (key a))

-- The index of a view: just its roots, and just its keys that name an image.
pub record IsIndex (v : View) (index : Index) : Type 0 where
  pub roots : AreKeys nat_cmp Root v index.roots
  pub namings : AreKeys naming_cmp naming_key v index.namings

-- the greatest number below the bound that passes, if one does
abbrev pub IsLastBelow : (ℕ → Type 0) → ℕ → Option ℕ → Type 0
IsLastBelow P bound None = (q : ℕ) → q < bound → ¬ (P q)
IsLastBelow P bound (Some r) = (r < bound) × P r × ((q : ℕ) → r < q → q < bound → ¬ (P q))

-- the least number from the bound on that passes, if one does
abbrev pub IsFirstFrom : (ℕ → Type 0) → ℕ → Option ℕ → Type 0
IsFirstFrom P bound None = (q : ℕ) → bound ≤ q → ¬ (P q)
IsFirstFrom P bound (Some r) = (bound ≤ r) × P r × ((q : ℕ) → bound ≤ q → q < r → ¬ (P q))

-- the image has a manifest in the root, by these namings
abbrev pub IsNamedIn : BTreeSet Naming → List ℕ → ℕ → Type 0
IsNamedIn s image r = IsTrue (contains naming_cmp s (record { image = image; root = Some r }))

-- the last root that has a manifest of the image
abbrev pub IsLastRoot : View → List ℕ → ℕ → Type 0
IsLastRoot v image r = Has v (Manifest r image) × ((q : ℕ) → r < q → Lacks v (Manifest q image))
