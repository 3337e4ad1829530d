-- What the depot knows of the store, and the ways in which its doubts can come out.
use Rattle.std.specs.Prelude.{◌≡◌, ◌⊎◌, ℕ, Some, None}
use Rattle.std.specs.FinMap as map
use Rattle.std.specs.FinMap.{FinMap}
use Rattle.lr_origin.specs.Kind.{kind_cmp}
use Rattle.lr_origin.specs.declared.key.KeyKind.{KeyKind}
use Rattle.lr_origin.specs.declared.key.KeyKind.TheVariants.{Root, Expired, Deleted, Chunk, Manifest}
use Rattle.lr_roots.specs.View.{View, Held, Has, Lacks}

pub record Known : Type 0 where
  pub view : View
  -- What may be there, or may be there no more. A put in doubt isn't in the view, a deletion in doubt is.
  pub doubts : FinMap kind_cmp Held

-- what the view would be if the doubts came out in one way
pub record Settles (s : Known) (v : View) : Type 0 where
  pub known : (k : KeyKind) → map.get s.doubts k ≡ None → map.get v k ≡ map.get s.view k
  pub doubted : (k : KeyKind) (x : Held) → map.get s.doubts k ≡ Some x → (map.get v k ≡ None) ⊎ (map.get v k ≡ Some x)

-- P in whichever way the doubts come out
abbrev pub Always : Known → (View → Type 0) → Type 0
Always s P = (v : View) → Settles s v → P v

-- A root that is there, and neither deleted nor expired: it is active or retired.
abbrev pub Serves : View → ℕ → Type 0
Serves v r = Has v (Root r) × Lacks v (Deleted r) × Lacks v (Expired r)

-- a chunk or a manifest under this root
abbrev pub IsItemOf : ℕ → KeyKind → Type 0
IsItemOf r (Chunk q name) = q ≡ r
IsItemOf r (Manifest q image) = q ≡ r
IsItemOf r k = ⊥

-- A put in doubt isn't in the view. A deletion in doubt is of a deleted root, and what it would remove is known.
abbrev pub Agrees : Known → Type 0
Agrees s =
    (k : KeyKind) (x : Held) → map.get s.doubts k ≡ Some x
    → Lacks s.view k ⊎ ((map.get s.view k ≡ Some x) × ((r : ℕ) × IsItemOf r k × Has s.view (Deleted r)))

-- after an acknowledged put, or a doubt that was found there
abbrev pub accepted : Known → KeyKind → Held → Known
accepted s k x = record { view = map.insert s.view k x; doubts = map.remove s.doubts k }

-- after a failed put or deletion of what is kept so
abbrev pub doubting : Known → KeyKind → Held → Known
doubting s k x = record { view = s.view; doubts = map.insert s.doubts k x }

-- after a deletion
abbrev pub removed : Known → KeyKind → Known
removed s k = record { view = map.remove s.view k; doubts = map.remove s.doubts k }

-- after a doubt that was found absent
abbrev pub dismissed : Known → KeyKind → Known
dismissed s k = record { view = s.view; doubts = map.remove s.doubts k }
