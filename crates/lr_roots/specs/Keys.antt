-- The keys of a tree, as a view.
use Rattle.std.specs.Prelude.{List, Option, Some, None}
use Rattle.std.specs.Prelude as std
use Rattle.std.specs.Arc.{arc_value}
use denote.Ref.{Bor}
use Rattle.std.specs.FinMap as map
use Rattle.lr_origin.specs.declared.key.KeyKind.{KeyKind}
use Rattle.lr_roots.specs.declared.kept.Kept as kept
use Rattle.lr_roots.specs.declared.kept.Kept.TheVariants as variants
use Rattle.lr_roots.specs.View.{View, Held, salt, manifest, bare}

-- what is kept, an `Arc` by its value
abbrev pub plain : kept.Kept → Held
plain (variants.Salt s) = salt s
plain (variants.Manifest m) = manifest (arc_value m)
plain variants.Empty = bare

abbrev pub plain_entry : KeyKind × kept.Kept → KeyKind × Held
plain_entry e = (e.0, plain e.1)

-- the view of some entries
abbrev pub view_of : List (KeyKind × kept.Kept) → View
view_of es = map.from_entries (std.map plain_entry es)

-- what is kept behind a reference, if any
abbrev pub held_of : Option (Bor kept.Kept) → Option Held
held_of None = None
held_of (Some r) = Some (plain r.now)

-- the key behind a reference, if any
abbrev pub key_of : Option (Bor KeyKind) → Option KeyKind
key_of None = None
key_of (Some r) = Some r.now
