-- The catalog: a view, and a key that stands aside.
use Rattle.std.specs.Prelude.{◌≡◌, ℕ, List, Option, Some, None, refl}
use Rattle.std.specs.Coded.{Coded, code_by, coded_option, coded×}
use Rattle.std.specs.Arc.{arc_value}
use Rattle.std.specs.declared.sync.Arc.{Arc}
use Rattle.std.specs.declared.alloc.Global.{Global}
use denote.Ref.{Bor}
use Rattle.std.specs.Option.{option_map}
use Rattle.std.specs.FinMap as map
use Rattle.lr_origin.specs.declared.key.KeyKind.{KeyKind}
use Rattle.lr_origin.specs.Text.{IsKind}
use Rattle.lr_manifest.specs.Manifest.{ManifestFields}
use Rattle.lr_roots.specs.View.{View, Held, salt, manifest, held_code, Has, Fits}

-- A catalog, as contracts see it: the view, and the key kept aside with what is kept of its object.
pub record Seen : Type 0 where
  pub view : View
  pub aside : Option (KeyKind × Held)

-- all keys but the one aside
abbrev pub without : Option KeyKind → View → View
without None all = all
without (Some key) all = map.remove all key

-- the key aside with what is kept of its object
abbrev pub aside_of : Option KeyKind → View → Option (KeyKind × Held)
aside_of None all = None
aside_of (Some key) all = option_map (λ held. (key, held)) (map.get all key)

-- the view with this key, if there is one
abbrev pub with_key : Option (KeyKind × Held) → View → View
with_key None view = view
with_key (Some e) view = map.insert view e.0 e.1

-- Each key is one of the grammar, and what is kept of its object is of its kind.
pub record IsWhole (all : View) : Type 0 where
  pub kinds : (key : KeyKind) → Has all key → IsKind key
  pub fits : (key : KeyKind) (held : Held) → map.get all key ≡ Some held → Fits key held

-- the salt that is kept, if any
abbrev pub salt_of : Option Held → Option (List ℕ)
salt_of (Some (salt s)) = Some s
salt_of held = None

-- the manifest that is kept, if any
abbrev pub manifest_of : Option Held → Option ManifestFields
manifest_of (Some (manifest m)) = Some m
manifest_of held = None

-- the manifest behind a reference, if any
abbrev pub arc_of : Option (Bor (Arc ManifestFields Global)) → Option ManifestFields
arc_of None = None
arc_of (Some r) = Some (arc_value r.now)

abbrev pub seen_code : Coded KeyKind → Coded ManifestFields → Coded Seen
seen_code kinds fields =
    code_by (View × Option (KeyKind × Held)) (coded× (map.code kinds (held_code fields)) (coded_option (coded× kinds (held_code fields))))
    (λ s. (s.view, s.aside)) (λ p. record { view = p.0; aside = p.1 }) (λ _. refl)
