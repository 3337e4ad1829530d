-- Manifests whose puts are in doubt.
use Rattle.std.specs.Prelude.{◌≡◌, ℕ, List, is_none}
use Rattle.std.specs.FinMap as map
use Rattle.lr_roots.specs.View.{View}
use Rattle.lr_rules.specs.Known.{Known}
use Rattle.lr_origin.specs.declared.key.KeyKind.{KeyKind}
use Rattle.lr_origin.specs.declared.key.KeyKind.TheVariants.{Manifest}

-- the doubts of keys that the view hasn't: those of puts, and not of deletions
abbrev pub without_keys : View → View → View
without_keys view doubts = map.retain_keys doubts (λ k. is_none (map.get view k))

abbrev pub puts_in_doubt : Known → View
puts_in_doubt s = without_keys s.view s.doubts

-- a manifest of the image in some root
abbrev pub IsManifestOfImage : List ℕ → KeyKind → Type 0
IsManifestOfImage image (Manifest r name) = name ≡ image
IsManifestOfImage image k = ⊥
