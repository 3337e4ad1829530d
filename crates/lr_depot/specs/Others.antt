-- Images beside those that the view names.
use Rattle.std.specs.Prelude.{◌⊎◌, ℕ, List}
use Rattle.lr_origin.specs.declared.key.KeyKind.{KeyKind}
use Rattle.lr_roots.specs.View.{View, Has}
use Rattle.lr_roots.specs.Names.{IsOneOf, AreApart, IsNamed}
use Rattle.lr_depot.specs.Doubts.{IsManifestOfImage}

-- one of the keys in doubt is a manifest of the image
abbrev pub IsDoubted : View → List ℕ → Type 0
IsDoubted doubts image = (k : KeyKind) × Has doubts k × IsManifestOfImage image k

-- Of the images that pass, those that the view doesn't name were added, each once.
pub record AddsOthers (v : View) (P : List ℕ → Type 0) (old new : List (List ℕ)) : Type 0 where
  pub apart : AreApart old → AreApart new
  pub kept : (image : List ℕ) → IsOneOf old image → IsOneOf new image
  pub each : (image : List ℕ) → IsOneOf new image → IsOneOf old image ⊎ (P image × ¬ (IsNamed v image))
  pub all : (image : List ℕ) → P image → IsNamed v image ⊎ IsOneOf new image
