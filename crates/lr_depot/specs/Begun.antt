-- What a depot was started with.
use Rattle.std.specs.Prelude.{ℕ, Option, refl}
use Rattle.std.specs.Coded.{Coded, code_by, coded_list, coded_ℕ, coded_option, coded×}
use Rattle.std.specs.FinMap as map
use Rattle.lr_manifest.specs.Manifest.{ManifestFields}
use Rattle.lr_origin.specs.Objects.{Objects}
use Rattle.lr_origin.specs.declared.key.KeyKind.{KeyKind}
use Rattle.lr_roots.specs.View.{View, held_code}

pub record Start : Type 0 where
  pub objects : Option Objects  -- the objects that the store told
  pub faults : ℕ  -- how often the store had failed
  pub view : View
  pub number : ℕ  -- the first creation number

-- how starts are told apart
abbrev pub start_code : Coded KeyKind → Coded ManifestFields → Coded Start
start_code kinds fields =
    code_by (Option Objects × (ℕ × (View × ℕ))) (coded× (coded_option (map.code (coded_list coded_ℕ) (coded_list coded_ℕ))) (coded× coded_ℕ (coded× (map.code kinds (held_code fields)) coded_ℕ)))
    (λ s. (s.objects, (s.faults, (s.view, s.number)))) (λ p. record { objects = p.0; faults = p.1.0; view = p.1.1.0; number = p.1.1.1 }) (λ _. refl)
