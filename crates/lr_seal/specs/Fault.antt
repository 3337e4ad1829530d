-- Why a table stays sealed.
use Rattle.std.specs.Prelude.{ℕ, List}
use Rattle.lr_manifest.specs.Manifest.{ManifestFields}
use Rattle.lr_seal.specs.Table.{HasTag}
use Rattle.lr_seal.specs.declared.error.UnsealError.{UnsealError}
use Rattle.lr_seal.specs.declared.error.UnsealError.TheVariants.{Sealed, OutOfMemory}

-- the tag is wrong, or memory wanted
abbrev pub Fails : UnsealError → ManifestFields → List ℕ → Type 0
Fails Sealed m tenant = HasTag m tenant → ⊥
Fails OutOfMemory m tenant = Unit {0}
