-- Chunks, seen as their bytes.
use Rattle.std.specs.Prelude.{ℕ, List, Bool}
use Rattle.std.specs.Str.{bytes_eq}
use Rattle.sha2.specs.Sha256.{sha256}
use Rattle.lr_manifest.specs.declared.name.Name.{Name}

-- whether this is the name of these bytes: their SHA-256 (FIPS 180-4)
abbrev pub is_named : Name → List ℕ → Bool
is_named name chunk = bytes_eq (sha256 chunk) name.bytes
