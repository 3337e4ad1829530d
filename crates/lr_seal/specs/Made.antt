-- What a manifest that a creation made denotes, over any bodies whose digests are its names.
use Rattle.std.specs.Prelude.{◌≡◌, ℕ, List, map, length, Option, Some}
use Rattle.std.specs.List.{AllByRecursion, Contains}
use Rattle.sha2.specs.Sha256.{sha256}
use Rattle.lr_layout.specs.Padded.{padded}
use Rattle.lr_layout.specs.Chunks.{chunks_of}
use Rattle.lr_manifest.specs.declared.name.Name.{Name}
use Rattle.lr_manifest.specs.Manifest.{ManifestFields, name_bytes}
use Rattle.lr_convergent.specs.Sealed.{sealed_key, sealed_bytes, sealed_name}
use Rattle.lr_seal.specs.Table.{HasTag, key_list}
use Rattle.lr_seal.specs.Denotation.{denotation}

-- Two strings of the list with one digest (SHA-256, FIPS 180-4) are one string.
abbrev pub HaveDistinctDigests : List (List ℕ) → Type 0
HaveDistinctDigests strings = (x y : List ℕ) → Contains strings x → Contains strings y → sha256 x ≡ sha256 y → x ≡ y

-- the sealed chunks of raw bytes under a salt
abbrev pub sealed_chunks : List ℕ → List ℕ → List (List ℕ)
sealed_chunks salt raw = map (sealed_bytes salt) (chunks_of raw)

-- The manifest has the raw length and the names of the sealed chunks, and the tenant's key opens their keys.
pub record IsMadeOf (salt tenant raw : List ℕ) (m : ManifestFields) : Type 0 where
  pub raw_len : m.raw_len ≡ length raw
  pub names : map name_bytes m.names ≡ map (sealed_name salt) (chunks_of raw)
  pub tag : HasTag m tenant
  pub keys : key_list m tenant ≡ map (sealed_key salt) (chunks_of raw)

-- the name has a body, which is one of the strings and has the name as digest
abbrev pub HasBody : List (List ℕ) → (List ℕ → Option (List ℕ)) → Name → Type 0
HasBody strings body name = (b : List ℕ) × (body name.bytes ≡ Some b) × Contains strings b × (sha256 b ≡ name.bytes)

-- ---- laws

-- Over all bodies of its names, a manifest that a creation made denotes the padded raw bytes: the bodies needn't be those that the
-- creation put, where digests tell the strings apart.
abbrev pub MadeManifestsDenote : Type 0
MadeManifestsDenote =
    (salt tenant raw : List ℕ) (m : ManifestFields) (strings : List (List ℕ)) (body : List ℕ → Option (List ℕ))
    → IsMadeOf salt tenant raw m → HaveDistinctDigests strings
    → ((x : List ℕ) → Contains (sealed_chunks salt raw) x → Contains strings x)
    → AllByRecursion (HasBody strings body) m.names
    → denotation m tenant body ≡ Some (padded raw)

-- Over two stores that each have bodies of its names, a manifest denotes the same under each tenant's key.
abbrev pub DenotationsAgree : Type 0
DenotationsAgree =
    (m : ManifestFields) (tenant : List ℕ) (strings : List (List ℕ)) (one two : List ℕ → Option (List ℕ))
    → HaveDistinctDigests strings → AllByRecursion (HasBody strings one) m.names → AllByRecursion (HasBody strings two) m.names
    → denotation m tenant one ≡ denotation m tenant two
