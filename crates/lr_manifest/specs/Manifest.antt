-- A manifest, version 1: what it is, its one spelling, and the first fault of other bytes.
use Rattle.std.specs.Prelude.{◌≡◌, ◌≤◌, ◌<◌, ℕ, ◌+◌, ◌*◌, ◌/◌, Bool, true, false, not, ◌&&◌, ◌||◌, ◌==◌, nat_lt, if◌then◌else◌, List, [], ◌∷◌, ◌++◌, length, take, drop, slice_index, Option, Some, None, codes}
use Rattle.std.specs.Int.{w16, w32, w64, to_be_bytes, from_be_bytes}
use Rattle.std.specs.List.{flat_map, AllByRecursion}
use Rattle.lr_manifest.specs.declared.name.Name.{Name}
use Rattle.lr_manifest.specs.declared.error.ManifestError.{ManifestError}
use Rattle.lr_manifest.specs.declared.error.ManifestError.TheVariants.{Truncated, Magic, Version, Fields, Length, OutOfMemory}

-- what a manifest says
pub record ManifestFields : Type 0 where
  pub raw_len : ℕ  -- bytes of the image
  pub names : List Name
  pub nonce : List ℕ
  pub sealed : List (List ℕ)  -- a sealed key for each name
  pub tag : List ℕ

-- how many chunks of 524288 bytes hold so many raw bytes, which are padded to whole pages of 4096 bytes
abbrev pub chunk_count : ℕ → ℕ
chunk_count raw = ((raw + 4095) / 4096 * 4096 + 524287) / 524288

-- the bytes of a name
abbrev pub name_bytes : Name → List ℕ
name_bytes n = n.bytes

-- a key is its bytes
abbrev pub itself : List ℕ → List ℕ
itself key = key

-- keys of 32 bytes
abbrev pub AreKeys : List (List ℕ) → Type 0
AreKeys keys = AllByRecursion (λ k. length k ≡ 32) keys

-- each field is within its rule
pub record IsManifest (m : ManifestFields) : Type 0 where
  pub raw_len : m.raw_len ≤ 10737418240
  pub count : length m.names ≡ chunk_count m.raw_len
  pub keys : length m.sealed ≡ length m.names
  pub keys32 : AreKeys m.sealed
  pub nonce12 : length m.nonce ≡ 12
  pub tag16 : length m.tag ≡ 16

-- The 24 bytes in front, all numbers big-endian: `LRMF`, version 1, a reserved 0, the raw length, the chunk size,
-- the count of chunks.
abbrev pub head_text : ℕ → ℕ → List ℕ
head_text raw count = codes "LRMF" ++ (to_be_bytes w16 1 ++ (to_be_bytes w16 0 ++ (to_be_bytes w64 raw ++ (to_be_bytes w32 524288 ++ to_be_bytes w32 count))))

-- everything before the nonce, which is sealed as it is
abbrev pub clear_text : ℕ → List Name → List ℕ
clear_text raw names = head_text raw (length names) ++ flat_map name_bytes names

-- the spelling of a manifest: what is clear, the nonce, the sealed keys, the tag
abbrev pub spelling : ManifestFields → List ℕ
spelling m = clear_text m.raw_len m.names ++ (m.nonce ++ (flat_map itself m.sealed ++ m.tag))

-- These bytes are a manifest's spelling, and each of its fields is within its rule.
abbrev pub Spells : List ℕ → ManifestFields → Type 0
Spells bytes m = IsManifest m × (bytes ≡ spelling m)

-- there are fewer bytes than the head has
abbrev pub is_short : List ℕ → Bool
is_short b = nat_lt (length b) 24

-- the first four bytes aren't `LRMF`
abbrev pub lacks_magic : List ℕ → Bool
lacks_magic b = not (slice_index b 0 == 0x4c && (slice_index b 1 == 0x52 && (slice_index b 2 == 0x4d && slice_index b 3 == 0x46)))

-- bytes 4 and 5 aren't 1
abbrev pub is_other_version : List ℕ → Bool
is_other_version b = not (from_be_bytes w16 (drop 4 b) == 1)

-- A field is outside its rule: reserved (bytes 6 and 7), the raw length (from byte 8), the chunk size (from byte
-- 16) or the count (from byte 20).
abbrev pub has_wrong_fields : List ℕ → Bool
has_wrong_fields b =
    not (from_be_bytes w16 (drop 6 b) == 0) || (not (from_be_bytes w32 (drop 16 b) == 524288)
    || (nat_lt 10737418240 (from_be_bytes w64 (drop 8 b)) || not (from_be_bytes w32 (drop 20 b) == chunk_count (from_be_bytes w64 (drop 8 b)))))

-- the bytes aren't as many as the count says
abbrev pub has_other_length : List ℕ → Bool
has_other_length b = not (length b == 52 + 64 * from_be_bytes w32 (drop 20 b))

-- the fault of the first test that applies
abbrev pub first_of : List (Bool × ManifestError) → Option ManifestError
first_of [] = None
first_of ((true, e) ∷ faults) = Some e
first_of ((false, e) ∷ faults) = first_of faults

-- the tests in their order, each with its fault
abbrev pub faults : List ℕ → List (Bool × ManifestError)
faults b = (is_short b, Truncated) ∷ (lacks_magic b, Magic) ∷ (is_other_version b, Version) ∷ (has_wrong_fields b, Fields) ∷ (has_other_length b, Length) ∷ []

-- what is wrong with bytes that spell no manifest
unfoldable pub first_fault : List ℕ → Option ManifestError
first_fault b = first_of (faults b)

-- the error is this fault, or want of memory
abbrev pub Fails : ManifestError → Option ManifestError → Type 0
Fails OutOfMemory fault = Unit {0}
Fails e fault = fault ≡ Some e

-- bytes without a fault, by position
pub record HasNoFault (b : List ℕ) : Type 0 where
  pub long : 24 ≤ length b
  pub magic : take 4 b ≡ codes "LRMF"
  pub version : from_be_bytes w16 (drop 4 b) ≡ 1
  pub reserved : from_be_bytes w16 (drop 6 b) ≡ 0
  pub size : from_be_bytes w32 (drop 16 b) ≡ 524288
  pub raw_len : from_be_bytes w64 (drop 8 b) ≤ 10737418240
  pub count : from_be_bytes w32 (drop 20 b) ≡ chunk_count (from_be_bytes w64 (drop 8 b))
  pub whole : length b ≡ 52 + 64 * from_be_bytes w32 (drop 20 b)
