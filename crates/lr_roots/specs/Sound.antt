-- Sound views: those of stores in which no key is foreign.
use Rattle.std.specs.Prelude.{◌≡◌, ◌≤◌, ◌+◌, ℕ, List, Option, Some, None, length, ⊤}
use Rattle.std.specs.Int.{w32, from_be_bytes}
use Rattle.std.specs.FinMap as map
use Rattle.lr_manifest.specs.Manifest.{ManifestFields, IsManifest}
use Rattle.lr_origin.specs.Text.{IsKind}
use Rattle.lr_origin.specs.declared.key.KeyKind.{KeyKind}
use Rattle.lr_origin.specs.declared.key.KeyKind.TheVariants.{Root, Expired, Deleted, Chunk, Manifest, Withdrawn}
use Rattle.lr_roots.specs.View.{View, Held, salt, manifest, bare, Has, Lacks}
use Rattle.lr_roots.specs.Roots.{IsLive, IsHomed, IsComplete}
use Rattle.lr_roots.specs.Names.{number_of}

-- the root in which a manifest was made: the first 4 bytes of its nonce, big-endian
abbrev pub maker_of : ManifestFields → ℕ
maker_of m = from_be_bytes w32 m.nonce

-- A manifest was made in a root up to this one, and its creation number is within its limit.
pub record IsNumbered (r : ℕ) (m : ManifestFields) : Type 0 where
  pub first : 1 ≤ maker_of m
  pub own : maker_of m ≤ r
  pub least : 1 ≤ number_of m
  pub most : number_of m ≤ 9223372036854775807

-- What is kept is of the key's kind and within its limits: a salt has 32 bytes, a manifest is numbered.
abbrev pub Suits : KeyKind → Held → Type 0
Suits (Root r) (salt s) = length s ≡ 32
Suits (Manifest r image) (manifest m) = IsManifest m × IsNumbered r m
Suits (Expired r) bare = ⊤
Suits (Deleted r) bare = ⊤
Suits (Chunk r name) bare = ⊤
Suits (Withdrawn image) bare = ⊤
Suits key held = ⊥

-- the root that a key is under, where it is under one
abbrev pub root_of : KeyKind → Option ℕ
root_of (Root r) = Some r
root_of (Expired r) = Some r
root_of (Deleted r) = Some r
root_of (Chunk r name) = Some r
root_of (Manifest r image) = Some r
root_of (Withdrawn image) = None

-- A sound view: every rule of a store's keys holds.
pub record IsSound (v : View) : Type 0 where
  pub keys : (k : KeyKind) → Has v k → IsKind k
  pub fits : (k : KeyKind) (x : Held) → map.get v k ≡ Some x → Suits k x
  -- each root from 1 to that of a key is there
  pub no_gaps : (k : KeyKind) (r q : ℕ) → Has v k → root_of k ≡ Some r → 1 ≤ q → q ≤ r → Has v (Root q)
  pub expired_first : (r : ℕ) → Has v (Deleted r) → Has v (Expired r)
  -- a root after an expired one is there, so the greatest root never expires
  pub never_active : (r : ℕ) → Has v (Expired r) → Has v (Root (r + 1))
  pub one_manifest : (image : List ℕ) (q r : ℕ) (x y : Held) → map.get v (Manifest q image) ≡ Some x → map.get v (Manifest r image) ≡ Some y → x ≡ y
  pub complete : (image : List ℕ) (r : ℕ) (m : ManifestFields) → IsLive v r → map.get v (Manifest r image) ≡ Some (manifest m) → IsComplete v r m
  pub homed : (image : List ℕ) (r : ℕ) → Has v (Manifest r image) → Lacks v (Withdrawn image) → IsHomed v image
