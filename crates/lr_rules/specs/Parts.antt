-- The parts of the depot's promise, read off the view after each call.
use Rattle.std.specs.Prelude.{◌≡◌, ◌⊎◌, ◌<◌, ℕ, List, Some, IsSome}
use Rattle.std.specs.FinMap as map
use Rattle.lr_manifest.specs.Manifest.{ManifestFields}
use Rattle.lr_origin.specs.declared.key.KeyKind.{KeyKind}
use Rattle.lr_origin.specs.declared.key.KeyKind.TheVariants.{Expired, Deleted, Manifest, Withdrawn}
use Rattle.lr_roots.specs.View.{Held, manifest, Has, Lacks}
use Rattle.lr_roots.specs.Roots.{IsHome, IsHomed, IsComplete}
use Rattle.lr_roots.specs.Names.{number_of}
use Rattle.lr_roots.specs.Sound.{IsSound}
use Rattle.lr_rules.specs.Known.{Serves, IsItemOf}
use Rattle.lr_rules.specs.State.{Creates, Session, State, Holds, IsRootOf}

-- An image is owed where it isn't withdrawn and some root has a manifest of it, or where it has a lease.
abbrev pub IsOwedInView : State → List ℕ → Type 0
IsOwedInView s image =
    (Lacks s.known.view (Withdrawn image) × ((q : ℕ) × Has s.known.view (Manifest q image)))
    ⊎ ((n : ℕ) × (m : ManifestFields) × (map.get s.desk.leases n ≡ Some (image, m)))

-- A root that a put may yet expire is free: no session rests on it, no manifest of it is in doubt, no owed image has
-- its home there.
pub record IsFree (s : State) (r : ℕ) : Type 0 where
  pub unused : (n : ℕ) (j : Session) → map.get s.desk.sessions n ≡ Some j → IsRootOf j.job r → ⊥
  pub sure : (image : List ℕ) → IsSome (map.get s.known.doubts (Manifest r image)) → Lacks s.known.view (Manifest r image) → ⊥
  pub unowed : (image : List ℕ) → IsOwedInView s image → IsHome s.known.view image r → ⊥

pub record HasParts (s : State) : Type 0 where
  pub sound : IsSound s.known.view
  pub homed : (image : List ℕ) → IsOwedInView s image → IsHomed s.known.view image
  -- a session rests on active or retired roots
  pub sessions : (n : ℕ) (j : Session) (r : ℕ) → map.get s.desk.sessions n ≡ Some j → IsRootOf j.job r → Serves s.known.view r
  -- a manifest in doubt is in an active or retired root, and its chunks are there
  pub manifests : (r : ℕ) (image : List ℕ) (m : ManifestFields) → map.get s.known.doubts (Manifest r image) ≡ Some (manifest m) → Lacks s.known.view (Manifest r image) → Serves s.known.view r × IsComplete s.known.view r m
  pub expiring : (r : ℕ) → IsSome (map.get s.known.doubts (Expired r)) → IsFree s r
  -- a deletion in doubt is of a deleted root
  pub deletions : (k : KeyKind) → IsSome (map.get s.known.doubts k) → Has s.known.view k → (r : ℕ) × IsItemOf r k × Has s.known.view (Deleted r)
  -- the manifests of one image are equal, in the view and in doubt
  pub equal : (image : List ℕ) (q r : ℕ) (x y : Held) → (map.get s.known.view (Manifest q image) ≡ Some x) ⊎ (map.get s.known.doubts (Manifest q image) ≡ Some x) → (map.get s.known.view (Manifest r image) ≡ Some y) ⊎ (map.get s.known.doubts (Manifest r image) ≡ Some y) → x ≡ y
  -- every creation number, in the view and in doubt, is below the next
  pub numbers : (r : ℕ) (image : List ℕ) (m : ManifestFields) → (map.get s.known.view (Manifest r image) ≡ Some (manifest m)) ⊎ (map.get s.known.doubts (Manifest r image) ≡ Some (manifest m)) → number_of m < s.desk.next_number
  -- and so is every one drawn
  pub drawn : (n c : ℕ) (image : List ℕ) (r d : ℕ) → Holds s n c (Creates image r d) → d < s.desk.next_number
