-- The depot's state: what it knows of the store, the leases and the sessions.
use Rattle.std.specs.Prelude.{◌≡◌, ◌⊎◌, ℕ, List, Some}
use Rattle.std.specs.Ordering.{nat_cmp}
use Rattle.std.specs.FinMap as map
use Rattle.std.specs.FinMap.{FinMap}
use Rattle.lr_manifest.specs.Manifest.{ManifestFields}
use Rattle.lr_origin.specs.Kind.{kind_cmp}
use Rattle.lr_rules.specs.Known.{Known}

-- What a session is for.
pub data Job : Type 0 where
  -- the image, the root, the creation number
  Creates : List ℕ → ℕ → ℕ → Job
  -- the image, the root that it moves from, the root that it moves to, its manifest
  Moves : List ℕ → ℕ → ℕ → ManifestFields → Job

pub record Session : Type 0 where
  pub caller : ℕ
  pub job : Job

-- the leases and sessions that are out, and the numbers that come next
pub record Desk : Type 0 where
  -- the image and the manifest of each lease
  pub leases : FinMap nat_cmp (List ℕ × ManifestFields)
  pub sessions : FinMap nat_cmp Session
  -- for a manifest in doubt, the session that made the put
  pub makers : FinMap kind_cmp ℕ
  pub next_lease : ℕ
  pub next_session : ℕ
  pub next_number : ℕ

pub record State : Type 0 where
  pub known : Known
  pub desk : Desk

-- the caller has this session, and it is for this job
abbrev pub Holds : State → ℕ → ℕ → Job → Type 0
Holds s n c j = map.get s.desk.sessions n ≡ Some (record { caller = c; job = j })

-- the root into which a session puts
abbrev pub target : Job → ℕ
target (Creates image r d) = r
target (Moves image from to m) = to

-- the session rests on the root
abbrev pub IsRootOf : Job → ℕ → Type 0
IsRootOf (Creates image q d) r = q ≡ r
IsRootOf (Moves image from to m) r = (from ≡ r) ⊎ (to ≡ r)

-- Sessions and leases may have ended; everything else is as it was.
pub record Less (d e : Desk) : Type 0 where
  pub leases : (n : ℕ) (l : List ℕ × ManifestFields) → map.get e.leases n ≡ Some l → map.get d.leases n ≡ Some l
  pub sessions : (n : ℕ) (j : Session) → map.get e.sessions n ≡ Some j → map.get d.sessions n ≡ Some j
  pub makers : e.makers ≡ d.makers
  pub next_lease : e.next_lease ≡ d.next_lease
  pub next_session : e.next_session ≡ d.next_session
  pub next_number : e.next_number ≡ d.next_number
