-- What holds of the depot's state after each call, in every way in which its doubts can come out.
use Rattle.std.specs.Prelude.{◌≡◌, ◌≤◌, ◌<◌, ℕ, List, Some, IsSome, IsTrue}
use Rattle.std.specs.FinMap as map
use Rattle.lr_manifest.specs.Manifest.{ManifestFields}
use Rattle.lr_text.specs.Name.{is_name}
use Rattle.lr_origin.specs.declared.key.KeyKind.TheVariants.{Manifest, Withdrawn}
use Rattle.lr_roots.specs.View.{View, Held, manifest, Has, Lacks}
use Rattle.lr_roots.specs.Roots.{IsHomed, IsComplete}
use Rattle.lr_roots.specs.Names.{number_of}
use Rattle.lr_roots.specs.Sound.{IsSound}
use Rattle.lr_rules.specs.Known.{Always, Agrees, Serves}
use Rattle.lr_rules.specs.State.{Job, Creates, Moves, Session, Desk, State, Holds}

-- what a session rests on
abbrev pub Works : View → Job → Type 0
Works v (Creates image r d) = Serves v r × ((q : ℕ) → Has v (Manifest q image) → q ≡ r)
Works v (Moves image from to m) = Serves v from × Serves v to × (map.get v (Manifest from image) ≡ Some (manifest m)) × (from < to)

-- the image of a lease has a home, and each manifest of it is the lease's
abbrev pub IsLeased : View → List ℕ → ManifestFields → Type 0
IsLeased v image m = IsHomed v image × ((q : ℕ) (y : Held) → map.get v (Manifest q image) ≡ Some y → y ≡ manifest m)

-- One way out of the doubts is good: the view is sound, leases and sessions have what they rest on, and every
-- creation number is below the next.
pub record IsGood (d : Desk) (v : View) : Type 0 where
  pub sound : IsSound v
  pub leased : (n : ℕ) (image : List ℕ) (m : ManifestFields) → map.get d.leases n ≡ Some (image, m) → IsLeased v image m
  pub works : (n : ℕ) (j : Session) → map.get d.sessions n ≡ Some j → Works v j.job
  pub numbered : (r : ℕ) (image : List ℕ) (m : ManifestFields) → map.get v (Manifest r image) ≡ Some (manifest m) → number_of m < d.next_number

pub record IsSafe (s : State) : Type 0 where
  pub good : Always s.known (IsGood s.desk)
  pub agrees : Agrees s.known
  -- a manifest in doubt is in a root that serves, and its chunks are known to be there
  pub doubted : (r : ℕ) (image : List ℕ) (m : ManifestFields) → map.get s.known.doubts (Manifest r image) ≡ Some (manifest m) → Lacks s.known.view (Manifest r image) → Always s.known (λ v. Serves v r) × IsComplete s.known.view r m
  -- an image whose withdrawal is in doubt has a manifest that is known to be there
  pub withdrawing : (image : List ℕ) → IsSome (map.get s.known.doubts (Withdrawn image)) → (q : ℕ) × Has s.known.view (Manifest q image)
  -- the image of a creation is well named
  pub named : (n c : ℕ) (image : List ℕ) (r d : ℕ) → Holds s n c (Creates image r d) → IsTrue (is_name image)
  -- the manifest of a creation isn't known to be there
  pub fresh : (n c : ℕ) (image : List ℕ) (r d : ℕ) → Holds s n c (Creates image r d) → Lacks s.known.view (Manifest r image)
  -- two creations have two images
  pub alone : (n m b c : ℕ) (image : List ℕ) (q r d e : ℕ) → Holds s n b (Creates image q d) → Holds s m c (Creates image r e) → n ≡ m
  pub lease_numbers : (n : ℕ) → IsSome (map.get s.desk.leases n) → (1 ≤ n) × (n < s.desk.next_lease)
  pub session_numbers : (n : ℕ) → IsSome (map.get s.desk.sessions n) → (1 ≤ n) × (n < s.desk.next_session)
  pub first_lease : 1 ≤ s.desk.next_lease
  pub first_session : 1 ≤ s.desk.next_session
  pub first_number : 1 ≤ s.desk.next_number
  -- none is left past the greatest creation number
  pub few : s.desk.next_number ≤ 9223372036854775808
  pub drawn : (n c : ℕ) (image : List ℕ) (r d : ℕ) → Holds s n c (Creates image r d) → (1 ≤ d) × (d < s.desk.next_number)
  -- where the manifest of a creation is in doubt, the creation made the put
  pub made : (n c : ℕ) (image : List ℕ) (r d : ℕ) → Holds s n c (Creates image r d) → IsSome (map.get s.known.doubts (Manifest r image)) → map.get s.desk.makers (Manifest r image) ≡ Some n

-- An image that is known by this manifest: where it isn't withdrawn, the view has the manifest in some root.
abbrev pub Keeps : State → List ℕ → ManifestFields → Type 0
Keeps s image m = Lacks s.known.view (Withdrawn image) → (q : ℕ) × (map.get s.known.view (Manifest q image) ≡ Some (manifest m))
