-- When each call of the depot is done, read from the view, and what it leaves.
use Rattle.std.specs.Prelude.{◌≡◌, ◌≤◌, ◌<◌, ◌+◌, ℕ, List, Option, Some, None, IsTrue}
use Rattle.std.specs.FinMap as map
use Rattle.std.specs.FinMap.{FinMap}
use Rattle.std.specs.Ordering.{nat_cmp}
use Rattle.lr_manifest.specs.Manifest.{ManifestFields, IsManifest}
use Rattle.lr_text.specs.Name.{is_name}
use Rattle.lr_origin.specs.Text.{IsKind}
use Rattle.lr_origin.specs.declared.key.KeyKind.{KeyKind}
use Rattle.lr_origin.specs.declared.key.KeyKind.TheVariants.{Root, Expired, Deleted, Manifest, Withdrawn}
use Rattle.lr_roots.specs.View.{Held, salt, manifest, Has, Lacks}
use Rattle.lr_roots.specs.Roots.{RootsAre, IsLive, IsHome, IsComplete}
use Rattle.lr_roots.specs.Names.{number_of, AreFewer}
use Rattle.lr_roots.specs.Sound.{maker_of, Suits}
use Rattle.lr_rules.specs.Known.{Known, IsItemOf, accepted, doubting}
use Rattle.lr_rules.specs.State.{Job, Creates, Moves, Session, State, Holds, IsRootOf}
use Rattle.lr_rules.specs.Names.{IsImage}

-- a put or deletion that leaves leases and sessions
abbrev pub knows : State → Known → State
knows s k = record { known = k; desk = s.desk }

-- not yet known, and not in doubt
pub record IsNew (s : State) (k : KeyKind) : Type 0 where
  pub absent : Lacks s.known.view k
  pub sure : map.get s.known.doubts k ≡ None

pub record MayRotate (s : State) (n : ℕ) (bytes : List ℕ) : Type 0 where
  pub roots : RootsAre s.known.view n
  pub sure : map.get s.known.doubts (Root (n + 1)) ≡ None
  pub few : n < 1000
  pub suits : Suits (Root (n + 1)) (salt bytes)

-- a chunk's name is that of a key
pub record MayPut (s : State) (n c : ℕ) (j : Job) (k : KeyKind) : Type 0 where
  pub session : Holds s n c j
  pub kind : IsKind k
  pub absent : Lacks s.known.view k

pub record MayMake (s : State) (n c : ℕ) (image : List ℕ) (r d : ℕ) (m : ManifestFields) : Type 0 where
  pub session : Holds s n c (Creates image r d)
  pub kind : IsManifest m
  pub root : maker_of m ≡ r
  pub number : number_of m ≡ d
  pub sure : map.get s.known.doubts (Manifest r image) ≡ None
  pub whole : IsComplete s.known.view r m

pub record MayMove (s : State) (n c : ℕ) (image : List ℕ) (from to : ℕ) (m : ManifestFields) : Type 0 where
  pub session : Holds s n c (Moves image from to m)
  pub home : IsHome s.known.view image from
  pub sure : map.get s.known.doubts (Manifest to image) ≡ None
  pub whole : IsComplete s.known.view to m

pub record MayWithdraw (s : State) (image : List ℕ) : Type 0 where
  pub kept : Lacks s.known.view (Withdrawn image)
  pub listed : (q : ℕ) × IsLive s.known.view q × Has s.known.view (Manifest q image)

pub record MayExpire (s : State) (r : ℕ) : Type 0 where
  pub root : Has s.known.view (Root r)
  pub next : Has s.known.view (Root (r + 1))
  pub live : Lacks s.known.view (Deleted r)
  pub serving : Lacks s.known.view (Expired r)
  pub unserved : (image : List ℕ) → Lacks s.known.view (Withdrawn image) → IsHome s.known.view image r → ⊥
  pub unleased : (n : ℕ) (image : List ℕ) (m : ManifestFields) → map.get s.desk.leases n ≡ Some (image, m) → IsHome s.known.view image r → ⊥
  pub free : (n : ℕ) (j : Session) → map.get s.desk.sessions n ≡ Some j → IsRootOf j.job r → ⊥
  pub sure : (image : List ℕ) → map.get s.known.doubts (Manifest r image) ≡ None

pub record MayDelete (s : State) (r : ℕ) : Type 0 where
  pub root : Has s.known.view (Root r)
  pub expired : Has s.known.view (Expired r)
  pub live : Lacks s.known.view (Deleted r)

pub record MaySweep (s : State) (r : ℕ) (k : KeyKind) (x : Held) : Type 0 where
  pub dead : Has s.known.view (Deleted r)
  pub item : IsItemOf r k
  pub here : map.get s.known.view k ≡ Some x

pub record MaySettle (s : State) (k : KeyKind) (x : Held) : Type 0 where
  pub here : map.get s.known.doubts k ≡ Some x
  pub absent : Lacks s.known.view k

pub record MayOpen (s : State) (image : List ℕ) (r : ℕ) (m : ManifestFields) : Type 0 where
  pub home : IsHome s.known.view image r
  pub kept : Lacks s.known.view (Withdrawn image)
  pub listed : map.get s.known.view (Manifest r image) ≡ Some (manifest m)

pub record MayBegin (s : State) (image : List ℕ) (r : ℕ) : Type 0 where
  pub named : IsTrue (is_name image)
  pub roots : RootsAre s.known.view r
  pub some : 1 ≤ r
  pub new : ¬ (IsImage s image)
  pub few : AreFewer (IsImage s) 1024
  pub left : s.desk.next_number ≤ 9223372036854775807

pub record MayCopy (s : State) (image : List ℕ) (from to : ℕ) (m : ManifestFields) : Type 0 where
  pub home : IsHome s.known.view image from
  pub kept : Lacks s.known.view (Withdrawn image)
  pub listed : map.get s.known.view (Manifest from image) ≡ Some (manifest m)
  pub roots : RootsAre s.known.view to
  pub retired : from < to

-- after each call
abbrev pub opened : State → List ℕ → ManifestFields → State
opened s image m = record { known = s.known; desk = record s.desk { leases = map.insert s.desk.leases s.desk.next_lease (image, m); next_lease = s.desk.next_lease + 1 } }

abbrev pub began : State → ℕ → Job → ℕ → State
began s c j next = record { known = s.known; desk = record s.desk { sessions = map.insert s.desk.sessions s.desk.next_session (record { caller = c; job = j }); next_session = s.desk.next_session + 1; next_number = next } }

-- a session's manifest is acknowledged, and the session ends
abbrev pub made : State → ℕ → List ℕ → ℕ → ManifestFields → State
made s n image r m = record { known = accepted s.known (Manifest r image) (manifest m); desk = record s.desk { sessions = map.remove s.desk.sessions n } }

-- its put failed
abbrev pub making : State → ℕ → List ℕ → ℕ → ManifestFields → State
making s n image r m = record { known = doubting s.known (Manifest r image) (manifest m); desk = record s.desk { makers = map.insert s.desk.makers (Manifest r image) n } }

-- without the session of this number
abbrev pub ended : FinMap nat_cmp Session → Option ℕ → FinMap nat_cmp Session
ended sessions None = sessions
ended sessions (Some n) = map.remove sessions n

-- A settled doubt was there. Of a manifest, the session that made the put ends.
abbrev pub settled_there : State → KeyKind → Held → State
settled_there s (Manifest r image) (manifest m) = record { known = accepted s.known (Manifest r image) (manifest m); desk = record s.desk { sessions = ended s.desk.sessions (map.get s.desk.makers (Manifest r image)) } }
settled_there s k x = knows s (accepted s.known k x)
