-- The depot machine: what each call answers, one line a reply, and what it leaves of the state.
use Rattle.std.specs.Prelude.{◌≡◌, ◌≢◌, ◌⊎◌, ◌≤◌, ◌<◌, ◌+◌, ℕ, List, Bool, true, false, Option, Some, None, IsSome, fold, length, slice_get, ⊤}
use Rattle.std.specs.Arc.{arc_value}
use Rattle.std.specs.FinMap as map
use Rattle.sha2.specs.Sha256.{sha256}
use Rattle.lr_manifest.specs.Manifest.{ManifestFields}
use Rattle.lr_manifest.specs.declared.name.Name.{Name}
use Rattle.lr_origin.specs.declared.key.KeyKind.{KeyKind}
use Rattle.lr_origin.specs.declared.key.KeyKind.TheVariants as kind
use Rattle.std.specs.declared.cmp.Ordering.TheVariants.{Less}
use Rattle.lr_origin.specs.Objects.{key_cmp}
use Rattle.lr_roots.specs.View.{View, Held, salt, bare, Has, Lacks}
use Rattle.lr_roots.specs.declared.state.RootState.TheVariants as root
use Rattle.lr_roots.specs.Roots.{IsTop, IsHome, IsHomeless, IsMissing, IsRootState}
use Rattle.lr_roots.specs.Names.{number_of, IsNamed, IsFirst, IsManifestOf, IsOneOf, AreApart}
use Rattle.lr_roots.specs.Sound.{maker_of}
use Rattle.lr_rules.specs.Known.{IsItemOf, accepted, doubting, removed, dismissed}
use Rattle.lr_rules.specs.State.{Job, Creates, Moves, Session, State, Holds, IsRootOf, target}
use Rattle.lr_rules.specs.Names.{IsBegun, IsImage}
use Rattle.lr_rules.specs.Parts.{IsOwedInView}
use Rattle.lr_rules.specs.Calls.{knows, MayRotate, MayMake, MayMove, MayWithdraw, MayExpire, MayDelete, MaySweep, MaySettle, MayOpen, MayBegin, MayCopy, opened, began, made, making, settled_there}
use Rattle.lr_object.specs.declared.entry.Entry.{Entry}
use Rattle.lr_depot.specs.declared.call.DepotCall.{DepotCall}
use Rattle.lr_depot.specs.declared.call.DepotCall.TheVariants.{OpenImage, Fetch, Close, BeginCreate, PutChunk, PutManifest, Abandon, Rotate, BeginMigrate, CopyRead, FinishMigrate, Withdraw, Expire, Delete, Sweep, Settle, Reap}
use Rattle.lr_depot.specs.declared.call.DepotNoted.{DepotNoted}
use Rattle.lr_depot.specs.declared.call.DepotNoted.TheVariants as noted
use Rattle.lr_depot.specs.declared.call.DepotReply.{DepotReply}
use Rattle.lr_depot.specs.declared.call.DepotReply.TheVariants.{NoImage, Opened, NoLease, NoChunk, Fetched, Closed, NoRoot, Taken, Doubt, Full, Began, NoSession, Kept, Nonce, Missing, Made, Abandoned, RootsEnd, Rotated, NotRetiredHome, Moving, Copied, Overtaken, Moved, Withdrawn, NotRetired, Serves, Expired, NotExpired, Deleted, NotDeleted, Removed, Swept, NoDoubt, There, Absent, Reaped, Nothing, Fault, Spoiled, OutOfMemory}
use Rattle.lr_depot.specs.declared.call.DepotReply.TheVariants as by
use Rattle.lr_depot.specs.declared.call.DepotTold.{DepotTold}
use Rattle.lr_depot.specs.declared.call.DepotTold.TheVariants as told
use Rattle.lr_depot.specs.Doubts.{IsManifestOfImage}
use Rattle.lr_depot.specs.Sessions.{without_caller}

-- No live root has a manifest of the image, or it is withdrawn.
abbrev pub IsUnopened : View → List ℕ → Type 0
IsUnopened v image = IsHomeless v image ⊎ Has v (kind.Withdrawn image)

-- the lease is out, and the name at the index of its manifest is that of a chunk of its image's home
pub record IsFetch (s : State) (lease index : ℕ) (k : KeyKind) : Type 0 where
  pub image : List ℕ
  pub manifest : ManifestFields
  pub home : ℕ
  pub name : Name
  pub out : map.get s.desk.leases lease ≡ Some (image, manifest)
  pub named : slice_get manifest.names index ≡ Some name
  pub homed : IsHome s.known.view image home
  pub key : k ≡ kind.Chunk home name.bytes

-- some root is there, and the image isn't taken
pub record IsOpen (s : State) (image : List ℕ) : Type 0 where
  pub root : (r : ℕ) × (1 ≤ r) × IsTop s.known.view r
  pub free : ¬ (IsNamed s.known.view image ⊎ IsBegun s image)

-- a manifest of the image, whose put is in doubt
abbrev pub IsUnsureKey : State → List ℕ → KeyKind → Type 0
IsUnsureKey s image k = Has s.known.doubts k × IsManifestOfImage image k

-- So many images there are at least.
abbrev pub HasImages : State → ℕ → Type 0
HasImages s least = (some : List (List ℕ)) × ((x : List ℕ) → IsOneOf some x → IsImage s x) × AreApart some × (least ≤ length some)

-- the caller has no session of this number
abbrev pub HasNone : State → ℕ → ℕ → Type 0
HasNone s n c = (j : Job) → ¬ (Holds s n c j)

-- the key of a chunk that the session puts
abbrev pub IsPut : State → ℕ → ℕ → List ℕ → KeyKind → Type 0
IsPut s n c chunk k = (j : Job) × Holds s n c j × (k ≡ kind.Chunk (target j) (sha256 chunk))

-- the session is a creation whose root and number the manifest's nonce has
pub record IsMaking (s : State) (n c : ℕ) (m : ManifestFields) (image : List ℕ) (r : ℕ) : Type 0 where
  pub number : ℕ
  pub session : Holds s n c (Creates image r number)
  pub root : maker_of m ≡ r
  pub drawn : number_of m ≡ number

-- the session is a creation, and the manifest's nonce has another root or number
pub record IsOtherNonce (s : State) (n c : ℕ) (m : ManifestFields) : Type 0 where
  pub image : List ℕ
  pub root : ℕ
  pub number : ℕ
  pub session : Holds s n c (Creates image root number)
  pub other : ¬ ((maker_of m ≡ root) × (number_of m ≡ number))

-- the session is no creation of the caller
abbrev pub HasNoCreation : State → ℕ → ℕ → Type 0
HasNoCreation s n c = (image : List ℕ) (r d : ℕ) → ¬ (Holds s n c (Creates image r d))

-- the session is no move of the caller
abbrev pub HasNoMove : State → ℕ → ℕ → Type 0
HasNoMove s n c = (image : List ℕ) (from to : ℕ) (m : ManifestFields) → ¬ (Holds s n c (Moves image from to m))

-- the session is a move, and the name at the index of its manifest is that of a chunk of the root that it copies from
pub record IsCopy (s : State) (n c index : ℕ) (k : KeyKind) : Type 0 where
  pub image : List ℕ
  pub from : ℕ
  pub to : ℕ
  pub manifest : ManifestFields
  pub name : Name
  pub session : Holds s n c (Moves image from to manifest)
  pub named : slice_get manifest.names index ≡ Some name
  pub key : k ≡ kind.Chunk from name.bytes

-- the session is a move whose image still has its home where it copies from
pub record IsMove (s : State) (n c : ℕ) (image : List ℕ) (from to : ℕ) (m : ManifestFields) : Type 0 where
  pub session : Holds s n c (Moves image from to m)
  pub home : IsHome s.known.view image from

-- the session is a move whose image has another home than the root that it copies from
pub record IsOvertaken (s : State) (n c home : ℕ) : Type 0 where
  pub image : List ℕ
  pub from : ℕ
  pub to : ℕ
  pub manifest : ManifestFields
  pub session : Holds s n c (Moves image from to manifest)
  pub homed : IsHome s.known.view image home
  pub other : home ≢ from

-- a retired root
abbrev pub IsRetired : State → ℕ → Type 0
IsRetired s r = IsRootState s.known.view r (Some root.Retired)

-- an expired root
abbrev pub IsExpired : State → ℕ → Type 0
IsExpired s r = IsRootState s.known.view r (Some root.Expired)

-- a deleted root
abbrev pub IsDeleted : State → ℕ → Type 0
IsDeleted s r = IsRootState s.known.view r (Some root.Deleted)

-- the image is owed, and the root is its home
abbrev pub IsOwedAt : State → ℕ → List ℕ → Type 0
IsOwedAt s r image = IsOwedInView s image × IsHome s.known.view image r

-- The first name that passes, in byte order, or none where no name does.
abbrev pub IsFirstName : (List ℕ → Type 0) → Option (List ℕ) → Type 0
IsFirstName P None = (q : List ℕ) → ¬ (P q)
IsFirstName P (Some image) = P image × ((q : List ℕ) → key_cmp q image ≡ Less → ¬ (P q))

-- the session of this number rests on the root
abbrev pub IsUser : State → ℕ → ℕ → Type 0
IsUser s r n = (j : Session) × (map.get s.desk.sessions n ≡ Some j) × IsRootOf j.job r

-- The least number that passes, or none where no number does.
abbrev pub IsLeast : (ℕ → Type 0) → Option ℕ → Type 0
IsLeast P None = (n : ℕ) → ¬ (P n)
IsLeast P (Some n) = P n × ((q : ℕ) → q < n → ¬ (P q))

-- a manifest in the root whose put is in doubt
abbrev pub IsUnsureIn : State → ℕ → KeyKind → Type 0
IsUnsureIn s r k = Has s.known.doubts k × IsManifestOf r k

-- the root is retired, and no owed image has its home there
pub record IsUnowed (s : State) (r : ℕ) : Type 0 where
  pub retired : IsRetired s r
  pub unowed : IsFirstName (IsOwedAt s r) None

-- and no session rests on it
pub record IsUnused (s : State) (r : ℕ) : Type 0 where
  pub unowed : IsUnowed s r
  pub unused : IsLeast (IsUser s r) None

-- a chunk or manifest key of the root
abbrev pub IsItemIn : State → ℕ → KeyKind → Type 0
IsItemIn s r k = Has s.known.view k × IsItemOf r k

-- the least chunk or manifest key of a deleted root
pub record IsNextItem (s : State) (r : ℕ) (k : KeyKind) : Type 0 where
  pub held : Held
  pub may : MaySweep s r k held
  pub least : IsFirst (IsItemIn s r) (Some k)

-- the put of the key is in doubt
abbrev pub IsPutInDoubt : State → KeyKind → Type 0
IsPutInDoubt s k = (x : Held) × MaySettle s k x

-- The depot, in this state, gives this reply to this call. Want of memory is free, but of a call that takes none.
abbrev pub DepotStep : State → ℕ → DepotCall → DepotReply → Type 0
DepotStep s c (OpenImage image) NoImage = IsUnopened s.known.view image
DepotStep s c (OpenImage image) (Opened lease m) = (r : ℕ) × MayOpen s image r (arc_value m) × (lease ≡ s.desk.next_lease)
DepotStep s c (OpenImage image) OutOfMemory = ⊤
DepotStep s c (Fetch lease index) NoLease = map.get s.desk.leases lease ≡ None
DepotStep s c (Fetch lease index) NoChunk =
    (image : List ℕ) × (m : ManifestFields) × (map.get s.desk.leases lease ≡ Some (image, m)) × (slice_get m.names index ≡ None)
DepotStep s c (Fetch lease index) (Fetched chunk) = (r : ℕ) × IsFetch s lease index (kind.Chunk r (sha256 (arc_value chunk)))
DepotStep s c (Fetch lease index) (Fault k) = IsFetch s lease index k
DepotStep s c (Fetch lease index) (Spoiled k) = IsFetch s lease index k
DepotStep s c (Fetch lease index) OutOfMemory = ⊤
DepotStep s c (Close lease) NoLease = map.get s.desk.leases lease ≡ None
DepotStep s c (Close lease) Closed = IsSome (map.get s.desk.leases lease)
DepotStep s c (Close lease) OutOfMemory = map.get s.desk.leases lease ≡ None
DepotStep s c (BeginCreate image) NoRoot = IsTop s.known.view 0
DepotStep s c (BeginCreate image) Taken =
    ((r : ℕ) × (1 ≤ r) × IsTop s.known.view r) × (IsNamed s.known.view image ⊎ IsBegun s image)
DepotStep s c (BeginCreate image) (Doubt k) = IsOpen s image × IsFirst (IsUnsureKey s image) (Some k)
DepotStep s c (BeginCreate image) Full =
    IsOpen s image × IsFirst (IsUnsureKey s image) None × (HasImages s 1024 ⊎ (9223372036854775807 < s.desk.next_number))
DepotStep s c (BeginCreate image) (Began session root bytes number) =
    MayBegin s image root × (session ≡ s.desk.next_session) × (number ≡ s.desk.next_number)
    × (map.get s.known.view (kind.Root root) ≡ Some (salt bytes))
DepotStep s c (BeginCreate image) OutOfMemory = ⊤
DepotStep s c (PutChunk n chunk) NoSession = HasNone s n c
DepotStep s c (PutChunk n chunk) Kept = (j : Job) × Holds s n c j
DepotStep s c (PutChunk n chunk) (Fault k) = IsPut s n c (arc_value chunk) k × Lacks s.known.view k
DepotStep s c (PutChunk n chunk) (Spoiled k) = IsPut s n c (arc_value chunk) k × Lacks s.known.view k × Lacks s.known.doubts k
DepotStep s c (PutChunk n chunk) OutOfMemory = ⊤
DepotStep s c (PutManifest n m) NoSession = HasNoCreation s n c
DepotStep s c (PutManifest n m) Nonce = IsOtherNonce s n c (arc_value m)
DepotStep s c (PutManifest n m) (Doubt k) =
    (image : List ℕ) × (r : ℕ) × IsMaking s n c (arc_value m) image r × (k ≡ kind.Manifest r image) × Has s.known.doubts k
DepotStep s c (PutManifest n m) (Missing i) =
    (image : List ℕ) × (r : ℕ) × IsMaking s n c (arc_value m) image r × Lacks s.known.doubts (kind.Manifest r image)
    × IsMissing s.known.view r (arc_value m).names i
DepotStep s c (PutManifest n m) (Made r) = (image : List ℕ) × (d : ℕ) × MayMake s n c image r d (arc_value m)
DepotStep s c (PutManifest n m) (Fault k) =
    (image : List ℕ) × (r : ℕ) × (d : ℕ) × MayMake s n c image r d (arc_value m) × (k ≡ kind.Manifest r image)
DepotStep s c (PutManifest n m) (Spoiled k) =
    (image : List ℕ) × (r : ℕ) × (d : ℕ) × MayMake s n c image r d (arc_value m) × (k ≡ kind.Manifest r image)
DepotStep s c (PutManifest n m) OutOfMemory = ⊤
DepotStep s c (Abandon n) NoSession = HasNone s n c
DepotStep s c (Abandon n) Abandoned = (j : Job) × Holds s n c j
DepotStep s c (Abandon n) OutOfMemory = HasNone s n c
DepotStep s c (Rotate bytes) (Doubt k) = (n : ℕ) × IsTop s.known.view n × (k ≡ kind.Root (n + 1)) × Has s.known.doubts k
DepotStep s c (Rotate bytes) RootsEnd = (n : ℕ) × IsTop s.known.view n × Lacks s.known.doubts (kind.Root (n + 1)) × (1000 ≤ n)
DepotStep s c (Rotate bytes) (Rotated r) = (n : ℕ) × MayRotate s n bytes × (r ≡ n + 1)
DepotStep s c (Rotate bytes) (Fault k) = (n : ℕ) × MayRotate s n bytes × (k ≡ kind.Root (n + 1))
DepotStep s c (Rotate bytes) (Spoiled k) = (n : ℕ) × MayRotate s n bytes × (k ≡ kind.Root (n + 1))
DepotStep s c (Rotate bytes) OutOfMemory = ⊤
DepotStep s c (BeginMigrate image) NoImage = IsUnopened s.known.view image
DepotStep s c (BeginMigrate image) (NotRetiredHome home) =
    Lacks s.known.view (kind.Withdrawn image) × IsHome s.known.view image home × IsRootState s.known.view home (Some root.Active)
DepotStep s c (BeginMigrate image) (Moving session from to m) = MayCopy s image from to (arc_value m) × (session ≡ s.desk.next_session)
DepotStep s c (BeginMigrate image) OutOfMemory = ⊤
DepotStep s c (CopyRead n index) NoSession = HasNoMove s n c
DepotStep s c (CopyRead n index) NoChunk =
    (image : List ℕ) × (from : ℕ) × (to : ℕ) × (m : ManifestFields) × Holds s n c (Moves image from to m) × (slice_get m.names index ≡ None)
DepotStep s c (CopyRead n index) (Copied chunk) = (r : ℕ) × IsCopy s n c index (kind.Chunk r (sha256 (arc_value chunk)))
DepotStep s c (CopyRead n index) (Fault k) = IsCopy s n c index k
DepotStep s c (CopyRead n index) (Spoiled k) = IsCopy s n c index k
DepotStep s c (CopyRead n index) OutOfMemory = ⊤
DepotStep s c (FinishMigrate n) NoSession = HasNoMove s n c
DepotStep s c (FinishMigrate n) (Overtaken home) = IsOvertaken s n c home
DepotStep s c (FinishMigrate n) (Doubt k) =
    (image : List ℕ) × (from : ℕ) × (to : ℕ) × (m : ManifestFields) × IsMove s n c image from to m × (k ≡ kind.Manifest to image) × Has s.known.doubts k
DepotStep s c (FinishMigrate n) (Missing i) =
    (image : List ℕ) × (from : ℕ) × (to : ℕ) × (m : ManifestFields) × IsMove s n c image from to m × Lacks s.known.doubts (kind.Manifest to image)
    × IsMissing s.known.view to m.names i
DepotStep s c (FinishMigrate n) (Moved from to) = (image : List ℕ) × (m : ManifestFields) × MayMove s n c image from to m
DepotStep s c (FinishMigrate n) (Fault k) =
    (image : List ℕ) × (from : ℕ) × (to : ℕ) × (m : ManifestFields) × MayMove s n c image from to m × (k ≡ kind.Manifest to image)
DepotStep s c (FinishMigrate n) (Spoiled k) =
    (image : List ℕ) × (from : ℕ) × (to : ℕ) × (m : ManifestFields) × MayMove s n c image from to m × (k ≡ kind.Manifest to image)
DepotStep s c (FinishMigrate n) OutOfMemory = ⊤
DepotStep s c (Withdraw image) NoImage = IsUnopened s.known.view image
DepotStep s c (Withdraw image) Withdrawn = MayWithdraw s image
DepotStep s c (Withdraw image) (Fault k) = MayWithdraw s image × (k ≡ kind.Withdrawn image)
DepotStep s c (Withdraw image) (Spoiled k) = MayWithdraw s image × (k ≡ kind.Withdrawn image) × Lacks s.known.doubts k
DepotStep s c (Withdraw image) OutOfMemory = ⊤
DepotStep s c (Expire r) NotRetired = ¬ (IsRetired s r)
DepotStep s c (Expire r) (Serves image) = IsRetired s r × IsFirstName (IsOwedAt s r) (Some image)
DepotStep s c (Expire r) (by.Session n) = IsUnowed s r × IsLeast (IsUser s r) (Some n)
DepotStep s c (Expire r) (Doubt k) = IsUnused s r × IsFirst (IsUnsureIn s r) (Some k)
DepotStep s c (Expire r) Expired = MayExpire s r
DepotStep s c (Expire r) (Fault k) = MayExpire s r × (k ≡ kind.Expired r)
DepotStep s c (Expire r) (Spoiled k) = MayExpire s r × (k ≡ kind.Expired r) × Lacks s.known.doubts k
DepotStep s c (Expire r) OutOfMemory = ⊤
DepotStep s c (Delete r) NotExpired = ¬ (IsExpired s r)
DepotStep s c (Delete r) Deleted = MayDelete s r
DepotStep s c (Delete r) (Fault k) = MayDelete s r × (k ≡ kind.Deleted r)
DepotStep s c (Delete r) (Spoiled k) = MayDelete s r × (k ≡ kind.Deleted r) × Lacks s.known.doubts k
DepotStep s c (Delete r) OutOfMemory = ⊤
DepotStep s c (Sweep r) NotDeleted = ¬ (IsDeleted s r)
DepotStep s c (Sweep r) (Removed k) = IsNextItem s r k
DepotStep s c (Sweep r) (Fault k) = IsNextItem s r k
DepotStep s c (Sweep r) Swept = IsDeleted s r × IsFirst (IsItemIn s r) None
DepotStep s c (Sweep r) OutOfMemory = ⊤
DepotStep s c (Settle k) NoDoubt = ¬ (IsPutInDoubt s k)
DepotStep s c (Settle k) There = IsPutInDoubt s k
DepotStep s c (Settle k) Absent = IsPutInDoubt s k
DepotStep s c (Settle k) (Fault q) = IsPutInDoubt s k × (q ≡ k)
DepotStep s c (Settle k) (Spoiled q) = IsPutInDoubt s k × (q ≡ k)
DepotStep s c (Settle k) OutOfMemory = ⊤
DepotStep s c Reap Reaped = (n : ℕ) × (j : Session) × (map.get s.desk.sessions n ≡ Some j) × (j.caller ≡ c)
DepotStep s c Reap Nothing = (n : ℕ) (j : Session) → map.get s.desk.sessions n ≡ Some j → j.caller ≢ c
DepotStep s c call reply = ⊥

-- the state, or another where nothing is kept yet
abbrev unless_kept : Option Held → State → State → State
unless_kept (Some x) s t = s
unless_kept None s t = t

-- after a chunk of a session was put; one that the view has stays as it is
abbrev chunk_put : State → Option Session → List ℕ → State
chunk_put s None name = s
chunk_put s (Some session) name =
    unless_kept (map.get s.known.view (kind.Chunk (target session.job) name)) s (knows s (accepted s.known (kind.Chunk (target session.job) name) bare))

-- after the manifest of a session for this job was put
abbrev job_made : State → ℕ → Job → ManifestFields → State
job_made s n (Creates image r d) m = made s n image r m
job_made s n job m = s

-- after the manifest of a session was put
abbrev pub manifest_put : State → ℕ → Option Session → ManifestFields → State
manifest_put s n None m = s
manifest_put s n (Some session) m = job_made s n session.job m

-- after a put of a manifest failed
abbrev manifest_doubted : State → ℕ → KeyKind → ManifestFields → State
manifest_doubted s n (kind.Manifest r image) m = making s n image r m
manifest_doubted s n k m = s

-- after the manifest of a session for this job was copied
abbrev job_moved : State → ℕ → Job → State
job_moved s n (Moves image from to m) = made s n image to m
job_moved s n job = s

-- after the manifest of a session was copied
abbrev pub manifest_moved : State → ℕ → Option Session → State
manifest_moved s n None = s
manifest_moved s n (Some session) = job_moved s n session.job

-- after the put of a copied manifest failed
abbrev job_doubted : State → ℕ → Job → State
job_doubted s n (Moves image from to m) = making s n image to m
job_doubted s n job = s

abbrev pub move_doubted : State → ℕ → Option Session → State
move_doubted s n None = s
move_doubted s n (Some session) = job_doubted s n session.job

-- after a deletion failed
abbrev pub deletion_doubted : State → KeyKind → Option Held → State
deletion_doubted s k None = s
deletion_doubted s k (Some x) = knows s (doubting s.known k x)

-- after what was put of a key in doubt was found there
abbrev pub found_there : State → KeyKind → Option Held → State
found_there s k None = s
found_there s k (Some x) = settled_there s k x

-- what a call with this reply leaves
abbrev pub state_after : State → ℕ → DepotNoted → DepotTold → State
state_after s c (noted.OpenImage image) (told.Opened lease m) = opened s image (arc_value m)
state_after s c (noted.Close lease) told.Closed = record { known = s.known; desk = record s.desk { leases = map.remove s.desk.leases lease } }
state_after s c (noted.BeginCreate image) (told.Began session root bytes number) = began s c (Creates image root number) (number + 1)
state_after s c (noted.PutChunk n name) told.Kept = chunk_put s (map.get s.desk.sessions n) name.bytes
state_after s c (noted.PutChunk n name) (told.Fault k) = knows s (doubting s.known k bare)
state_after s c (noted.PutManifest n m) (told.Made r) = manifest_put s n (map.get s.desk.sessions n) (arc_value m)
state_after s c (noted.PutManifest n m) (told.Fault k) = manifest_doubted s n k (arc_value m)
state_after s c (noted.Abandon n) told.Abandoned = record { known = s.known; desk = record s.desk { sessions = map.remove s.desk.sessions n } }
state_after s c (noted.Rotate bytes) (told.Rotated r) = knows s (accepted s.known (kind.Root r) (salt bytes))
state_after s c (noted.Rotate bytes) (told.Fault k) = knows s (doubting s.known k (salt bytes))
state_after s c (noted.BeginMigrate image) (told.Moving session from to m) = began s c (Moves image from to (arc_value m)) s.desk.next_number
state_after s c (noted.FinishMigrate n) (told.Moved from to) = manifest_moved s n (map.get s.desk.sessions n)
state_after s c (noted.FinishMigrate n) (told.Fault k) = move_doubted s n (map.get s.desk.sessions n)
state_after s c (noted.Withdraw image) told.Withdrawn = knows s (accepted s.known (kind.Withdrawn image) bare)
state_after s c (noted.Withdraw image) (told.Fault k) = knows s (doubting s.known k bare)
state_after s c (noted.Expire r) told.Expired = knows s (accepted s.known (kind.Expired r) bare)
state_after s c (noted.Expire r) (told.Fault k) = knows s (doubting s.known k bare)
state_after s c (noted.Delete r) told.Deleted = knows s (accepted s.known (kind.Deleted r) bare)
state_after s c (noted.Delete r) (told.Fault k) = knows s (doubting s.known k bare)
state_after s c (noted.Sweep r) (told.Removed k) = knows s (removed s.known k)
state_after s c (noted.Sweep r) (told.Fault k) = deletion_doubted s k (map.get s.known.view k)
state_after s c (noted.Settle k) told.There = found_there s k (map.get s.known.doubts k)
state_after s c (noted.Settle k) told.Absent = knows s (dismissed s.known k)
state_after s c noted.Reap told.Reaped = record { known = s.known; desk = record s.desk { sessions = without_caller c s.desk.sessions } }
state_after s c call reply = s

-- a line of a depot's log
abbrev pub LogEntry : Type 0
LogEntry = Entry DepotNoted DepotTold

abbrev pub after_entry : State → LogEntry → State
after_entry s e = state_after s e.caller e.call e.reply

-- the state after a log
abbrev pub run : State → List LogEntry → State
run s log = fold after_entry s log

-- whether the log keeps a reply
abbrev pub is_logged : DepotReply → Bool
is_logged Nothing = false
is_logged OutOfMemory = false
is_logged reply = true

-- What the log keeps of a call: of a chunk, its name.
abbrev pub IsNoted : DepotCall → DepotNoted → Type 0
IsNoted (OpenImage image) e = e ≡ noted.OpenImage image
IsNoted (Fetch lease index) e = e ≡ noted.Fetch lease index
IsNoted (Close lease) e = e ≡ noted.Close lease
IsNoted (BeginCreate image) e = e ≡ noted.BeginCreate image
IsNoted (PutChunk n chunk) (noted.PutChunk k name) = (k ≡ n) × (name.bytes ≡ sha256 (arc_value chunk))
IsNoted (PutManifest n m) (noted.PutManifest k other) = (k ≡ n) × (arc_value other ≡ arc_value m)
IsNoted (Abandon n) e = e ≡ noted.Abandon n
IsNoted (Rotate bytes) e = e ≡ noted.Rotate bytes
IsNoted (BeginMigrate image) e = e ≡ noted.BeginMigrate image
IsNoted (CopyRead n index) e = e ≡ noted.CopyRead n index
IsNoted (FinishMigrate n) e = e ≡ noted.FinishMigrate n
IsNoted (Withdraw image) e = e ≡ noted.Withdraw image
IsNoted (Expire r) e = e ≡ noted.Expire r
IsNoted (Delete r) e = e ≡ noted.Delete r
IsNoted (Sweep r) e = e ≡ noted.Sweep r
IsNoted (Settle k) e = e ≡ noted.Settle k
IsNoted Reap e = e ≡ noted.Reap
IsNoted call e = ⊥

-- What the log keeps of a reply: of a chunk, its name.
abbrev pub IsTold : DepotReply → DepotTold → Type 0
IsTold NoImage e = e ≡ told.NoImage
IsTold (Opened lease m) (told.Opened other n) = (other ≡ lease) × (arc_value n ≡ arc_value m)
IsTold NoLease e = e ≡ told.NoLease
IsTold NoChunk e = e ≡ told.NoChunk
IsTold (Fetched chunk) (told.Fetched name) = name.bytes ≡ sha256 (arc_value chunk)
IsTold Closed e = e ≡ told.Closed
IsTold NoRoot e = e ≡ told.NoRoot
IsTold Taken e = e ≡ told.Taken
IsTold (Doubt k) e = e ≡ told.Doubt k
IsTold Full e = e ≡ told.Full
IsTold (Began session root bytes number) e = e ≡ told.Began session root bytes number
IsTold NoSession e = e ≡ told.NoSession
IsTold Kept e = e ≡ told.Kept
IsTold Nonce e = e ≡ told.Nonce
IsTold (Missing i) e = e ≡ told.Missing i
IsTold (Made r) e = e ≡ told.Made r
IsTold Abandoned e = e ≡ told.Abandoned
IsTold RootsEnd e = e ≡ told.RootsEnd
IsTold (Rotated r) e = e ≡ told.Rotated r
IsTold (NotRetiredHome home) e = e ≡ told.NotRetiredHome home
IsTold (Moving session from to m) (told.Moving other f t n) = (other ≡ session) × (f ≡ from) × (t ≡ to) × (arc_value n ≡ arc_value m)
IsTold (Copied chunk) (told.Copied name) = name.bytes ≡ sha256 (arc_value chunk)
IsTold (Overtaken home) e = e ≡ told.Overtaken home
IsTold (Moved from to) e = e ≡ told.Moved from to
IsTold Withdrawn e = e ≡ told.Withdrawn
IsTold NotRetired e = e ≡ told.NotRetired
IsTold (Serves image) e = e ≡ told.Serves image
IsTold (by.Session n) e = e ≡ told.Session n
IsTold Expired e = e ≡ told.Expired
IsTold NotExpired e = e ≡ told.NotExpired
IsTold Deleted e = e ≡ told.Deleted
IsTold NotDeleted e = e ≡ told.NotDeleted
IsTold (Removed k) e = e ≡ told.Removed k
IsTold Swept e = e ≡ told.Swept
IsTold NoDoubt e = e ≡ told.NoDoubt
IsTold There e = e ≡ told.There
IsTold Absent e = e ≡ told.Absent
IsTold Reaped e = e ≡ told.Reaped
IsTold (Fault k) e = e ≡ told.Fault k
IsTold (Spoiled k) e = e ≡ told.Spoiled k
IsTold reply e = ⊥

-- The log may keep this entry of a call and its reply.
pub record Enters (call : DepotCall) (reply : DepotReply) (e : LogEntry) : Type 0 where
  pub logged : is_logged reply ≡ true
  pub noted : IsNoted call e.call
  pub told : IsTold reply e.reply

-- The call closes no lease.
abbrev pub IsShared : DepotCall → Type 0
IsShared (Close lease) = ⊥
IsShared call = ⊤

abbrev pub IsSharedEntry : DepotNoted → Type 0
IsSharedEntry (noted.Close lease) = ⊥
IsSharedEntry e = ⊤
