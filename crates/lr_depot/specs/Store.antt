-- What the calls of a log did to the store.
use Rattle.std.specs.Prelude.{◌≡◌, ◌⊎◌, ◌≤◌, ◌+◌, ℕ, List, [], ◌∷◌, length, filter, Bool, true, false, Option, Some, None, IsSome, ⊤}
use Rattle.std.specs.FinMap as map
use Rattle.sha2.specs.Sha256.{sha256}
use Rattle.lr_spec.specs.Rose.{last_count}
use Rattle.lr_manifest.specs.Manifest.{ManifestFields, spelling}
use Rattle.lr_origin.specs.Objects.{Objects}
use Rattle.lr_origin.specs.Text.{key_text}
use Rattle.lr_origin.specs.declared.key.KeyKind.{KeyKind}
use Rattle.lr_origin.specs.declared.key.KeyKind.TheVariants.{Root, Chunk, Manifest}
use Rattle.lr_origin.specs.declared.key.KeyKind.TheVariants as kind
use Rattle.lr_roots.specs.View.{View, Held, Has, Lacks}
use Rattle.lr_opening.specs.Store.{Mirrors, body_of}
use Rattle.lr_rules.specs.Known.{Known, Settles}
use Rattle.lr_rules.specs.State.{State}
use Rattle.lr_depot.specs.declared.call.DepotCall.{DepotCall}
use Rattle.lr_depot.specs.declared.call.DepotCall.TheVariants.{OpenImage, Fetch, Close, BeginCreate, PutChunk, PutManifest, Abandon, Rotate, BeginMigrate, CopyRead, FinishMigrate, Withdraw, Expire, Delete, Sweep, Settle, Reap}
use Rattle.lr_depot.specs.declared.call.DepotReply.{DepotReply}
use Rattle.lr_depot.specs.declared.call.DepotReply.TheVariants.{Fetched, Kept, Made, Rotated, Copied, Moved, Withdrawn, Expired, Deleted, Removed, There, Absent, Fault, Spoiled, OutOfMemory}
use Rattle.lr_depot.specs.declared.call.DepotTold.{DepotTold}
use Rattle.lr_depot.specs.declared.call.DepotTold.TheVariants as told
use Rattle.lr_depot.specs.declared.put.PutEnd.{PutEnd}
use Rattle.lr_depot.specs.declared.put.PutEnd.TheVariants.{Kept as Done, Fault as Failed, Spoiled as Bad}
use Rattle.lr_rules.specs.Calls.{MayMove}
use Rattle.lr_depot.specs.Machine.{LogEntry, IsFetch, IsPut, IsMaking, IsCopy, DepotStep, Enters, after_entry}
use Rattle.lr_depot.specs.Put.{StoresKey}
use Rattle.std.specs.Arc.{arc_value}

-- the body is that of the chunk that the key names
abbrev pub IsChunkBody : KeyKind → List ℕ → Type 0
IsChunkBody (Chunk r name) body = (length body ≡ 524288) × (sha256 body ≡ name)
IsChunkBody k body = ⊥

-- the get of a chunk gave nothing, or another body than its key's
abbrev pub IsSpoiled : KeyKind → Option (List ℕ) → Type 0
IsSpoiled k None = Unit {0}
IsSpoiled k (Some body) = ¬ (IsChunkBody k body)

-- The body is the one that was put of a key: of a chunk the one that the key names, of another key the very bytes.
abbrev pub IsBodyPut : KeyKind → Held → List ℕ → Type 0
IsBodyPut (Chunk r name) held body = IsChunkBody (Chunk r name) body
IsBodyPut k held body = body ≡ body_of held

-- The object is there, and it is the one that was put.
abbrev pub IsFound : State → KeyKind → Objects → Type 0
IsFound s k m = (x : Held) × (body : List ℕ) × (map.get s.known.doubts k ≡ Some x) × (map.get m (key_text k) ≡ Some body) × IsBodyPut k x body

-- An object is there, and it is another than the one that was put.
abbrev pub IsOther : State → KeyKind → Objects → Type 0
IsOther s k m = (x : Held) × (body : List ℕ) × (map.get s.known.doubts k ≡ Some x) × (map.get m (key_text k) ≡ Some body) × ¬ (IsBodyPut k x body)

-- a deletion that failed
abbrev pub MayRemove : KeyKind → Objects → Option Objects → Type 0
MayRemove k m n = (n ≡ Some m) ⊎ (n ≡ Some (map.remove m (key_text k)))

-- a put of this body, by how it ended
abbrev pub Puts : State → KeyKind → List ℕ → PutEnd → Objects → Option Objects → Type 0
Puts s k body end m n = StoresKey (map.get s.known.doubts k) (key_text k) body end m n

-- whether a reply in the log is a fault
abbrev pub tells_fault : DepotTold → Bool
tells_fault (told.Fault k) = true
tells_fault reply = false

-- What a call of a caller with this reply did to the objects. A call that isn't named here left them as they were.
abbrev pub StoreStep : State → ℕ → DepotCall → DepotReply → Objects → Option Objects → Type 0
StoreStep s c (Fetch lease index) (Fetched chunk) m n =
    (n ≡ Some m) × ((k : KeyKind) × IsFetch s lease index k × IsChunkBody k (arc_value chunk) × (map.get m (key_text k) ≡ Some (arc_value chunk)))
StoreStep s c (Fetch lease index) (Spoiled k) m n = (n ≡ Some m) × IsSpoiled k (map.get m (key_text k))
StoreStep s c (PutChunk session chunk) Kept m n =
    (k : KeyKind) × IsPut s session c (arc_value chunk) k × IsChunkBody k (arc_value chunk)
    × ((Has s.known.view k × (n ≡ Some m)) ⊎ (Lacks s.known.view k × Puts s k (arc_value chunk) Done m n))
StoreStep s c (PutChunk session chunk) (Fault k) m n = IsChunkBody k (arc_value chunk) × Puts s k (arc_value chunk) Failed m n
StoreStep s c (PutChunk session chunk) (Spoiled k) m n = Puts s k (arc_value chunk) Bad m n
StoreStep s c (PutManifest session p) (Made r) m n =
    (image : List ℕ) × IsMaking s session c (arc_value p) image r × Puts s (Manifest r image) (spelling (arc_value p)) Done m n
StoreStep s c (PutManifest session p) (Fault k) m n = Puts s k (spelling (arc_value p)) Failed m n
StoreStep s c (PutManifest session p) (Spoiled k) m n = Puts s k (spelling (arc_value p)) Bad m n
StoreStep s c (Rotate bytes) (Rotated r) m n = Puts s (Root r) bytes Done m n
StoreStep s c (Rotate bytes) (Fault k) m n = Puts s k bytes Failed m n
StoreStep s c (Rotate bytes) (Spoiled k) m n = Puts s k bytes Bad m n
StoreStep s c (CopyRead session index) (Copied chunk) m n =
    (n ≡ Some m) × ((k : KeyKind) × IsCopy s session c index k × IsChunkBody k (arc_value chunk) × (map.get m (key_text k) ≡ Some (arc_value chunk)))
StoreStep s c (CopyRead session index) (Spoiled k) m n = (n ≡ Some m) × IsSpoiled k (map.get m (key_text k))
StoreStep s c (FinishMigrate session) (Moved from to) m n =
    (image : List ℕ) × (p : ManifestFields) × MayMove s session c image from to p × Puts s (Manifest to image) (spelling p) Done m n
StoreStep s c (FinishMigrate session) (Fault k) m n =
    (image : List ℕ) × (from : ℕ) × (to : ℕ) × (p : ManifestFields) × MayMove s session c image from to p × (k ≡ Manifest to image) × Puts s k (spelling p) Failed m n
StoreStep s c (FinishMigrate session) (Spoiled k) m n = IsSome (map.get m (key_text k)) × (n ≡ Some m)
StoreStep s c (Withdraw image) Withdrawn m n = Puts s (kind.Withdrawn image) [] Done m n
StoreStep s c (Withdraw image) (Fault k) m n = Puts s k [] Failed m n
StoreStep s c (Withdraw image) (Spoiled k) m n = Puts s k [] Bad m n
StoreStep s c (Expire r) Expired m n = Puts s (kind.Expired r) [] Done m n
StoreStep s c (Expire r) (Fault k) m n = Puts s k [] Failed m n
StoreStep s c (Expire r) (Spoiled k) m n = Puts s k [] Bad m n
StoreStep s c (Delete r) Deleted m n = Puts s (kind.Deleted r) [] Done m n
StoreStep s c (Delete r) (Fault k) m n = Puts s k [] Failed m n
StoreStep s c (Delete r) (Spoiled k) m n = Puts s k [] Bad m n
StoreStep s c (Sweep r) (Removed k) m n = n ≡ Some (map.remove m (key_text k))
StoreStep s c (Sweep r) (Fault k) m n = MayRemove k m n
StoreStep s c (Settle k) There m n = (n ≡ Some m) × IsFound s k m
StoreStep s c (Settle k) Absent m n = (n ≡ Some m) × (map.get m (key_text k) ≡ None)
StoreStep s c (Settle k) (Spoiled q) m n = (n ≡ Some m) × IsOther s k m
StoreStep s c call reply m n = n ≡ Some m

-- The store isn't asked: it is no call of the store's, or it is refused, or the view has the chunk that is put.
abbrev pub IsUnasked : State → ℕ → DepotCall → DepotReply → Type 0
IsUnasked s c (OpenImage image) reply = ⊤
IsUnasked s c (Close lease) reply = ⊤
IsUnasked s c (BeginCreate image) reply = ⊤
IsUnasked s c (Abandon session) reply = ⊤
IsUnasked s c (BeginMigrate image) reply = ⊤
IsUnasked s c Reap reply = ⊤
IsUnasked s c (PutChunk session chunk) Kept = (k : KeyKind) × IsPut s session c (arc_value chunk) k × Has s.known.view k
IsUnasked s c call (Fetched chunk) = ⊥
IsUnasked s c call Kept = ⊥
IsUnasked s c call (Made r) = ⊥
IsUnasked s c call (Rotated r) = ⊥
IsUnasked s c call (Copied chunk) = ⊥
IsUnasked s c call (Moved from to) = ⊥
IsUnasked s c call Withdrawn = ⊥
IsUnasked s c call Expired = ⊥
IsUnasked s c call Deleted = ⊥
IsUnasked s c call (Removed k) = ⊥
IsUnasked s c call There = ⊥
IsUnasked s c call Absent = ⊥
IsUnasked s c call (Fault k) = ⊥
IsUnasked s c call (Spoiled k) = ⊥
IsUnasked s c call OutOfMemory = ⊥
IsUnasked s c call reply = ⊤

-- A log of the machine: each entry is of a call that the depot answered so, and is one that the log may keep of it.
abbrev pub IsRun : State → List LogEntry → Type 0
IsRun s [] = ⊤
IsRun s (e ∷ es) =
    (call : DepotCall) × (reply : DepotReply) × DepotStep s e.caller call reply × Enters call reply e × IsRun (after_entry s e) es

-- The log leads from these objects to those: it is a run of the machine between the two.
abbrev pub LeadsTo : State → Objects → List LogEntry → Objects → Type 0
LeadsTo s m [] n = n ≡ m
LeadsTo s m (e ∷ es) n =
    (call : DepotCall) × (reply : DepotReply) × (k : Objects) × DepotStep s e.caller call reply × Enters call reply e
    × StoreStep s e.caller call reply m (Some k) × LeadsTo (after_entry s e) k es n

-- the store failed
abbrev pub IsFault : DepotReply → Type 0
IsFault (Fault k) = ⊤
IsFault reply = ⊥

-- whether an entry tells of a fault
abbrev pub is_fault : LogEntry → Bool
is_fault e = tells_fault e.reply

-- how many entries tell of a fault
abbrev pub fault_count : List LogEntry → ℕ
fault_count log = length (filter is_fault log)

-- The count of faults rose by one for each fault that the log tells of, or it stands at its last value.
abbrev pub Covers : ℕ → List LogEntry → ℕ → Type 0
Covers before log now = (before + fault_count log ≤ now) ⊎ (last_count ≤ now)

-- The store's objects are as the doubts may come out.
abbrev pub Follows : Known → Objects → Type 0
Follows s m = (v : View) × Settles s v × Mirrors m v
