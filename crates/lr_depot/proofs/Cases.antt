-- What an entry of the log can be: one that leaves everything, or one of the few that change the state.
use Rattle.std.specs.Prelude.{⊤}
use mathlib.Core.Logic.{◌⊎◌}
use Rattle.std.proofs.Common.{inl, inr, ◌≡◌, ◌+◌, ℕ, List, [], Option, Some, None, IsSome, refl, sym, ap, subst, ◌∙◌}
use Rattle.std.specs.Arc.{arc_value}
use Rattle.std.specs.declared.sync.Arc.{Arc}
use Rattle.std.specs.declared.alloc.Global.{Global}
use Rattle.std.specs.FinMap as map
use Rattle.sha2.specs.Sha256.{sha256}
use Rattle.lr_manifest.specs.Manifest.{ManifestFields}
use Rattle.lr_manifest.specs.declared.name.Name.{Name}
use Rattle.lr_origin.specs.Objects.{Objects}
use Rattle.lr_origin.specs.declared.key.KeyKind.{KeyKind}
use Rattle.lr_origin.specs.declared.key.KeyKind.TheVariants as kind
use Rattle.lr_origin.specs.Text.{IsKind}
use Rattle.lr_roots.specs.View.{Held, salt, manifest, bare, Lacks, Fits}
use Rattle.lr_rules.specs.Known.{accepted, doubting}
use Rattle.lr_rules.specs.State.{Job, Session, State, Holds}
use Rattle.lr_rules.specs.Safe.{IsSafe}
use Rattle.lr_rules.specs.Steps as steps
use Rattle.lr_rules.specs.Steps.{Steps, Tries}
use Rattle.lr_rules.specs.Calls.{knows, MayRotate, MayMake, MayMove, MayWithdraw, MayExpire, MayDelete, MaySettle, MayOpen, MayBegin, MayCopy}
use Rattle.lr_rules.proofs.Grammar.{root_kind, withdrawn_kind}
use Rattle.lr_depot.specs.declared.call.DepotCall.{DepotCall}
use Rattle.lr_depot.specs.declared.call.DepotCall.TheVariants.{OpenImage, Fetch, Close, BeginCreate, PutChunk, PutManifest, Abandon, Rotate, BeginMigrate, CopyRead, FinishMigrate, Withdraw, Expire, Delete, Sweep, Settle, Reap}
use Rattle.lr_depot.specs.declared.call.DepotNoted.{DepotNoted}
use Rattle.lr_depot.specs.declared.call.DepotNoted.TheVariants as noted
use Rattle.lr_depot.specs.declared.call.DepotReply.{DepotReply}
use Rattle.lr_depot.specs.declared.call.DepotReply.TheVariants.{NoImage, Opened, NoLease, NoChunk, Fetched, Closed, NoRoot, Taken, Doubt, Full, Began, NoSession, Kept, Nonce, Missing, Made, Abandoned, RootsEnd, Rotated, NotRetiredHome, Moving, Copied, Overtaken, Moved, Withdrawn, NotRetired, Serves, Expired, NotExpired, Deleted, NotDeleted, Removed, Swept, NoDoubt, There, Absent, Reaped, Nothing, Fault, Spoiled, OutOfMemory}
use Rattle.lr_depot.specs.declared.call.DepotReply.TheVariants as by
use Rattle.lr_depot.specs.declared.call.DepotTold.{DepotTold}
use Rattle.lr_depot.specs.declared.call.DepotTold.TheVariants as told
use Rattle.lr_depot.specs.Drawn.{number_told}
use Rattle.lr_depot.specs.Machine.{DepotStep, IsPut, IsNextItem, state_after, IsNoted, IsTold}
use Rattle.lr_depot.specs.declared.put.PutEnd.TheVariants.{Kept as Done, Fault as Failed}
use Rattle.lr_depot.specs.Store.{Puts, StoreStep}

-- what the log keeps of such a reply tells of no change, whatever the call is
abbrev pub IsStill : DepotTold → Type 0
IsStill told.NoImage = ⊤
IsStill told.NoLease = ⊤
IsStill told.NoChunk = ⊤
IsStill (told.Fetched name) = ⊤
IsStill told.NoRoot = ⊤
IsStill told.Taken = ⊤
IsStill (told.Doubt k) = ⊤
IsStill told.Full = ⊤
IsStill told.NoSession = ⊤
IsStill told.Nonce = ⊤
IsStill (told.Missing i) = ⊤
IsStill told.RootsEnd = ⊤
IsStill (told.NotRetiredHome home) = ⊤
IsStill (told.Copied name) = ⊤
IsStill (told.Overtaken home) = ⊤
IsStill told.NotRetired = ⊤
IsStill (told.Serves image) = ⊤
IsStill (told.Session n) = ⊤
IsStill told.NotExpired = ⊤
IsStill told.NotDeleted = ⊤
IsStill told.Swept = ⊤
IsStill told.NoDoubt = ⊤
IsStill (told.Spoiled k) = ⊤
IsStill t = ⊥

still : (s : State) (c : ℕ) (n : DepotNoted) (t : DepotTold) → IsStill t → state_after s c n t ≡ s
still s c (noted.OpenImage image) (told.Opened lease m) q = absurd q
still s c (noted.Close lease) told.Closed q = absurd q
still s c (noted.BeginCreate image) (told.Began session root bytes number) q = absurd q
still s c (noted.PutChunk n name) told.Kept q = absurd q
still s c (noted.PutChunk n name) (told.Fault k) q = absurd q
still s c (noted.PutManifest n m) (told.Made r) q = absurd q
still s c (noted.PutManifest n m) (told.Fault k) q = absurd q
still s c (noted.Abandon n) told.Abandoned q = absurd q
still s c (noted.Rotate bytes) (told.Rotated r) q = absurd q
still s c (noted.Rotate bytes) (told.Fault k) q = absurd q
still s c (noted.BeginMigrate image) (told.Moving session from to m) q = absurd q
still s c (noted.FinishMigrate n) (told.Moved from to) q = absurd q
still s c (noted.FinishMigrate n) (told.Fault k) q = absurd q
still s c (noted.Withdraw image) told.Withdrawn q = absurd q
still s c (noted.Withdraw image) (told.Fault k) q = absurd q
still s c (noted.Expire r) told.Expired q = absurd q
still s c (noted.Expire r) (told.Fault k) q = absurd q
still s c (noted.Delete r) told.Deleted q = absurd q
still s c (noted.Delete r) (told.Fault k) q = absurd q
still s c (noted.Sweep r) (told.Removed k) q = absurd q
still s c (noted.Sweep r) (told.Fault k) q = absurd q
still s c (noted.Settle k) told.There q = absurd q
still s c (noted.Settle k) told.Absent q = absurd q
still s c noted.Reap told.Reaped q = absurd q
still s c n t q = refl

still_untold : (t : DepotTold) → IsStill t → number_told t ≡ None
still_untold (told.Began session root bytes number) q = absurd q
still_untold t q = refl

fetched_still : (chunk : _) (t : DepotTold) → IsTold (Fetched chunk) t → IsStill t
fetched_still chunk (told.Fetched name) e = tt
fetched_still chunk t e = absurd e

copied_still : (chunk : _) (t : DepotTold) → IsTold (Copied chunk) t → IsStill t
copied_still chunk (told.Copied name) e = tt
copied_still chunk t e = absurd e

-- a key whose object is empty, and no chunk
abbrev pub IsBare : KeyKind → Type 0
IsBare (kind.Withdrawn image) = ⊤
IsBare (kind.Expired r) = ⊤
IsBare (kind.Deleted r) = ⊤
IsBare k = ⊥

-- of an empty object nothing is kept
pub empty_bare : (k : KeyKind) (x : Held) → IsBare k → Fits k x → x ≡ bare
empty_bare k bare e f = refl
empty_bare (kind.Withdrawn image) (salt b) e f = absurd f
empty_bare (kind.Withdrawn image) (manifest m) e f = absurd f
empty_bare (kind.Expired r) (salt b) e f = absurd f
empty_bare (kind.Expired r) (manifest m) e f = absurd f
empty_bare (kind.Deleted r) (salt b) e f = absurd f
empty_bare (kind.Deleted r) (manifest m) e f = absurd f
empty_bare k x e f = absurd e

-- what the log keeps of an acknowledged put of such a key
abbrev pub IsCalm : DepotTold → Type 0
IsCalm told.Withdrawn = ⊤
IsCalm told.Expired = ⊤
IsCalm told.Deleted = ⊤
IsCalm t = ⊥

-- such a key may be put
pub record MayPutBare (s : State) (k : KeyKind) : Type 0 where
  pub may : (t : State) → Tries s k t → Steps s t
  pub grammar : IsSafe s → IsKind k
  pub absent : Lacks s.known.view k
  pub empty : IsBare k

pub withdrawn_key : (s : State) (image : List ℕ) → MayWithdraw s image → MayPutBare s (kind.Withdrawn image)
withdrawn_key s image m = record { may = λ t tries. steps.Withdraws image m tries; grammar = λ h. withdrawn_kind s h image m.listed.0 m.listed.2; absent = m.kept; empty = tt }

pub expired_key : (s : State) (r : ℕ) → MayExpire s r → MayPutBare s (kind.Expired r)
expired_key s r m = record { may = λ t tries. steps.Expires r m tries; grammar = λ h. root_kind s h r m.root; absent = m.serving; empty = tt }

pub deleted_key : (s : State) (r : ℕ) → MayDelete s r → MayPutBare s (kind.Deleted r)
deleted_key s r m = record { may = λ t tries. steps.Deletes r m tries; grammar = λ h. root_kind s h r m.root; absent = m.live; empty = tt }

module _ (s : State) (c : ℕ) where
  -- the put of such a key
  pub record BarePut (call : DepotCall) (reply : DepotReply) (n : DepotNoted) (t : DepotTold) (k : KeyKind) : Type 0 where
    pub key : MayPutBare s k
    pub state : state_after s c n t ≡ knows s (accepted s.known k bare)
    pub objects : (m : Objects) (o : Option Objects) → StoreStep s c call reply m o → Puts s k [] Done m o
    pub untold : number_told t ≡ None
    pub calm : IsCalm t

  -- and one that failed
  pub record BareDoubted (call : DepotCall) (n : DepotNoted) (k : KeyKind) : Type 0 where
    pub key : MayPutBare s k
    pub state : state_after s c n (told.Fault k) ≡ knows s (doubting s.known k bare)
    pub objects : (m : Objects) (o : Option Objects) → StoreStep s c call (Fault k) m o → Puts s k [] Failed m o

  -- The entry leaves the state and the store, and draws no number.
  pub record Quiet (call : DepotCall) (reply : DepotReply) (n : DepotNoted) (t : DepotTold) : Type 0 where
    pub state : state_after s c n t ≡ s
    pub objects : (m : Objects) (o : Option Objects) → StoreStep s c call reply m o → o ≡ Some m
    pub untold : number_told t ≡ None
    pub plain : IsStill t ⊎ ((k : KeyKind) × (t ≡ told.Fault k))

  module _ (P : DepotCall → DepotReply → DepotNoted → DepotTold → Type 0) where
    -- P holds of each kind of entry.
    pub record OfEach : Type 0 where
      pub quiet : (call : DepotCall) (reply : DepotReply) (n : DepotNoted) (t : DepotTold) → Quiet call reply n t → P call reply n t
      pub opened : (image : List ℕ) (m p : Arc ManifestFields Global) (r : ℕ) → MayOpen s image r (arc_value p) → P (OpenImage image) (Opened s.desk.next_lease m) (noted.OpenImage image) (told.Opened s.desk.next_lease p)
      pub closed : (lease : ℕ) → IsSome (map.get s.desk.leases lease) → P (Close lease) Closed (noted.Close lease) told.Closed
      pub began : (image : List ℕ) (root : ℕ) (bytes : List ℕ) → MayBegin s image root → map.get s.known.view (kind.Root root) ≡ Some (salt bytes)
          → P (BeginCreate image) (Began s.desk.next_session root bytes s.desk.next_number) (noted.BeginCreate image) (told.Began s.desk.next_session root bytes s.desk.next_number)
      pub chunk : (n : ℕ) (chunk : Arc (List ℕ) Global) (name : Name) (j : Job) → Holds s n c j → name.bytes ≡ sha256 (arc_value chunk) → P (PutChunk n chunk) Kept (noted.PutChunk n name) told.Kept
      pub chunk_doubted : (n : ℕ) (chunk : Arc (List ℕ) Global) (name : Name) (k : KeyKind) → name.bytes ≡ sha256 (arc_value chunk) → IsPut s n c (arc_value chunk) k → Lacks s.known.view k → P (PutChunk n chunk) (Fault k) (noted.PutChunk n name) (told.Fault k)
      pub made : (n : ℕ) (m p : Arc ManifestFields Global) (r : ℕ) (image : List ℕ) (d : ℕ) → arc_value p ≡ arc_value m → MayMake s n c image r d (arc_value p) → P (PutManifest n m) (Made r) (noted.PutManifest n p) (told.Made r)
      pub making : (n : ℕ) (m p : Arc ManifestFields Global) (r : ℕ) (image : List ℕ) (d : ℕ) → arc_value p ≡ arc_value m → MayMake s n c image r d (arc_value p) → P (PutManifest n m) (Fault (kind.Manifest r image)) (noted.PutManifest n p) (told.Fault (kind.Manifest r image))
      pub abandoned : (n : ℕ) (j : Job) → Holds s n c j → P (Abandon n) Abandoned (noted.Abandon n) told.Abandoned
      pub rotated : (i : ℕ) (bytes : List ℕ) → MayRotate s i bytes → P (Rotate bytes) (Rotated (i + 1)) (noted.Rotate bytes) (told.Rotated (i + 1))
      pub rotating : (i : ℕ) (bytes : List ℕ) → MayRotate s i bytes → P (Rotate bytes) (Fault (kind.Root (i + 1))) (noted.Rotate bytes) (told.Fault (kind.Root (i + 1)))
      pub moving : (image : List ℕ) (from to : ℕ) (m p : Arc ManifestFields Global) → MayCopy s image from to (arc_value p)
          → P (BeginMigrate image) (Moving s.desk.next_session from to m) (noted.BeginMigrate image) (told.Moving s.desk.next_session from to p)
      pub moved : (n : ℕ) (image : List ℕ) (from to : ℕ) (m : ManifestFields) → MayMove s n c image from to m → P (FinishMigrate n) (Moved from to) (noted.FinishMigrate n) (told.Moved from to)
      pub move_doubted : (n : ℕ) (image : List ℕ) (from to : ℕ) (m : ManifestFields) → MayMove s n c image from to m → P (FinishMigrate n) (Fault (kind.Manifest to image)) (noted.FinishMigrate n) (told.Fault (kind.Manifest to image))
      pub bare_put : (call : DepotCall) (reply : DepotReply) (n : DepotNoted) (t : DepotTold) (k : KeyKind) → BarePut call reply n t k → P call reply n t
      pub bare_doubted : (call : DepotCall) (n : DepotNoted) (k : KeyKind) → BareDoubted call n k → P call (Fault k) n (told.Fault k)
      pub removed : (r : ℕ) (k : KeyKind) → IsNextItem s r k → P (Sweep r) (Removed k) (noted.Sweep r) (told.Removed k)
      pub removing : (r : ℕ) (k : KeyKind) → IsNextItem s r k → P (Sweep r) (Fault k) (noted.Sweep r) (told.Fault k)
      pub found : (k : KeyKind) (x : Held) → MaySettle s k x → P (Settle k) There (noted.Settle k) told.There
      pub missed : (k : KeyKind) (x : Held) → MaySettle s k x → P (Settle k) Absent (noted.Settle k) told.Absent
      pub reaped : (n : ℕ) (j : Session) → map.get s.desk.sessions n ≡ Some j → j.caller ≡ c → P Reap Reaped noted.Reap told.Reaped

    -- the entry of another call, reply and keeping that are the same
    renamed : (call : DepotCall) (x y : DepotReply) (n i : DepotNoted) (t u : DepotTold) → x ≡ y → n ≡ i → t ≡ u → P call y i u → P call x n t
    renamed call x y n i t u a b d p = subst (λ x. P call x n t) (sym a) (subst (λ n. P call y n t) (sym b) (subst (λ t. P call y i t) (sym d) p))

    module _ (h : OfEach) where
      stays : (call : DepotCall) (reply : DepotReply) (n : DepotNoted) (t : DepotTold) → IsStill t → ((m : Objects) (o : Option Objects) → StoreStep s c call reply m o → o ≡ Some m) → P call reply n t
      stays call reply n t q objects = h.quiet call reply n t (record { state = still s c n t q; objects = objects; untold = still_untold t q; plain = inl q })

      plain : (call : DepotCall) (reply : DepotReply) (n : DepotNoted) (t u : DepotTold) → t ≡ u → IsStill u → ((m : Objects) (o : Option Objects) → StoreStep s c call reply m o → o ≡ Some m) → P call reply n t
      plain call reply n t u tells q objects = stays call reply n t (subst IsStill (sym tells) q) objects

      pub of_each : (call : DepotCall) (reply : DepotReply) (n : DepotNoted) (t : DepotTold) → DepotStep s c call reply → IsNoted call n → IsTold reply t → P call reply n t
      of_each (OpenImage image) (Opened lease m) n (told.Opened other p) step kept tells =
          renamed (OpenImage image) (Opened lease m) (Opened s.desk.next_lease m) n (noted.OpenImage image) (told.Opened other p) (told.Opened s.desk.next_lease p) (ap (λ l. Opened l m) step.2) kept (ap (λ l. told.Opened l p) (tells.0 ∙ step.2))
          (h.opened image m p step.0 (subst (MayOpen s image step.0) (sym tells.1) step.1))
      of_each (Fetch lease index) (Fetched chunk) n t step kept tells = stays (Fetch lease index) (Fetched chunk) n t (fetched_still chunk t tells) (λ m o stores. stores.0)
      of_each (Fetch lease index) (Fault k) n t step kept tells =
          renamed (Fetch lease index) (Fault k) (Fault k) n (noted.Fetch lease index) t (told.Fault k) refl kept tells
          (h.quiet (Fetch lease index) (Fault k) (noted.Fetch lease index) (told.Fault k) (record { state = refl; objects = λ m o stores. stores; untold = refl; plain = inr (k, refl) }))
      of_each (Fetch lease index) (Spoiled k) n t step kept tells = plain (Fetch lease index) (Spoiled k) n t (told.Spoiled k) tells tt (λ m o stores. stores.0)
      of_each (Close lease) Closed n t step kept tells = renamed (Close lease) Closed Closed n (noted.Close lease) t told.Closed refl kept tells (h.closed lease step)
      of_each (BeginCreate image) (Began session root bytes number) n t step kept tells =
          renamed (BeginCreate image) (Began session root bytes number) (Began s.desk.next_session root bytes s.desk.next_number) n (noted.BeginCreate image) t (told.Began s.desk.next_session root bytes s.desk.next_number)
          (λ i. Began (step.1 i) root bytes (step.2 i)) kept (tells ∙ (λ i. told.Began (step.1 i) root bytes (step.2 i))) (h.began image root bytes step.0 step.3)
      of_each (PutChunk n chunk) Kept (noted.PutChunk i name) t step kept tells =
          renamed (PutChunk n chunk) Kept Kept (noted.PutChunk i name) (noted.PutChunk n name) t told.Kept refl (ap (λ n. noted.PutChunk n name) kept.0) tells (h.chunk n chunk name step.0 step.1 kept.1)
      of_each (PutChunk n chunk) (Fault k) (noted.PutChunk i name) t step kept tells =
          renamed (PutChunk n chunk) (Fault k) (Fault k) (noted.PutChunk i name) (noted.PutChunk n name) t (told.Fault k) refl (ap (λ n. noted.PutChunk n name) kept.0) tells (h.chunk_doubted n chunk name k kept.1 step.0 step.1)
      of_each (PutChunk n chunk) (Spoiled k) i t step kept tells = plain (PutChunk n chunk) (Spoiled k) i t (told.Spoiled k) tells tt (λ m o stores. stores.1)
      of_each (PutManifest n m) (Made r) (noted.PutManifest i p) t step kept tells =
          renamed (PutManifest n m) (Made r) (Made r) (noted.PutManifest i p) (noted.PutManifest n p) t (told.Made r) refl (ap (λ n. noted.PutManifest n p) kept.0) tells
          (h.made n m p r step.0 step.1 kept.1 (subst (MayMake s n c step.0 r step.1) (sym kept.1) step.2))
      of_each (PutManifest n m) (Fault k) (noted.PutManifest i p) t step kept tells =
          renamed (PutManifest n m) (Fault k) (Fault (kind.Manifest step.1 step.0)) (noted.PutManifest i p) (noted.PutManifest n p) t (told.Fault (kind.Manifest step.1 step.0)) (ap Fault step.4) (ap (λ n. noted.PutManifest n p) kept.0) (tells ∙ ap told.Fault step.4)
          (h.making n m p step.1 step.0 step.2 kept.1 (subst (MayMake s n c step.0 step.1 step.2) (sym kept.1) step.3))
      of_each (PutManifest n m) (Spoiled k) i t step kept tells = plain (PutManifest n m) (Spoiled k) i t (told.Spoiled k) tells tt (λ m o stores. stores.1)
      of_each (Abandon n) Abandoned i t step kept tells = renamed (Abandon n) Abandoned Abandoned i (noted.Abandon n) t told.Abandoned refl kept tells (h.abandoned n step.0 step.1)
      of_each (Rotate bytes) (Rotated r) n t step kept tells =
          renamed (Rotate bytes) (Rotated r) (Rotated (step.0 + 1)) n (noted.Rotate bytes) t (told.Rotated (step.0 + 1)) (ap Rotated step.2) kept (tells ∙ ap told.Rotated step.2) (h.rotated step.0 bytes step.1)
      of_each (Rotate bytes) (Fault k) n t step kept tells =
          renamed (Rotate bytes) (Fault k) (Fault (kind.Root (step.0 + 1))) n (noted.Rotate bytes) t (told.Fault (kind.Root (step.0 + 1))) (ap Fault step.2) kept (tells ∙ ap told.Fault step.2) (h.rotating step.0 bytes step.1)
      of_each (Rotate bytes) (Spoiled k) n t step kept tells = plain (Rotate bytes) (Spoiled k) n t (told.Spoiled k) tells tt (λ m o stores. stores.1)
      of_each (BeginMigrate image) (Moving session from to m) n (told.Moving other f g p) step kept tells =
          renamed (BeginMigrate image) (Moving session from to m) (Moving s.desk.next_session from to m) n (noted.BeginMigrate image) (told.Moving other f g p) (told.Moving s.desk.next_session from to p)
          (ap (λ l. Moving l from to m) step.1) kept (λ i. told.Moving ((tells.0 ∙ step.1) i) (tells.1 i) (tells.2 i) p)
          (h.moving image from to m p (subst (MayCopy s image from to) (sym tells.3) step.0))
      of_each (CopyRead n index) (Copied chunk) i t step kept tells = stays (CopyRead n index) (Copied chunk) i t (copied_still chunk t tells) (λ m o stores. stores.0)
      of_each (CopyRead n index) (Fault k) i t step kept tells =
          renamed (CopyRead n index) (Fault k) (Fault k) i (noted.CopyRead n index) t (told.Fault k) refl kept tells
          (h.quiet (CopyRead n index) (Fault k) (noted.CopyRead n index) (told.Fault k) (record { state = refl; objects = λ m o stores. stores; untold = refl; plain = inr (k, refl) }))
      of_each (CopyRead n index) (Spoiled k) i t step kept tells = plain (CopyRead n index) (Spoiled k) i t (told.Spoiled k) tells tt (λ m o stores. stores.0)
      of_each (FinishMigrate n) (Moved from to) i t step kept tells =
          renamed (FinishMigrate n) (Moved from to) (Moved from to) i (noted.FinishMigrate n) t (told.Moved from to) refl kept tells (h.moved n step.0 from to step.1 step.2)
      of_each (FinishMigrate n) (Fault k) i t step kept tells =
          renamed (FinishMigrate n) (Fault k) (Fault (kind.Manifest step.2 step.0)) i (noted.FinishMigrate n) t (told.Fault (kind.Manifest step.2 step.0)) (ap Fault step.5) kept (tells ∙ ap told.Fault step.5)
          (h.move_doubted n step.0 step.1 step.2 step.3 step.4)
      of_each (FinishMigrate n) (Spoiled k) i t step kept tells = plain (FinishMigrate n) (Spoiled k) i t (told.Spoiled k) tells tt (λ m o stores. stores.1)
      of_each (Withdraw image) Withdrawn i t step kept tells =
          renamed (Withdraw image) Withdrawn Withdrawn i (noted.Withdraw image) t told.Withdrawn refl kept tells
          (h.bare_put (Withdraw image) Withdrawn (noted.Withdraw image) told.Withdrawn (kind.Withdrawn image) (record { key = withdrawn_key s image step; state = refl; objects = λ m o stores. stores; untold = refl; calm = tt }))
      of_each (Withdraw image) (Fault k) i t step kept tells =
          renamed (Withdraw image) (Fault k) (Fault (kind.Withdrawn image)) i (noted.Withdraw image) t (told.Fault (kind.Withdrawn image)) (ap Fault step.1) kept (tells ∙ ap told.Fault step.1)
          (h.bare_doubted (Withdraw image) (noted.Withdraw image) (kind.Withdrawn image) (record { key = withdrawn_key s image step.0; state = refl; objects = λ m o stores. stores }))
      of_each (Withdraw image) (Spoiled k) i t step kept tells = plain (Withdraw image) (Spoiled k) i t (told.Spoiled k) tells tt (λ m o stores. stores.1)
      of_each (Expire r) Expired i t step kept tells =
          renamed (Expire r) Expired Expired i (noted.Expire r) t told.Expired refl kept tells
          (h.bare_put (Expire r) Expired (noted.Expire r) told.Expired (kind.Expired r) (record { key = expired_key s r step; state = refl; objects = λ m o stores. stores; untold = refl; calm = tt }))
      of_each (Expire r) (Fault k) i t step kept tells =
          renamed (Expire r) (Fault k) (Fault (kind.Expired r)) i (noted.Expire r) t (told.Fault (kind.Expired r)) (ap Fault step.1) kept (tells ∙ ap told.Fault step.1)
          (h.bare_doubted (Expire r) (noted.Expire r) (kind.Expired r) (record { key = expired_key s r step.0; state = refl; objects = λ m o stores. stores }))
      of_each (Expire r) (Spoiled k) i t step kept tells = plain (Expire r) (Spoiled k) i t (told.Spoiled k) tells tt (λ m o stores. stores.1)
      of_each (Delete r) Deleted i t step kept tells =
          renamed (Delete r) Deleted Deleted i (noted.Delete r) t told.Deleted refl kept tells
          (h.bare_put (Delete r) Deleted (noted.Delete r) told.Deleted (kind.Deleted r) (record { key = deleted_key s r step; state = refl; objects = λ m o stores. stores; untold = refl; calm = tt }))
      of_each (Delete r) (Fault k) i t step kept tells =
          renamed (Delete r) (Fault k) (Fault (kind.Deleted r)) i (noted.Delete r) t (told.Fault (kind.Deleted r)) (ap Fault step.1) kept (tells ∙ ap told.Fault step.1)
          (h.bare_doubted (Delete r) (noted.Delete r) (kind.Deleted r) (record { key = deleted_key s r step.0; state = refl; objects = λ m o stores. stores }))
      of_each (Delete r) (Spoiled k) i t step kept tells = plain (Delete r) (Spoiled k) i t (told.Spoiled k) tells tt (λ m o stores. stores.1)
      of_each (Sweep r) (Removed k) i t step kept tells = renamed (Sweep r) (Removed k) (Removed k) i (noted.Sweep r) t (told.Removed k) refl kept tells (h.removed r k step)
      of_each (Sweep r) (Fault k) i t step kept tells = renamed (Sweep r) (Fault k) (Fault k) i (noted.Sweep r) t (told.Fault k) refl kept tells (h.removing r k step)
      of_each (Settle k) There i t step kept tells = renamed (Settle k) There There i (noted.Settle k) t told.There refl kept tells (h.found k step.0 step.1)
      of_each (Settle k) Absent i t step kept tells = renamed (Settle k) Absent Absent i (noted.Settle k) t told.Absent refl kept tells (h.missed k step.0 step.1)
      of_each (Settle k) (Fault q) i t step kept tells =
          renamed (Settle k) (Fault q) (Fault q) i (noted.Settle k) t (told.Fault q) refl kept tells
          (h.quiet (Settle k) (Fault q) (noted.Settle k) (told.Fault q) (record { state = refl; objects = λ m o stores. stores; untold = refl; plain = inr (q, refl) }))
      of_each (Settle k) (Spoiled q) i t step kept tells = plain (Settle k) (Spoiled q) i t (told.Spoiled q) tells tt (λ m o stores. stores.0)
      of_each Reap Reaped n t step kept tells = renamed Reap Reaped Reaped n noted.Reap t told.Reaped refl kept tells (h.reaped step.0 step.1 step.2 step.3)
      of_each call NoImage n t step kept tells = plain call NoImage n t told.NoImage tells tt (λ m o stores. stores)
      of_each call NoLease n t step kept tells = plain call NoLease n t told.NoLease tells tt (λ m o stores. stores)
      of_each call NoChunk n t step kept tells = plain call NoChunk n t told.NoChunk tells tt (λ m o stores. stores)
      of_each call NoRoot n t step kept tells = plain call NoRoot n t told.NoRoot tells tt (λ m o stores. stores)
      of_each call Taken n t step kept tells = plain call Taken n t told.Taken tells tt (λ m o stores. stores)
      of_each call (Doubt k) n t step kept tells = plain call (Doubt k) n t (told.Doubt k) tells tt (λ m o stores. stores)
      of_each call Full n t step kept tells = plain call Full n t told.Full tells tt (λ m o stores. stores)
      of_each call NoSession n t step kept tells = plain call NoSession n t told.NoSession tells tt (λ m o stores. stores)
      of_each call Nonce n t step kept tells = plain call Nonce n t told.Nonce tells tt (λ m o stores. stores)
      of_each call (Missing i) n t step kept tells = plain call (Missing i) n t (told.Missing i) tells tt (λ m o stores. stores)
      of_each call RootsEnd n t step kept tells = plain call RootsEnd n t told.RootsEnd tells tt (λ m o stores. stores)
      of_each call (NotRetiredHome home) n t step kept tells = plain call (NotRetiredHome home) n t (told.NotRetiredHome home) tells tt (λ m o stores. stores)
      of_each call (Overtaken home) n t step kept tells = plain call (Overtaken home) n t (told.Overtaken home) tells tt (λ m o stores. stores)
      of_each call NotRetired n t step kept tells = plain call NotRetired n t told.NotRetired tells tt (λ m o stores. stores)
      of_each call (Serves image) n t step kept tells = plain call (Serves image) n t (told.Serves image) tells tt (λ m o stores. stores)
      of_each call (by.Session number) n t step kept tells = plain call (by.Session number) n t (told.Session number) tells tt (λ m o stores. stores)
      of_each call NotExpired n t step kept tells = plain call NotExpired n t told.NotExpired tells tt (λ m o stores. stores)
      of_each call NotDeleted n t step kept tells = plain call NotDeleted n t told.NotDeleted tells tt (λ m o stores. stores)
      of_each call Swept n t step kept tells = plain call Swept n t told.Swept tells tt (λ m o stores. stores)
      of_each call NoDoubt n t step kept tells = plain call NoDoubt n t told.NoDoubt tells tt (λ m o stores. stores)
      of_each call Nothing n t step kept tells = absurd tells
      of_each call OutOfMemory n t step kept tells = absurd tells
      of_each (OpenImage image) (Opened lease m) n t step kept tells = absurd tells
      of_each (BeginMigrate image) (Moving session from to m) n t step kept tells = absurd tells
      of_each (PutChunk n chunk) Kept i t step kept tells = absurd kept
      of_each (PutChunk n chunk) (Fault k) i t step kept tells = absurd kept
      of_each (PutManifest n m) (Made r) i t step kept tells = absurd kept
      of_each (PutManifest n m) (Fault k) i t step kept tells = absurd kept
      of_each call reply n t step kept tells = absurd step
