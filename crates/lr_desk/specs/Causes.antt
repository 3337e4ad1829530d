-- What a command met, and what each way to end comes from.
use Rattle.std.specs.Prelude.{◌≡◌, ◌⊎◌, ◌≤◌, ◌^◌, ℕ, List, [], length, Option, Some, ⊤}
use Rattle.lr_spec.specs.Rose.{Rose}
use Rattle.lr_spec.specs.Told.{Told}
use Rattle.lr_origin.specs.Objects.{Objects}
use Rattle.lr_roots.specs.Names.{IsOneOf}
use Rattle.lr_opening.specs.declared.cause.StartCause.{StartCause}
use Rattle.lr_opening.specs.declared.cause.StartCause.TheVariants as cause
use Rattle.lr_opening.specs.Cause.{IsRead, IsCause}
use Rattle.lr_opening.specs.Listing.{HasFewer, HasMany}
use Rattle.lr_opening.specs.Store.{IsForeignKey, HasChunks, IsSoundStore}
use Rattle.lr_roots.specs.Catalog.{Seen as Catalog}
use Rattle.lr_depot.specs.Machine.{LogEntry}
use Rattle.lr_depot.specs.Left.{Left}
use Rattle.lr_depot.specs.Depot.{Seen, IsStarted, IsEnded}
use Rattle.lr_walk.specs.Depot.{seen_told, opened}
use Rattle.lr_manifest.specs.Manifest.{ManifestFields}
use Rattle.lr_seal.specs.Table.{HasTag}
use Rattle.lr_desk.specs.declared.outcome.Refusal.{Refusal}
use Rattle.lr_desk.specs.declared.outcome.Refusal.TheVariants as refusal
use Rattle.lr_desk.specs.declared.outcome.Outcome.{Outcome}
use Rattle.lr_desk.specs.declared.outcome.Outcome.TheVariants.{Done, Usage, ReadFault, WriteFault, OriginFault, Memory, Refused, Foreign, Spoiled, TooMany}
use Rattle.lr_desk.specs.declared.words.Command.{Command}
use Rattle.lr_desk.specs.declared.words.Command.TheVariants as command
use Rattle.lr_desk.specs.Words.{AreWords, AreOfCreation, IsCommand, words_of}
use Rattle.lr_desk.specs.Outcome.{status_of, line_of}
use Rattle.lr_desk.specs.Ends.{outcome_of, setting, HasRun}
use Rattle.lr_desk.specs.Made.{HasLeft}

-- What a command met: its words, the objects that the store told, the bytes that the source told, the counts of faults before and after,
-- and the depot's log.
pub record Met : Type 0 where
  pub words : List (List ℕ)
  pub objects : Option Objects
  pub source : Option (List ℕ)
  pub origin_before : ℕ
  pub origin_after : ℕ
  pub source_before : ℕ
  pub source_after : ℕ
  pub sink_before : ℕ
  pub sink_after : ℕ
  pub log : List LogEntry

-- a refusal by the depot: neither for a wrong key nor for too many bytes
abbrev pub IsByDepot : Refusal → Type 0
IsByDepot refusal.Sealed = ⊥
IsByDepot refusal.TooLong = ⊥
IsByDepot r = ⊤

-- an outcome that the depot's reply alone decides: a refusal, a spoiled key or a fault of the store
abbrev pub IsDepots : Outcome → Type 0
IsDepots OriginFault = ⊤
IsDepots (Refused r) = IsByDepot r
IsDepots (Spoiled key) = ⊤
IsDepots o = ⊥

-- an entry of the log tells of this outcome
abbrev pub Tells : List LogEntry → Outcome → Type 0
Tells log o = (e : LogEntry) × IsOneOf log e × (outcome_of (seen_told e.reply) ≡ o)

-- The words are of a reading, and the manifest of the image that was opened has a tag that isn't that of the tenant's key.
pub record IsSealed (words : List (List ℕ)) (log : List LogEntry) : Type 0 where
  pub image : List ℕ
  pub tenant : List ℕ
  pub worded : words ≡ words_of (command.Cat image tenant)
  pub entry : LogEntry
  pub among : IsOneOf log entry
  pub lease : ℕ
  pub manifest : ManifestFields
  pub opening : seen_told entry.reply ≡ opened lease manifest
  pub wrong : HasTag manifest tenant → ⊥

-- The words are of a creation, and the source had more bytes than an image may have.
abbrev pub IsTooLong : List (List ℕ) → Option (List ℕ) → Type 0
IsTooLong words source = AreOfCreation words × Told source (λ bytes. 67108865 ≤ length bytes)

-- Where each refusal comes.
abbrev pub Refuses : Met → Refusal → Type 0
Refuses m refusal.Sealed = IsSealed m.words m.log
Refuses m refusal.TooLong = IsTooLong m.words m.source
Refuses m r = Tells m.log (Refused r)

-- Where each outcome comes.
abbrev pub Comes : Met → Outcome → Type 0
Comes m Done = AreWords m.words
Comes m Usage = ¬ (AreWords m.words)
Comes m ReadFault = Rose m.source_before m.source_after
Comes m WriteFault = Rose m.sink_before m.sink_after
Comes m OriginFault = Rose m.origin_before m.origin_after
Comes m Memory = ⊤
Comes m (Refused r) = Refuses m r
Comes m (Foreign key) = Told m.objects (λ os. IsForeignKey os key.items × HasFewer os (2 ^ 32))
Comes m (Spoiled key) = Tells m.log (Spoiled key) ⊎ (IsRead key × Told m.objects (λ os. ⊥))
Comes m TooMany = Told m.objects (λ os. HasMany os (2 ^ 32))

-- how a command ends whose depot didn't start
abbrev pub cause_of : StartCause → Outcome
cause_of (cause.Fault key) = OriginFault
cause_of (cause.Spoiled key) = Spoiled key
cause_of (cause.Foreign key) = Foreign key
cause_of cause.TooMany = TooMany
cause_of cause.OutOfMemory = Memory

-- No depot was started: the words are no command's, or the store wasn't opened, for a cause that says how the command ended.
abbrev pub IsUnstarted : List (List ℕ) → Option Objects → ℕ → ℕ → ℕ → Type 0
IsUnstarted words told before after status =
    ¬ (AreWords words) ⊎ ((c : StartCause) × IsCause told before after c × (status ≡ status_of (cause_of c)))

-- how a store with a foreign key ends a command
abbrev pub IsForeignEnd : Objects → Outcome → Type 0
IsForeignEnd os (Foreign key) = IsForeignKey os key.items
IsForeignEnd os Memory = ⊤
IsForeignEnd os OriginFault = ⊤
IsForeignEnd os o = ⊥

-- how a store with too many keys does
abbrev pub IsManyEnd : Outcome → Type 0
IsManyEnd TooMany = ⊤
IsManyEnd Memory = ⊤
IsManyEnd OriginFault = ⊤
IsManyEnd o = ⊥

-- not for a spoiled key
abbrev pub IsUnspoiledEnd : Outcome → Type 0
IsUnspoiledEnd (Spoiled key) = ⊥
IsUnspoiledEnd o = ⊤

-- Where an outcome must come: wrong words, what an entry of the log tells of, a foreign key, too many keys. While a store is
-- opened, it may fail or memory may want first. Over a store whose chunks have their length and digest no key is spoiled.
pub record IsExact (m : Met) (o : Outcome) : Type 0 where
  pub usage : ¬ (AreWords m.words) → o ≡ Usage
  pub told : (e : Outcome) → IsDepots e → Tells m.log e → o ≡ e
  pub foreign : AreWords m.words → Told m.objects (λ os. (key : List ℕ) → IsForeignKey os key → HasFewer os (2 ^ 32) → IsForeignEnd os o)
  pub many : AreWords m.words → Told m.objects (λ os. HasMany os (2 ^ 32) → IsManyEnd o)
  pub unspoiled : Told m.objects (λ os. HasChunks os → IsUnspoiledEnd o)

-- done, refused, or no memory
abbrev pub IsComplete : Outcome → Type 0
IsComplete Done = ⊤
IsComplete Memory = ⊤
IsComplete (Refused r) = ⊤
IsComplete o = ⊥

-- With good words, a sound store of fewer than 2^32 keys and no count that rose, nothing else comes.
abbrev pub Completes : Met → Outcome → Type 0
Completes m o =
    AreWords m.words → ¬ (Rose m.origin_before m.origin_after) → ¬ (Rose m.source_before m.source_after) → ¬ (Rose m.sink_before m.sink_after)
    → Told m.objects (λ os. IsSoundStore os → HasFewer os (2 ^ 32) → IsComplete o)

-- The answer to what was met: an outcome with its status and line, its cause, and where it must come.
pub record IsAnswered (m : Met) (status : ℕ) (line : List ℕ) : Type 0 where
  pub outcome : Outcome
  pub gave : status ≡ status_of outcome
  pub says : line ≡ line_of outcome
  pub comes : Comes m outcome
  pub exact : IsExact m outcome
  pub complete : Completes m outcome

-- A command that ran: the depot started over the store and ended with what is handed back; its log is the command's walk, and what
-- was written is the command's text or a front of it. A creation that was done left its image there.
pub record HasCommanded {O : Type 0} (objects : O → Option Objects) (faults : O → ℕ) (words : List (List ℕ)) (before : O) (source source_left : Option (List ℕ)) (written : Option (List ℕ)) (after : O) (written_after : Option (List ℕ)) (left : Left) (status : ℕ) : Type 0 where
  pub first : Seen O
  pub last : Seen O
  pub catalog : Catalog
  pub started : IsStarted objects faults before first
  pub same : last.start ≡ first.start
  pub ended : IsEnded objects faults last after left catalog
  pub command : Command
  pub is : IsCommand command
  pub worded : words ≡ words_of command
  pub outcome : Outcome
  pub gave : status ≡ status_of outcome
  pub ran : HasRun command (setting objects first source source_left) left.log written written_after outcome
  pub images : outcome ≡ Done → HasLeft command (setting objects first source source_left) (objects before) left.log written written_after (objects after)
