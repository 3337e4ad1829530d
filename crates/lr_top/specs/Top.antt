-- What the top call answers.
use Rattle.std.specs.Prelude.{◌≡◌, ◌⊎◌, ◌≤◌, ℕ, ◌^◌, List, [], length, Option, Some, ⊤}
use Rattle.lr_spec.specs.Rose.{Rose}
use Rattle.lr_spec.specs.Told.{Told}
use Rattle.lr_io.specs.Streams.{Takes}
use Rattle.lr_origin.specs.Objects.{Objects}
use Rattle.lr_roots.specs.Names.{IsOneOf}
use Rattle.lr_roots.specs.Catalog.{Seen as Catalog}
use Rattle.lr_opening.specs.Cause.{IsRead}
use Rattle.lr_opening.specs.Listing.{HasFewer, HasMany}
use Rattle.lr_opening.specs.Store.{IsForeignKey, HasChunks, IsSoundStore}
use Rattle.lr_depot.specs.Machine.{LogEntry}
use Rattle.lr_depot.specs.Left.{Left}
use Rattle.lr_depot.specs.Depot.{Seen, IsStarted, IsEnded}
use Rattle.lr_walk.specs.Depot.{seen_reply, seen_told}
use Rattle.lr_script.specs.Seen.{ScriptSeen}
use Rattle.lr_script.specs.Grammar.{Spells, FirstOutside}
use Rattle.lr_desk.specs.declared.outcome.Outcome.{Outcome}
use Rattle.lr_desk.specs.declared.outcome.Outcome.TheVariants.{Done, Usage, ReadFault, WriteFault, OriginFault, Memory, Refused, Foreign, Spoiled, TooMany}
use Rattle.lr_desk.specs.declared.outcome.Refusal.TheVariants.{Sealed as WrongKey}
use Rattle.lr_desk.specs.Ends.{outcome_of, failure}
use Rattle.lr_prepare.specs.declared.error.SetupError.{SetupError}
use Rattle.lr_prepare.specs.declared.error.SetupError.TheVariants as setup
use Rattle.lr_prepare.specs.Stopped.{IsPlain, IsLeft}
use Rattle.lr_prepare.specs.Told.{IsOfDepot, Makes}
use Rattle.lr_report.specs.declared.run.Run.{Run}
use Rattle.lr_top.specs.declared.input.InputError.{InputError}
use Rattle.lr_top.specs.declared.input.InputError.TheVariants as input
use Rattle.lr_top.specs.declared.outcome.RunRecord.{RunRecord}
use Rattle.lr_top.specs.declared.outcome.RunRecord.TheVariants as record_of
use Rattle.lr_top.specs.declared.ends.PlayEnd.{PlayEnd}
use Rattle.lr_top.specs.declared.ends.PlayEnd.TheVariants.{By, OutsideAt, RefusedAt}
use Rattle.lr_top.specs.Ends.{status_of, line_of}

-- ---- the script

-- All that was left spells this script, and nothing is left.
abbrev pub IsReadAs : Option (List ℕ) → ScriptSeen → Option (List ℕ) → Type 0
IsReadAs left script left_after = Told left (λ xs. Spells xs script × (left_after ≡ Some []))

-- At most this many bytes were taken from the front of what was left.
abbrev pub TakesUpTo : Option (List ℕ) → ℕ → Option (List ℕ) → Type 0
TakesUpTo left most left_after = (bytes : List ℕ) × (length bytes ≤ most) × Takes left bytes left_after

-- Line n of what is left is the first outside the grammar.
abbrev pub IsOutsideAt : Option (List ℕ) → ℕ → Type 0
IsOutsideAt left n = Told left (λ xs. FirstOutside xs n)

-- What is left is a script, as no line of it is outside.
abbrev pub HasNoLineOutside : Option (List ℕ) → Type 0
HasNoLineOutside left = Told left (λ xs. (n : ℕ) → FirstOutside xs n → ⊥)

-- ---- the record

-- What holds of a record: nothing was run, or this was. Of a command's record it says nothing.
abbrev pub MatchRun : RunRecord → Type 0 → (Run → Type 0) → Type 0
MatchRun record_of.Nothing none some = none
MatchRun (record_of.Command left) none some = ⊤
MatchRun (record_of.Run run) none some = some run

-- What holds of the run, where there is one.
abbrev pub IfRun : RunRecord → (Run → Type 0) → Type 0
IfRun r P = MatchRun r ⊤ P

-- What holds of what is left of the depot, where no run was begun.
abbrev pub IfCommand : RunRecord → (Left → Type 0) → Type 0
IfCommand (record_of.Command left) P = P left
IfCommand r P = ⊤

-- the log of the depot, where no run was begun
abbrev pub log_of : RunRecord → List LogEntry
log_of (record_of.Command left) = left.log
log_of r = []

-- ---- how a play ends

-- What a play met: the objects that the store told, the bytes that the source told, and the counts of faults before and after.
pub record Met : Type 0 where
  pub objects : Option Objects
  pub source : Option (List ℕ)
  pub origin_before : ℕ
  pub origin_after : ℕ
  pub source_before : ℕ
  pub source_after : ℕ
  pub sink_before : ℕ
  pub sink_after : ℕ

-- how a play ends whose script wasn't read
abbrev pub unread_end : InputError → PlayEnd
unread_end (input.Outside n) = OutsideAt n
unread_end input.Failed = By ReadFault
unread_end input.OutOfMemory = By Memory

-- a refusal at the line of this number
abbrev pub at_line : ℕ → Outcome → PlayEnd
at_line n (Refused refusal) = RefusedAt n refusal
at_line n outcome = By outcome

-- how a play ends whose setup stopped
abbrev pub end_of : SetupError → PlayEnd
end_of (setup.Refused n reply) = at_line n (failure (outcome_of (seen_reply reply)))
end_of (setup.Sealed n) = RefusedAt n WrongKey
end_of setup.Fault = By OriginFault
end_of (setup.Spoiled key) = By (Spoiled key)
end_of setup.OutOfMemory = By Memory

-- Where each end comes. The cause of a refused line, and of a spoiled key that the setup met, is the depot's log (`HasStopped`).
abbrev pub ComesBy : Met → Outcome → Type 0
ComesBy m Done = ⊤
ComesBy m Usage = ⊥
ComesBy m ReadFault = Rose m.source_before m.source_after
ComesBy m WriteFault = Rose m.sink_before m.sink_after
ComesBy m OriginFault = Rose m.origin_before m.origin_after
ComesBy m Memory = ⊤
ComesBy m (Refused refusal) = ⊥
ComesBy m (Foreign key) = Told m.objects (λ os. IsForeignKey os key.items × HasFewer os (2 ^ 32))
ComesBy m (Spoiled key) = ⊤
ComesBy m TooMany = Told m.objects (λ os. HasMany os (2 ^ 32))

abbrev pub Comes : Met → PlayEnd → Type 0
Comes m (By outcome) = ComesBy m outcome
Comes m (OutsideAt n) = IsOutsideAt m.source n
Comes m (RefusedAt n refusal) = ⊤

-- The setup of a script stopped, or no memory was found before the first step of an actor: the lines in front were done, the end tells
-- what stopped the next one, and the depot ended with what is handed back. The depot's answer stopped it exactly where an entry of the log
-- has a refusal, a fault of the store or a spoiled key.
pub record StoppedFrom {O : Type 0} (objects : O → Option Objects) (faults : O → ℕ) (first : Seen O) (script : ScriptSeen) (after : O) (left : Left) (end : PlayEnd) : Type 0 where
  pub last : Seen O
  pub catalog : Catalog
  pub same : last.start ≡ first.start
  pub ended : IsEnded objects faults last after left catalog
  pub error : SetupError
  pub stopped : IsLeft first.start script.setup left.log error
  pub told : IsOfDepot error → (e : LogEntry) × IsOneOf left.log e × Makes (seen_told e.reply) error
  pub only : (e : LogEntry) → IsOneOf left.log e → (IsPlain (seen_told e.reply) → ⊥) → Makes (seen_told e.reply) error
  pub tells : end ≡ end_of error

-- .. of a script that was read, and the depot started over the store
pub record HasStopped {O : Type 0} (objects : O → Option Objects) (faults : O → ℕ) (before after : O) (reads : ScriptSeen → Type 0) (left : Left) (end : PlayEnd) : Type 0 where
  pub first : Seen O
  pub started : IsStarted objects faults before first
  pub script : ScriptSeen
  pub read : reads script
  pub from : StoppedFrom objects faults first script after left end

-- a play was done, or its report found no memory or a sink that failed
abbrev pub IsPlayEnd : PlayEnd → Type 0
IsPlayEnd end = (end ≡ By Done) ⊎ ((end ≡ By WriteFault) ⊎ (end ≡ By Memory))

-- the script wasn't read or the depot didn't start, which finds nothing spoiled in a store that tells its objects
abbrev pub IsUnbegun : Option Objects → PlayEnd → Type 0
IsUnbegun told (By Done) = ⊥
IsUnbegun told (By WriteFault) = ⊥
IsUnbegun told (By (Spoiled key)) = IsRead key × Told told (λ os. ⊥)
IsUnbegun told (RefusedAt n refusal) = ⊥
IsUnbegun told end = ⊤

-- Which ends each record has: with a run the play was done, or its report found no memory or a sink that failed; a depot that started
-- without a run stopped; else no depot started.
abbrev pub Leaves : {O : Type 0} → (O → Option Objects) → (O → ℕ) → O → O → (ScriptSeen → Type 0) → RunRecord → PlayEnd → Type 0
Leaves objects faults before after reads record_of.Nothing end = IsUnbegun (objects before) end
Leaves objects faults before after reads (record_of.Command left) end = HasStopped objects faults before after reads left end
Leaves objects faults before after reads (record_of.Run run) end = IsPlayEnd end

-- how a store with a foreign key ends a play whose script is one
abbrev pub IsForeignEnd : Objects → PlayEnd → Type 0
IsForeignEnd os (By (Foreign key)) = IsForeignKey os key.items
IsForeignEnd os (By ReadFault) = ⊤
IsForeignEnd os (By OriginFault) = ⊤
IsForeignEnd os (By Memory) = ⊤
IsForeignEnd os (OutsideAt n) = ⊤
IsForeignEnd os end = ⊥

-- how a store with too many keys does
abbrev pub IsManyEnd : PlayEnd → Type 0
IsManyEnd (By TooMany) = ⊤
IsManyEnd (By ReadFault) = ⊤
IsManyEnd (By OriginFault) = ⊤
IsManyEnd (By Memory) = ⊤
IsManyEnd (OutsideAt n) = ⊤
IsManyEnd end = ⊥

-- not for a spoiled key
abbrev pub IsUnspoiledEnd : PlayEnd → Type 0
IsUnspoiledEnd (By (Spoiled key)) = ⊥
IsUnspoiledEnd end = ⊤

-- done, a line refused, or no memory
abbrev pub IsComplete : PlayEnd → Type 0
IsComplete (By Done) = ⊤
IsComplete (By Memory) = ⊤
IsComplete (RefusedAt n refusal) = ⊤
IsComplete end = ⊥

-- With a script, a sound store of fewer than 2^32 keys and no count that rose, nothing else comes.
abbrev pub Completes : Met → PlayEnd → Type 0
Completes m end =
    ¬ (Rose m.origin_before m.origin_after) → ¬ (Rose m.source_before m.source_after) → ¬ (Rose m.sink_before m.sink_after)
    → Told m.source (λ xs. (script : ScriptSeen) → Spells xs script → Told m.objects (λ os. IsSoundStore os → HasFewer os (2 ^ 32) → IsComplete end))

-- Where an end must come: a foreign key, too many keys, or a script and a store with which nothing is wrong. Before that the reading may
-- end, and while a store is opened it may fail or memory may want. Over a store whose chunks have their length and digest no key is spoiled.
pub record IsExact (m : Met) (end : PlayEnd) : Type 0 where
  pub foreign : Told m.objects (λ os. (key : List ℕ) → IsForeignKey os key → HasFewer os (2 ^ 32) → IsForeignEnd os end)
  pub many : Told m.objects (λ os. HasMany os (2 ^ 32) → IsManyEnd end)
  pub complete : Completes m end
  pub unspoiled : Told m.objects (λ os. HasChunks os → IsUnspoiledEnd end)

-- The answer to what was met: an end with its status and line, its cause, what it leaves, and where it must come.
pub record IsPlayedAs {O : Type 0} (objects : O → Option Objects) (faults : O → ℕ) (before after : O) (reads : ScriptSeen → Type 0) (m : Met) (left : RunRecord) (status : ℕ) (line : List ℕ) : Type 0 where
  pub end : PlayEnd
  pub gave : status ≡ status_of end
  pub says : line ≡ line_of end
  pub comes : Comes m end
  pub leaves : Leaves objects faults before after reads left end
  pub exact : IsExact m end
