-- How a walk ends a command: the outcome of each reply, and the text that is written.
use Rattle.std.specs.Prelude.{◌≡◌, ◌⊎◌, ℕ, List, [], ◌∷◌, ◌++◌, map, codes, decimal, Result, Ok, Err, Vec, Option, ⊤}
use Rattle.std.specs.declared.alloc.Global.{Global}
use Rattle.lr_io.specs.Streams.{Appends, AppendsFront}
use Rattle.lr_origin.specs.Objects.{Objects}
use Rattle.lr_depot.specs.Begun.{Start}
use Rattle.lr_depot.specs.Machine.{LogEntry}
use Rattle.lr_depot.specs.Depot.{Seen}
use Rattle.lr_walk.specs.Depot as depots
use Rattle.lr_walk.specs.Depot.{Step, Reply, seen_reply}
use Rattle.lr_creator.specs.Creation.{Ending as Creating, piece, last, Creates}
use Rattle.lr_images.specs.declared.created.Created.{Created}
use Rattle.lr_images.specs.declared.created.Created.TheVariants as by
use Rattle.lr_images.specs.Drive.{GoesOn, joined}
use Rattle.lr_images.specs.Created.{IsAnswer, HasRead}
use Rattle.lr_images.specs.Cat as cat
use Rattle.lr_collector.specs.declared.collect.CollectJob.{CollectJob}
use Rattle.lr_collector.specs.declared.collect.CollectJob.TheVariants as job
use Rattle.lr_collector.specs.Collection.{Ending, with_reply, with_count, with_memory}
use Rattle.lr_desk.specs.declared.outcome.Refusal.TheVariants as refusal
use Rattle.lr_desk.specs.declared.outcome.Outcome.{Outcome}
use Rattle.lr_desk.specs.declared.outcome.Outcome.TheVariants.{Done, Usage, ReadFault, WriteFault, OriginFault, Memory, Refused, Foreign, Spoiled, TooMany}
use Rattle.lr_desk.specs.declared.words.Command.{Command}
use Rattle.lr_desk.specs.declared.words.Command.TheVariants as command
use Rattle.lr_migrator.specs.Migration as moves
use Rattle.lr_desk.specs.Drive.{HasCollected, HasMoved}
use Rattle.lr_desk.specs.Roots.{IsViewText}

-- how a command ends that this reply ended
abbrev pub outcome_of : Reply → Outcome
outcome_of (depots.rotated root) = Done
outcome_of depots.withdrawn = Done
outcome_of depots.expired = Done
outcome_of depots.deleted = Done
outcome_of depots.no_image = Refused refusal.NoImage
outcome_of depots.no_root = Refused refusal.NoRoot
outcome_of depots.taken = Refused refusal.Taken
outcome_of depots.full = Refused refusal.Full
outcome_of depots.roots_end = Refused refusal.RootsEnd
outcome_of (depots.overtaken home) = Refused (refusal.Overtaken home)
outcome_of (depots.not_retired_home home) = Refused (refusal.NotRetiredHome home)
outcome_of depots.not_retired = Refused refusal.NotRetired
outcome_of depots.not_expired = Refused refusal.NotExpired
outcome_of depots.not_deleted = Refused refusal.NotDeleted
outcome_of (depots.serves image) = Refused (refusal.Serves image)
outcome_of (depots.session_on number) = Refused (refusal.Session number)
outcome_of (depots.doubt key) = Refused (refusal.Doubt key)
outcome_of (depots.fault key) = OriginFault
outcome_of (depots.spoiled key) = Spoiled key
outcome_of reply = Memory

-- what is written where this reply did a command
abbrev pub text_of : Reply → List ℕ
text_of (depots.rotated root) = codes "root " ++ (decimal root ++ codes "\n")
text_of depots.withdrawn = codes "withdrawn\n"
text_of depots.expired = codes "expired\n"
text_of depots.deleted = codes "deleted\n"
text_of reply = []

-- .. and of a collection
abbrev pub outcome_at : Ending → Outcome
outcome_at (with_reply reply) = outcome_of reply
outcome_at (with_count count) = Done
outcome_at with_memory = Memory

abbrev pub text_at : Ending → List ℕ
text_at (with_reply reply) = text_of reply
text_at (with_count count) = codes "swept " ++ (decimal count ++ codes "\n")
text_at with_memory = []

-- The log is the walk of a collection, which has this outcome and this text.
abbrev pub Collected : CollectJob → List LogEntry → Outcome → List ℕ → Type 0
Collected j log o text = (end : Ending) × HasCollected [] j log end × (o ≡ outcome_at end) × (text ≡ text_at end)

-- .. and of a migration
abbrev pub outcome_moved : moves.Ending → Outcome
outcome_moved (moves.with_roots from to) = Done
outcome_moved (moves.with_reply reply) = outcome_of reply
outcome_moved moves.with_memory = Memory

abbrev pub text_moved : moves.Ending → List ℕ
text_moved (moves.with_roots from to) = codes "moved " ++ (decimal from ++ (codes " " ++ (decimal to ++ codes "\n")))
text_moved (moves.with_reply reply) = text_of reply
text_moved moves.with_memory = []

-- The log is the walk of a migration, which has this outcome and this text.
abbrev pub Moved : List ℕ → List LogEntry → Outcome → List ℕ → Type 0
Moved image log o text = (end : moves.Ending) × HasMoved [] image log end × (o ≡ outcome_moved end) × (text ≡ text_moved end)

-- ---- images

-- What a command is done over: what its depot was started with, the objects that the depot's store told then, and the bytes that the
-- source had left before and after.
pub record Setting : Type 0 where
  pub start : Start
  pub objects : Option Objects
  pub source : Option (List ℕ)
  pub left : Option (List ℕ)

abbrev pub setting : {O : Type 0} → (O → Option Objects) → Seen O → Option (List ℕ) → Option (List ℕ) → Setting
setting objects d source left = record { start = d.start; objects = objects d.origin; source = source; left = left }

-- how a command ends that wasn't done
abbrev pub failure : Outcome → Outcome
failure Done = Memory
failure o = o

-- .. of a creation
abbrev pub outcome_made : Created → Outcome
outcome_made (by.Root root) = Done
outcome_made (by.Refused reply) = failure (outcome_of (seen_reply reply))
outcome_made by.ReadFault = ReadFault
outcome_made by.TooLong = Refused refusal.TooLong
outcome_made by.OutOfMemory = Memory

abbrev pub text_made : Created → List ℕ
text_made (by.Root root) = codes "created " ++ (decimal root ++ codes "\n")
text_made created = []

-- The log is the walk of a creation of what was read of the source, which has this outcome and this text.
pub record Made (image tenant : List ℕ) (s : Setting) (log : List LogEntry) (o : Outcome) (text : List ℕ) : Type 0 where
  pub created : Created
  pub pieces : List (List ℕ)
  pub taken : HasRead created s.source (joined pieces) s.left
  pub steps : List Step
  pub end : Creating
  pub walk : Creates image tenant (map piece pieces ++ last ∷ []) steps end
  pub answer : IsAnswer created end
  pub goes_on : GoesOn [] log steps
  pub ends : o ≡ outcome_made created
  pub writes : text ≡ text_made created

-- .. and of a reading
abbrev pub outcome_read : cat.Ending → Outcome
outcome_read cat.with_bytes = Done
outcome_read (cat.with_reply reply) = failure (outcome_of reply)
outcome_read cat.with_wrong_key = Refused refusal.Sealed
outcome_read cat.with_memory = Memory

-- the bytes that a reading gives: what the image's manifest denotes, cut to the raw length
abbrev pub IsReadText : cat.Ending → Setting → List ℕ → List ℕ → List Step → List ℕ → Type 0
IsReadText cat.with_bytes s image tenant steps text = cat.IsRead (λ (told : Option Objects). told) (record { origin = s.objects; start = s.start; log = [] }) image tenant steps text
IsReadText end s image tenant steps text = text ≡ []

-- The log is the walk of the reading of an image, which has this outcome and this text.
pub record WasRead (image tenant : List ℕ) (s : Setting) (log : List LogEntry) (o : Outcome) (text : List ℕ) : Type 0 where
  pub steps : List Step
  pub end : cat.Ending
  pub walk : cat.Cats image tenant steps end
  pub goes_on : GoesOn [] log steps
  pub ends : o ≡ outcome_read end
  pub writes : IsReadText end s image tenant steps text

-- ---- commands

-- The log is the command's walk, which has this outcome and this text. `roots` makes no call, and finds memory for the text of the
-- view at the start or doesn't.
abbrev pub HasWalked : Command → Setting → List LogEntry → Outcome → List ℕ → Type 0
HasWalked (command.Create image tenant) s log o text = Made image tenant s log o text
HasWalked (command.Cat image tenant) s log o text = WasRead image tenant s log o text
HasWalked (command.Rotate bytes) s log o text = Collected (job.Rotate bytes) log o text
HasWalked (command.Migrate image) s log o text = Moved image log o text
HasWalked (command.Withdraw image) s log o text = Collected (job.Withdraw image) log o text
HasWalked (command.Expire root) s log o text = Collected (job.Expire root) log o text
HasWalked (command.Delete root) s log o text = Collected (job.Delete root) log o text
HasWalked (command.Sweep root) s log o text = Collected (job.Sweep root) log o text
HasWalked command.Roots s log o text = (log ≡ []) × (((o ≡ Done) × IsViewText s.start.view text) ⊎ (o ≡ Memory))

-- Another outcome than the walk's: only want of memory, where the walk did the command.
abbrev pub IsOther : Outcome → Outcome → Type 0
IsOther Done e = e ≡ Memory
IsOther o e = e ≡ o

-- the text of a command that was done, or how else it ended
abbrev pub Yields : Outcome → List ℕ → Result (Vec ℕ Global) Outcome → Type 0
Yields o text (Ok v) = (o ≡ Done) × (v.items ≡ text)
Yields o text (Err e) = IsOther o e

-- How a text was written: all of it, or a front.
abbrev pub IsWritten : Option (List ℕ) → List ℕ → Option (List ℕ) → Outcome → Type 0
IsWritten before text after Done = Appends before text after
IsWritten before text after WriteFault = AppendsFront before text after
IsWritten before text after Memory = AppendsFront before text after
IsWritten before text after o = ⊥

-- How a command ended whose walk has this outcome and this text: where it was done the text was written, or a front of it; else nothing was.
abbrev pub IsFinish : Outcome → List ℕ → Option (List ℕ) → Option (List ℕ) → Outcome → Type 0
IsFinish Done text before after e = IsWritten before text after e
IsFinish o text before after e = (e ≡ o) × (after ≡ before)

-- A command that ran over a depot: its log is the walk, and it ended so.
abbrev pub HasRun : Command → Setting → List LogEntry → Option (List ℕ) → Option (List ℕ) → Outcome → Type 0
HasRun c s log before after e = (o : Outcome) × (text : List ℕ) × HasWalked c s log o text × IsFinish o text before after e

-- an outcome that a walk may have
abbrev pub IsWalkOutcome : Outcome → Type 0
IsWalkOutcome Done = ⊤
IsWalkOutcome ReadFault = ⊤
IsWalkOutcome OriginFault = ⊤
IsWalkOutcome Memory = ⊤
IsWalkOutcome (Refused r) = ⊤
IsWalkOutcome (Spoiled key) = ⊤
IsWalkOutcome o = ⊥
