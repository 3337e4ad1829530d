-- What a depot replies to a command: the command is its only caller, and comes to it as it starts.
use Rattle.std.specs.Prelude.{◌≡◌, ℕ, List, All, ⊤}
use Rattle.lr_depot.specs.Machine.{LogEntry}
use Rattle.lr_depot.specs.Store.{IsRun}
use Rattle.lr_depot.specs.Depot.{IsStart, first_state}
use Rattle.lr_walk.specs.Depot.{Reply, no_lease, no_chunk, no_session, nonce, missing, doubt, session_on, seen_told}
use Rattle.lr_collector.specs.Collection as collections
use Rattle.lr_migrator.specs.Migration as moves
use Rattle.lr_images.specs.declared.created.Created.TheVariants as by
use Rattle.lr_images.specs.Cat as cat
use Rattle.lr_desk.specs.declared.outcome.Outcome.{Outcome}
use Rattle.lr_desk.specs.declared.outcome.Outcome.TheVariants.{Memory}
use Rattle.lr_desk.specs.declared.words.Command.{Command}
use Rattle.lr_desk.specs.declared.words.Command.TheVariants as command
use Rattle.lr_desk.specs.Ends.{Setting, HasWalked}

-- A reply that comes to an only caller: none that its lease, its session or a chunk isn't there, that its manifest isn't its
-- session's, that a put was in doubt before, or that another has a session.
abbrev pub ComesAlone : Reply → Type 0
ComesAlone no_lease = ⊥
ComesAlone no_chunk = ⊥
ComesAlone no_session = ⊥
ComesAlone nonce = ⊥
ComesAlone (missing index) = ⊥
ComesAlone (doubt key) = ⊥
ComesAlone (session_on session) = ⊥
ComesAlone reply = ⊤

-- Each entry of the log has such a reply.
abbrev pub AreAlone : List LogEntry → Type 0
AreAlone log = All (λ (e : LogEntry). ComesAlone (seen_told e.reply)) log

-- The log of each command that a depot, as it starts, can have.
abbrev pub CommandsComeAlone : Type 0
CommandsComeAlone =
    (c : Command) (s : Setting) (log : List LogEntry) (o : Outcome) (text : List ℕ)
    → IsStart s.start → IsRun (first_state s.start) log → HasWalked c s log o text → AreAlone log

-- The command found no memory, or its depot told of none.
abbrev pub FoundNoMemory : (c : Command) (s : Setting) (log : List LogEntry) (o : Outcome) (text : List ℕ) → HasWalked c s log o text → Type 0
FoundNoMemory (command.Create image tenant) s log o text w = w.created ≡ by.OutOfMemory
FoundNoMemory (command.Cat image tenant) s log o text w = w.end ≡ cat.with_memory
FoundNoMemory (command.Rotate bytes) s log o text w = w.0 ≡ collections.with_memory
FoundNoMemory (command.Migrate image) s log o text w = w.0 ≡ moves.with_memory
FoundNoMemory (command.Withdraw image) s log o text w = w.0 ≡ collections.with_memory
FoundNoMemory (command.Expire root) s log o text w = w.0 ≡ collections.with_memory
FoundNoMemory (command.Delete root) s log o text w = w.0 ≡ collections.with_memory
FoundNoMemory (command.Sweep root) s log o text w = w.0 ≡ collections.with_memory
FoundNoMemory command.Roots s log o text w = ⊤

-- Want of memory is told for nothing else: no other reply ends a walk with that outcome.
abbrev pub MemoryIsWanted : Type 0
MemoryIsWanted =
    (c : Command) (s : Setting) (log : List LogEntry) (o : Outcome) (text : List ℕ)
    → IsStart s.start → IsRun (first_state s.start) log → (w : HasWalked c s log o text) → o ≡ Memory → FoundNoMemory c s log o text w
