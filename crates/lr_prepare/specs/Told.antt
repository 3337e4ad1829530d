-- What the depot's log tells of the setup: why it stopped, or that nothing stopped it.
use Rattle.std.specs.Prelude.{◌≡◌, ℕ, List, [], ⊤}
use Rattle.lr_roots.specs.Names.{IsOneOf}
use Rattle.lr_depot.specs.Begun.{Start}
use Rattle.lr_depot.specs.Depot.{first_state}
use Rattle.lr_depot.specs.Machine.{LogEntry}
use Rattle.lr_walk.specs.Depot.{Reply, spoiled, seen_reply, seen_told}
use Rattle.lr_script.specs.Seen.{SetupSeen}
use Rattle.lr_setup.specs.Setup.{SetupLine, IsSetup}
use Rattle.lr_prepare.specs.declared.error.SetupError.{SetupError}
use Rattle.lr_prepare.specs.declared.error.SetupError.TheVariants.{Refused, Sealed, Fault, Spoiled, OutOfMemory}
use Rattle.lr_prepare.specs.Stopped.{Refuses, IsFault, IsPlain, IsLeft}

-- errors that a reply of the depot makes
abbrev pub IsOfDepot : SetupError → Type 0
IsOfDepot (Sealed line) = ⊥
IsOfDepot OutOfMemory = ⊥
IsOfDepot error = ⊤

-- this reply makes the error
abbrev pub Makes : Reply → SetupError → Type 0
Makes reply (Refused line refusal) = (seen_reply refusal ≡ reply) × Refuses reply
Makes reply Fault = IsFault reply
Makes reply (Spoiled key) = reply ≡ spoiled key
Makes reply error = ⊥

-- Where a reply made the error, an entry of the log has it.
abbrev pub ErrorsAreTold : Type 0
ErrorsAreTold =
    (start : Start) (setup : List (ℕ × SetupSeen)) (log : List LogEntry) (error : SetupError) → IsLeft start setup log error → IsOfDepot error
    → (e : LogEntry) × IsOneOf log e × Makes (seen_told e.reply) error

-- .. and where an entry has a refusal, a fault or a spoiled key, it made the error.
abbrev pub ToldErrorsCome : Type 0
ToldErrorsCome =
    (start : Start) (setup : List (ℕ × SetupSeen)) (log : List LogEntry) (error : SetupError) → IsLeft start setup log error
    → (e : LogEntry) → IsOneOf log e → (IsPlain (seen_told e.reply) → ⊥) → Makes (seen_told e.reply) error

-- Where all lines were done, no entry has one.
abbrev pub DoneSetupsArePlain : Type 0
DoneSetupsArePlain =
    (start : Start) (lines : List SetupLine) (log : List LogEntry) → IsSetup (first_state start) [] lines log → (e : LogEntry) → IsOneOf log e → IsPlain (seen_told e.reply)
