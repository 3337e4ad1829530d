-- Which answers never come over a store that was sound, and where no entry of the log tells of a fault.
use Rattle.std.specs.Prelude.{◌≡◌, ◌≢◌, ◌++◌, ℕ, List, [], ◌∷◌, map as each, ⊤}
use Rattle.lr_origin.specs.Objects.{Objects}
use Rattle.lr_origin.specs.declared.key.KeyKind.{KeyKind}
use Rattle.lr_roots.specs.Names.{IsOneOf}
use Rattle.lr_opening.specs.Store.{HasChunks}
use Rattle.lr_depot.specs.declared.call.DepotTold.TheVariants as told
use Rattle.lr_depot.specs.Begun.{Start}
use Rattle.lr_depot.specs.Machine.{LogEntry}
use Rattle.lr_depot.specs.Depot.{LedTo}
use Rattle.lr_walk.specs.Depot.{Step, Reply, memory, nothing, seen_told}
use Rattle.lr_creator.specs.Creation.{with_reply, piece, last, Creates}
use Rattle.lr_images.specs.Drive.{GoesOn}
use Rattle.lr_images.specs.Cat as cat

-- No entry tells that the store was found spoiled.
abbrev pub IsUnspoiled : List LogEntry → Type 0
IsUnspoiled log = (e : LogEntry) → IsOneOf log e → (k : KeyKind) → e.reply ≢ told.Spoiled k

-- a reply that the log keeps
abbrev pub IsLogged : Reply → Type 0
IsLogged memory = ⊥
IsLogged nothing = ⊥
IsLogged reply = ⊤

-- an entry tells of this reply
abbrev pub TellsReply : List LogEntry → Reply → Type 0
TellsReply log reply = (e : LogEntry) × IsOneOf log e × (seen_told e.reply ≡ reply)

-- A log over a store that was sound finds nothing spoiled.
abbrev pub SoundStoresAreUnspoiled : Type 0
SoundStoresAreUnspoiled = (start : Start) (m n : Objects) (log : List LogEntry) → LedTo start m log n → HasChunks m → IsUnspoiled log

-- An answer that the depot ended a creation with stands in its log.
abbrev pub CreationsTellWhy : Type 0
CreationsTellWhy =
    (before log : List LogEntry) (image tenant : List ℕ) (pieces : List (List ℕ)) (steps : List Step) (reply : Reply)
    → IsLogged reply → GoesOn before log steps → Creates image tenant (each piece pieces ++ last ∷ []) steps (with_reply reply) → TellsReply log reply

-- .. and so does one that it ended a reading with
abbrev pub ReadingsTellWhy : Type 0
ReadingsTellWhy =
    (before log : List LogEntry) (image tenant : List ℕ) (steps : List Step) (reply : Reply)
    → IsLogged reply → GoesOn before log steps → cat.Cats image tenant steps (cat.with_reply reply) → TellsReply log reply
