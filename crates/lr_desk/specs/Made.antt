-- What a command over images that was done left or wrote.
use Rattle.std.specs.Prelude.{◌≡◌, ℕ, List, [], Option, Some, ⊤}
use Rattle.lr_spec.specs.Told.{Told}
use Rattle.lr_io.specs.Streams.{TakesAll, Appends}
use Rattle.lr_origin.specs.Objects.{Objects}
use Rattle.lr_opening.specs.Store.{HasChunks}
use Rattle.lr_depot.specs.Machine.{LogEntry}
use Rattle.lr_depot.specs.Depot.{LedTo, state}
use Rattle.lr_walk.specs.Depot.{Step}
use Rattle.lr_images.specs.declared.created.Created.TheVariants as by
use Rattle.lr_images.specs.Drive.{joined}
use Rattle.lr_images.specs.Made.{IsMade}
use Rattle.lr_images.specs.Cat as cat
use Rattle.lr_desk.specs.declared.outcome.Outcome.TheVariants.{Done}
use Rattle.lr_desk.specs.declared.words.Command.{Command}
use Rattle.lr_desk.specs.declared.words.Command.TheVariants as command
use Rattle.lr_desk.specs.Ends.{Setting, text_made, IsReadText, HasRun}

-- The source was read to its end, and the store has an image of all that was read: its manifest in the root that was written denotes
-- the padded bytes.
pub record LeavesImage (s : Setting) (n : Objects) (image tenant : List ℕ) (log : List LogEntry) (before after : Option (List ℕ)) : Type 0 where
  pub root : ℕ
  pub wrote : Appends before (text_made (by.Root root)) after
  pub pieces : List (List ℕ)
  pub taken : TakesAll s.source (joined pieces) s.left
  pub steps : List Step
  pub made : IsMade (state s.start log) n image tenant root pieces steps

-- A creation that was done leaves an image, in a store that was sound.
abbrev pub CreationsLeaveImages : Type 0
CreationsLeaveImages =
    (s : Setting) (m n : Objects) (image tenant : List ℕ) (log : List LogEntry) (before after : Option (List ℕ))
    → LedTo s.start m log n → HasChunks m → HasRun (command.Create image tenant) s log before after Done → LeavesImage s n image tenant log before after

-- What a command that was done left over images: of a creation the image, and of others nothing is said.
abbrev pub Leaves : Command → Setting → Objects → List LogEntry → Option (List ℕ) → Option (List ℕ) → Type 0
Leaves (command.Create image tenant) s n log before after = LeavesImage s n image tenant log before after
Leaves c s n log before after = ⊤

-- It left this in a store that told its objects and was sound, from these told objects to those.
abbrev pub HasLeft : Command → Setting → Option Objects → List LogEntry → Option (List ℕ) → Option (List ℕ) → Option Objects → Type 0
HasLeft c s told log before after told_after = Told told (λ m. HasChunks m → (n : Objects) × (told_after ≡ Some n) × Leaves c s n log before after)

-- The bytes that were written are those of the image: what its manifest denotes, cut to the raw length.
pub record WritesImage (s : Setting) (image tenant : List ℕ) (before after : Option (List ℕ)) : Type 0 where
  pub bytes : List ℕ
  pub wrote : Appends before bytes after
  pub steps : List Step
  pub read : IsReadText cat.with_bytes s image tenant steps bytes

-- A reading that was done writes the image.
abbrev pub ReadingsWriteImages : Type 0
ReadingsWriteImages =
    (s : Setting) (image tenant : List ℕ) (log : List LogEntry) (before after : Option (List ℕ)) → HasRun (command.Cat image tenant) s log before after Done → WritesImage s image tenant before after
