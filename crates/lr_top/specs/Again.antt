-- Reading an image back over a store that has it.
use Rattle.std.specs.Prelude.{◌≡◌, ◌⊎◌, ◌^◌, ℕ, List, take, Option, Some}
use Rattle.lr_spec.specs.Rose.{Rose}
use Rattle.lr_io.specs.Streams.{Appends}
use Rattle.lr_origin.specs.Objects.{Objects}
use Rattle.lr_depot.specs.Machine.{LogEntry}
use Rattle.lr_depot.specs.Store.{IsRun}
use Rattle.lr_depot.specs.Depot.{IsStart, first_state}
use Rattle.lr_opening.specs.Listing.{HasFewer}
use Rattle.lr_opening.specs.Store.{IsSoundStore}
use Rattle.lr_stop.specs.Images.{IsKept, ReadsBack}
use Rattle.lr_desk.specs.declared.outcome.Outcome.{Outcome}
use Rattle.lr_desk.specs.declared.outcome.Outcome.TheVariants.{Done, Memory}
use Rattle.lr_desk.specs.declared.words.Command.TheVariants as command
use Rattle.lr_desk.specs.Words.{IsCommand, words_of}
use Rattle.lr_desk.specs.Ends.{Setting, HasRun}
use Rattle.lr_desk.specs.Causes.{IsComplete}
use Rattle.lr_top.specs.Gives.{Streams}

-- A reading of an image that the store has, which ends done, refused or with want of memory, writes the image's bytes, cut to the raw
-- length, or finds no memory.
abbrev pub ImagesAreReadAgain : Type 0
ImagesAreReadAgain =
    (s : Setting) (n : Objects) (image tenant bytes : List ℕ) (log : List LogEntry) (before after : Option (List ℕ)) (o : Outcome)
    → IsStart s.start → s.start.objects ≡ Some n → s.objects ≡ Some n → IsRun (first_state s.start) log
    → (back : ReadsBack n image tenant bytes) → IsKept n image → HasRun (command.Cat image tenant) s log before after o → IsComplete o
    → ((o ≡ Done) × Appends before (take back.fields.raw_len bytes) after) ⊎ (o ≡ Memory)

-- `cat` over a sound store of fewer than 2^32 keys that has the image, where nothing fails: with status 0 the sink got the image's bytes, cut to
-- the raw length, and else memory wants.
abbrev pub ReadsAgain : Option Objects → ℕ → ℕ → Streams → List (List ℕ) → ℕ → Type 0
ReadsAgain told faults_before faults_after s words status =
    (image tenant bytes : List ℕ) (n : Objects) → words ≡ words_of (command.Cat image tenant) → IsCommand (command.Cat image tenant)
    → told ≡ Some n → IsSoundStore n → HasFewer n (2 ^ 32)
    → ¬ (Rose faults_before faults_after) → ¬ (Rose s.failed_before s.failed_after) → ¬ (Rose s.sunk.faults_before s.sunk.faults_after)
    → (back : ReadsBack n image tenant bytes) → IsKept n image
    → ((status ≡ 0) × Appends s.sunk.written_before (take back.fields.raw_len bytes) s.sunk.written_after) ⊎ (status ≡ 7)
