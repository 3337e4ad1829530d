-- What the creation of an image from a source answers, and what it did.
use Rattle.std.specs.Prelude.{◌≡◌, ◌⊎◌, ◌≤◌, ◌+◌, ℕ, List, [], ◌∷◌, ◌++◌, length, map, Option, ⊤}
use Rattle.lr_spec.specs.Rose.{Rose}
use Rattle.lr_io.specs.Streams.{Takes, TakesAll}
use Rattle.lr_depot.specs.declared.call.DepotReply.TheVariants.{Fault}
use Rattle.lr_depot.specs.Depot.{Seen}
use Rattle.lr_walk.specs.Depot.{Step, seen_reply}
use Rattle.lr_creator.specs.Creation.{Ending, with_root, with_reply, with_memory, with_stop, Input, piece, last, Creates}
use Rattle.lr_creator.specs.Progress.{Progress}
use Rattle.lr_images.specs.declared.created.Created.{Created}
use Rattle.lr_images.specs.declared.created.Created.TheVariants.{Root, Refused, ReadFault, TooLong, OutOfMemory}
use Rattle.lr_images.specs.declared.pieces.Read.{Read}
use Rattle.lr_images.specs.declared.pieces.Read.TheVariants as read
use Rattle.lr_images.specs.Drive.{Calls, Drives, IsFaultEnd, joined}

-- the answer of a creation that ended so; it is stopped where its source fails or has too many bytes, or no memory is found for them
abbrev pub IsAnswer : Created → Ending → Type 0
IsAnswer (Root root) end = end ≡ with_root root
IsAnswer (Refused reply) end = end ≡ with_reply (seen_reply reply)
IsAnswer ReadFault end = end ≡ with_stop
IsAnswer TooLong end = end ≡ with_stop
IsAnswer OutOfMemory end = (end ≡ with_memory) ⊎ (end ≡ with_stop)

-- What was read of the source, and what it has left. After a read that failed or found no memory nothing is said of what is left.
abbrev pub HasRead : Created → Option (List ℕ) → List ℕ → Option (List ℕ) → Type 0
HasRead (Root root) left bytes after = (length bytes ≤ 67108864) × TakesAll left bytes after
HasRead (Refused reply) left bytes after = (length bytes ≤ 67108864) × Takes left bytes after
HasRead TooLong left bytes after = (length bytes ≡ 67108865) × Takes left bytes after
HasRead ReadFault left bytes after = ⊤
HasRead OutOfMemory left bytes after = ⊤

-- The depot's store failed.
abbrev pub IsStoreFault : Created → Type 0
IsStoreFault (Refused (Fault k)) = ⊤
IsStoreFault created = ⊥

-- The creation of an image by caller 0 with this answer: what was read, in pieces, each but the last a whole chunk; the depot's log goes
-- on by the walk of a creation of these pieces; and the count of the store's faults rose where the answer tells that it failed.
pub record IsCreation {O : Type 0} (faults : O → ℕ) (old : Seen O) (left : Option (List ℕ)) (image tenant : List ℕ) (created : Created) (new : Seen O) (left_after : Option (List ℕ)) : Type 0 where
  pub pieces : List (List ℕ)
  pub taken : HasRead created left (joined pieces) left_after
  pub steps : List Step
  pub end : Ending
  pub walk : Creates image tenant (map piece pieces ++ last ∷ []) steps end
  pub answer : IsAnswer created end
  pub calls : Calls faults old new steps
  pub cause : IsStoreFault created → Rose (faults old.origin) (faults new.origin)

-- The creation under way: what was read, in pieces, of so many bytes, was all given, and the creation drives it.
pub record IsUnderWay {O : Type 0} (faults : O → ℕ) (base : Seen O) (left : Option (List ℕ)) (p : Progress) (len : ℕ) (d : Seen O) (left_now : Option (List ℕ)) : Type 0 where
  pub pieces : List (List ℕ)
  pub size : length (joined pieces) ≡ len
  pub taken : Takes left (joined pieces) left_now
  pub drives : Drives faults base p (map piece pieces) d

-- what is read after so many bytes: a whole chunk, the last bytes, or the one byte past the limit
abbrev pub IsNextPiece : Read → ℕ → Option (List ℕ) → Option (List ℕ) → Type 0
IsNextPiece (read.Whole plain) len left after = (length plain.items ≡ 524288) × (len + 524288 ≤ 67108864) × Takes left plain.items after
IsNextPiece (read.Last plain) len left after = (length plain.items ≤ 524288) × (len + length plain.items ≤ 67108864) × TakesAll left plain.items after
IsNextPiece (read.Past plain) len left after = (len + length plain.items ≡ 67108865) × Takes left plain.items after
IsNextPiece read.Fault len left after = ⊤
IsNextPiece read.OutOfMemory len left after = ⊤
