-- Why a store wasn't opened.
use Rattle.std.specs.Prelude.{◌^◌, ℕ, Option, Some, None, IsSome, ⊤}
use Rattle.std.specs.FinMap as map
use Rattle.lr_spec.specs.Rose.{Rose}
use Rattle.lr_spec.specs.Told.{Told}
use Rattle.lr_origin.specs.Objects.{Objects}
use Rattle.lr_origin.specs.Text.{key_text}
use Rattle.lr_origin.specs.declared.key.KeyKind.{KeyKind}
use Rattle.lr_origin.specs.declared.key.KeyKind.TheVariants.{Chunk}
use Rattle.lr_opening.specs.declared.cause.StartCause.{StartCause}
use Rattle.lr_opening.specs.declared.cause.StartCause.TheVariants.{Fault, Spoiled, Foreign, TooMany, OutOfMemory}
use Rattle.lr_opening.specs.Listing.{HasFewer, HasMany}
use Rattle.lr_opening.specs.Store.{IsForeignKey}

-- opening gets the object under a key of this kind, which a chunk isn't
abbrev pub IsRead : KeyKind → Type 0
IsRead (Chunk r name) = ⊥
IsRead k = ⊤

-- The cause, for the objects that are told and the counts of faults before and after. A key that is listed is there,
-- so a store that tells its objects is never spoiled.
abbrev pub IsCause : Option Objects → ℕ → ℕ → StartCause → Type 0
IsCause told before after (Fault None) = Rose before after
IsCause told before after (Fault (Some k)) =
    Rose before after × IsRead k × Told told (λ m. IsSome (map.get m (key_text k)))
IsCause told before after (Spoiled k) = IsRead k × Told told (λ m. ⊥)
IsCause told before after (Foreign bytes) =
    Told told (λ m. IsForeignKey m bytes.items × HasFewer m (2 ^ 32))
IsCause told before after TooMany = Told told (λ m. HasMany m (2 ^ 32))
IsCause told before after OutOfMemory = ⊤
