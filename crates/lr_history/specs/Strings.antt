-- The strings of a run, among which digests are to tell apart.
use Rattle.std.specs.Prelude.{ℕ, List, [], ◌++◌, map, filter, Some, Bool, ◌&&◌, ◌==◌, slice_index}
use Rattle.std.specs.List.{flat_map}
use Rattle.std.specs.Arc.{arc_value}
use Rattle.std.specs.FinMap as finmap
use Rattle.lr_convergent.specs.declared.piece.KeptPiece.{KeptPiece}
use Rattle.lr_seal.specs.Made.{sealed_chunks}
use Rattle.lr_origin.specs.Objects.{Objects}
use Rattle.lr_device.specs.declared.step.DeviceNoted.{DeviceNoted}
use Rattle.lr_device.specs.declared.step.DeviceNoted.TheVariants.{Commit}
use Rattle.lr_device.specs.declared.step.DeviceAnswer.{DeviceAnswer}
use Rattle.lr_device.specs.declared.step.DeviceAnswer.TheVariants.{Committed}
use Rattle.lr_device.specs.Machine.{LogEntry}
use Rattle.lr_history.specs.Run.{Creation, creation_of, DeviceSeen, Run}

-- the sealed chunks of a creation
abbrev pub chunks_made : Creation → List (List ℕ)
chunks_made c = sealed_chunks c.salt c.raw

-- whether a key is that of a chunk: `r/`, a root in ten digits, `/c`
abbrev pub is_chunk_key : List ℕ → Bool
is_chunk_key key = slice_index key 0 == 114 && slice_index key 13 == 99

-- the bodies of the chunk objects
abbrev pub chunk_bodies : Objects → List (List ℕ)
chunk_bodies m = map (λ (e : List ℕ × List ℕ). e.1) (filter (λ (e : List ℕ × List ℕ). is_chunk_key e.0) (finmap.entries m))

-- the pieces that an entry used, where it committed a call
abbrev pub used_by : DeviceNoted → DeviceAnswer → List KeptPiece
used_by (Commit (Some call) used) (Committed reply) = used.items
used_by call reply = []

-- the pieces that the committed calls of a log used
abbrev pub used_pieces : List LogEntry → List KeptPiece
used_pieces log = flat_map (λ (e : LogEntry). used_by e.call e.reply) log

-- their chunks
abbrev pub used_chunks : DeviceSeen → List (List ℕ)
used_chunks d = map (λ (p : KeptPiece). arc_value p.chunk) (used_pieces d.log)

-- The strings of a run: the bodies of the chunk objects before the setup and at the end, the sealed chunks of the image
-- lines and of the jobs' creations, and the chunks that committed calls used.
abbrev pub strings_of : Run → List (List ℕ)
strings_of run =
    chunk_bodies run.opening ++ (chunk_bodies run.closing
    ++ (flat_map chunks_made (map creation_of run.images ++ run.creations) ++ flat_map used_chunks run.devices))
