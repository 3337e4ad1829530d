-- How many steps the jobs of the depot may still make.
use Rattle.std.specs.Prelude.{◌≡◌, ◌≤◌, ◌+◌, ◌-◌, ◌*◌, ◌/◌, ℕ, length, ⊤}
use Rattle.lr_walk.specs.Depot.{Reply, moving}
use Rattle.lr_migrator.specs.Progress as migrations
use Rattle.lr_creator.specs.Progress as creations
use Rattle.lr_collector.specs.Progress as collections
use Rattle.lr_actors.specs.Creating.{Progress}

-- of a migration that has begun
abbrev pub moves_left : migrations.Need → ℕ
moves_left (migrations.copying session index left) = 2 * left + 4
moves_left (migrations.putting session index left name) = 2 * left + 3
moves_left (migrations.finishing session) = 2
moves_left (migrations.leaving session end) = 1
moves_left need = 0

-- of a migration, of at most 20,480 chunks
abbrev pub moves_ahead : migrations.Need → ℕ
moves_ahead migrations.beginning = 2 * 20480 + 3
moves_ahead need = moves_left need

-- a manifest in the reply has at most so many chunks
abbrev pub HasFewChunks : Reply → Type 0
HasFewChunks (moving session from to fields) = length fields.names ≤ 20480
HasFewChunks reply = ⊤

-- of a collection, the removals of a sweep not counted
abbrev pub collects_left : collections.Need → ℕ
collects_left (collections.asking count) = 1
collects_left (collections.ended end) = 0

-- Its beginning tells how many chunks there are: two steps for each, and two more. Each later step brings it nearer to its end.
abbrev pub MovesNear : migrations.Need → Reply → Type 0
MovesNear migrations.beginning (moving session from to fields) =
    moves_left (migrations.advanced migrations.beginning (moving session from to fields)) ≤ 2 * length fields.names + 2
MovesNear migrations.beginning reply = moves_left (migrations.advanced migrations.beginning reply) ≡ 0
MovesNear need reply = moves_left (migrations.advanced need reply) + 1 ≤ moves_left need

-- so many chunks have these bytes
abbrev pub chunks : ℕ → ℕ
chunks n = (n + 524287) / 524288

-- of a creation with so many chunks still to give
abbrev pub puts_left : creations.Need → ℕ → ℕ
puts_left (creations.beginning image) n = n + 3
puts_left (creations.wanting place parts) n = n + 2
puts_left (creations.putting place parts name) n = n + 3
puts_left (creations.finishing place fields) n = 2
puts_left (creations.leaving session end) n = 1
puts_left (creations.ended end) n = 0

abbrev pub steps_left : Progress → ℕ
steps_left p = puts_left p.create.need (chunks (length p.raw - p.given))
