-- The program's calls, ends and stages, as plain data.
use Rattle.std.specs.Prelude.{◌≡◌, ◌≤◌, ◌+◌, ℕ, List, Option, Some, None, ⊤}
use Rattle.std.specs.Arc.{arc_value}
use Rattle.sha2.specs.Sha256.{sha256}
use Rattle.lr_walk.specs.Depot.{Reply, seen_call, seen_reply}
use Rattle.lr_migrator.specs.declared.migrate.MigrateEnd.{MigrateEnd}
use Rattle.lr_migrator.specs.declared.migrate.MigrateEnd.TheVariants as an
use Rattle.lr_migrator.specs.declared.migrate.MigrateAction.{MigrateAction}
use Rattle.lr_migrator.specs.declared.migrate.MigrateAction.TheVariants as action
use Rattle.lr_migrator.specs.declared.stage.Stage.{Stage}
use Rattle.lr_migrator.specs.declared.stage.Stage.TheVariants as stage
use Rattle.lr_migrator.specs.declared.stage.Turn.{Turn}
use Rattle.lr_migrator.specs.Migration.{Ending, with_roots, with_reply, with_memory}
use Rattle.lr_migrator.specs.Progress.{Need, beginning, copying, putting, finishing, leaving, ended, Asked, a_call, an_end, asked}

abbrev pub seen_end : MigrateEnd → Ending
seen_end (an.Moved from to) = with_roots from to
seen_end (an.Other reply) = with_reply (seen_reply reply)
seen_end an.Memory = with_memory

abbrev pub seen_action : MigrateAction → Asked
seen_action (action.Depot call) = a_call (seen_call call)
seen_action (action.End end) = an_end (seen_end end)

abbrev pub need_of : Stage → Need
need_of stage.Begins = beginning
need_of (stage.Copies session index left) = copying session index left
need_of (stage.Puts session index left chunk) = putting session index left (sha256 (arc_value chunk.value))
need_of (stage.Finishes session) = finishing session
need_of (stage.Leaves session end) = leaving session (seen_end end)
need_of (stage.Ends end) = ended (seen_end end.value)

-- the last index is within its type
abbrev pub IsKept : Stage → Type 0
IsKept (stage.Copies session index left) = index + left ≤ 4294967295
IsKept (stage.Puts session index left chunk) = index + left ≤ 4294967295
IsKept stage = ⊤

-- the call prepared is the one asked
abbrev pub IsPrepared : List ℕ → Stage → Option MigrateAction → Type 0
IsPrepared image stage (Some action) = seen_action action ≡ asked image (need_of stage)
IsPrepared image stage None = ⊤

-- the turn needs this, with its call prepared
pub record Prepares (need : Need) (turn : Turn) : Type 0 where
  pub kept : IsKept turn.stage
  pub needs : need_of turn.stage ≡ need
  pub prepared : (image : List ℕ) → seen_action turn.ready ≡ asked image need

-- a stage that may have a call out
abbrev pub MayTake : Stage → Type 0
MayTake (stage.Ends end) = ⊥
MayTake stage = ⊤
