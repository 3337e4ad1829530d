-- Machines driven over a depot: what the depot's log has of them.
use Rattle.std.specs.Prelude.{◌≡◌, ◌+◌, ◌*◌, ℕ, List, ◌++◌, map, ⊤}
use Rattle.std.specs.List.{AllByRecursion}
use Rattle.lr_depot.specs.Machine.{LogEntry}
use Rattle.lr_walk.specs.Depot.{Step, step_of, logged, Reply, fault}
use Rattle.lr_collector.specs.declared.collect.CollectJob.{CollectJob}
use Rattle.lr_collector.specs.Collection.{Ending, with_reply, Collects}
use Rattle.lr_collector.specs.Progress.{Need, asking, ended, Progress, Stands}
use Rattle.lr_migrator.specs.Migration.{Ending as Migrating, Migrates}
use Rattle.lr_migrator.specs.Migration as migrating
use Rattle.lr_migrator.specs.Progress as moves

-- The log goes on, from where it was, by the entries of these steps, all of caller 0.
pub record GoesOn (base log : List LogEntry) (steps : List Step) : Type 0 where
  pub own : List LogEntry
  pub after : log ≡ base ++ own
  pub steps_of : map step_of own ≡ logged steps
  pub callers : AllByRecursion (λ e. e.caller ≡ 0) own

-- the store failed
abbrev pub IsFaultReply : Reply → Type 0
IsFaultReply (fault k) = ⊤
IsFaultReply reply = ⊥

-- A collection stands for the steps that the log has.
pub record Drives (base : List LogEntry) (p : Progress) (log : List LogEntry) : Type 0 where
  pub steps : List Step
  pub stands : Stands p steps
  pub goes_on : GoesOn base log steps

-- The log goes on by the walk of a collection, which ended so.
pub record HasCollected (base : List LogEntry) (job : CollectJob) (log : List LogEntry) (end : Ending) : Type 0 where
  pub steps : List Step
  pub walk : Collects job steps end
  pub goes_on : GoesOn base log steps

-- it ended where the store failed
abbrev pub IsFaultEnd : Ending → Type 0
IsFaultEnd (with_reply reply) = IsFaultReply reply
IsFaultEnd end = ⊥

-- it is at its end, where the store failed
abbrev pub IsFaultNeed : Need → Type 0
IsFaultNeed (asking count) = ⊥
IsFaultNeed (ended end) = IsFaultEnd end

-- how many turns a collection has at most, over a view of so many keys
abbrev pub turns_left : Need → ℕ → ℕ
turns_left (asking count) keys = keys + 2
turns_left (ended end) keys = 1

-- ---- migrations

-- A migration stands for the steps that the log has.
pub record Carries (base : List LogEntry) (p : moves.Progress) (log : List LogEntry) : Type 0 where
  pub steps : List Step
  pub stands : moves.Stands p steps
  pub goes_on : GoesOn base log steps

-- The log goes on by the walk of a migration, which ended so.
pub record HasMoved (base : List LogEntry) (image : List ℕ) (log : List LogEntry) (end : Migrating) : Type 0 where
  pub steps : List Step
  pub walk : Migrates image steps end
  pub goes_on : GoesOn base log steps

-- it ended where the store failed
abbrev pub IsFaultMove : Migrating → Type 0
IsFaultMove (migrating.with_reply reply) = IsFaultReply reply
IsFaultMove end = ⊥

-- it ends where the store failed
abbrev pub IsFaultStage : moves.Need → Type 0
IsFaultStage (moves.leaving session end) = IsFaultMove end
IsFaultStage (moves.ended end) = IsFaultMove end
IsFaultStage need = ⊥

-- it is known how many chunks are to be copied
abbrev pub IsUnderWay : moves.Need → Type 0
IsUnderWay moves.beginning = ⊥
IsUnderWay need = ⊤

-- how many turns such a migration has at most
abbrev pub moves_left : moves.Need → ℕ
moves_left moves.beginning = 0
moves_left (moves.copying session index left) = 2 * left + 5
moves_left (moves.putting session index left name) = 2 * left + 4
moves_left (moves.finishing session) = 3
moves_left (moves.leaving session end) = 2
moves_left (moves.ended end) = 1
