-- A creation driven over a depot by caller 0: the depot's log is what the creation stands for.
use Rattle.std.specs.Prelude.{◌≡◌, ◌≤◌, ◌+◌, ◌%◌, ℕ, length, List, [], ◌∷◌, ◌++◌, map, ⊤}
use Rattle.std.specs.List.{AllByRecursion, flat_map}
use Rattle.lr_spec.specs.Rose.{Rose}
use Rattle.lr_manifest.specs.Manifest.{itself}
use Rattle.lr_depot.specs.Depot.{Seen, first_state}
use Rattle.lr_depot.specs.Store.{IsRun}
use Rattle.lr_depot.specs.Machine.{LogEntry}
use Rattle.lr_walk.specs.Depot.{Step, step_of, logged, fault}
use Rattle.lr_creator.specs.Creation.{Ending, with_root, with_reply, with_memory, with_stop, Input, piece, last, Creates}
use Rattle.lr_creator.specs.Progress.{Need, beginning, wanting, putting, finishing, leaving, ended, Progress, Stands, IsDone}

-- The log goes on, from where it was, by the entries of these steps, all of caller 0.
pub record GoesOn (base : List LogEntry) (log : List LogEntry) (steps : List Step) : Type 0 where
  pub own : List LogEntry
  pub after : log ≡ base ++ own
  pub steps_of : map step_of own ≡ logged steps
  pub callers : AllByRecursion (λ e. e.caller ≡ 0) own

-- These calls of caller 0 lead from the one depot to the other: a log of the machine goes on as one. The count of faults of its store
-- doesn't fall.
pub record Calls {O : Type 0} (faults : O → ℕ) (old new : Seen O) (steps : List Step) : Type 0 where
  pub start : new.start ≡ old.start
  pub log : GoesOn old.log new.log steps
  pub runs : IsRun (first_state old.start) old.log → IsRun (first_state new.start) new.log
  pub never_falls : faults old.origin ≤ faults new.origin

-- the creation ended since the store failed
abbrev pub IsFaultEnd : Ending → Type 0
IsFaultEnd (with_reply (fault k)) = ⊤
IsFaultEnd end = ⊥

-- it ends since the store failed
abbrev pub IsFaultNeed : Need → Type 0
IsFaultNeed (leaving session end) = IsFaultEnd end
IsFaultNeed (ended end) = IsFaultEnd end
IsFaultNeed need = ⊥

-- The creation stands for what it was given and for the calls that the depot got.
pub record Drives {O : Type 0} (faults : O → ℕ) (base : Seen O) (p : Progress) (given : List Input) (d : Seen O) : Type 0 where
  pub steps : List Step
  pub stands : Stands p given steps
  pub calls : Calls faults base d steps
  pub cause : IsFaultNeed p.need → Rose (faults base.origin) (faults d.origin)

-- .. and where it ended, they are a walk with its ending, whatever else were given
pub record Ended {O : Type 0} (faults : O → ℕ) (base : Seen O) (p : Progress) (given : List Input) (d : Seen O) (end : Ending) : Type 0 where
  pub steps : List Step
  pub done : IsDone p given steps end
  pub calls : Calls faults base d steps
  pub cause : IsFaultEnd end → Rose (faults base.origin) (faults d.origin)

-- how many times a creation is asked at most, until it wants more or has ended
abbrev pub left_of : Need → ℕ
left_of (wanting place parts) = 0
left_of (ended end) = 1
left_of (leaving session end) = 2
left_of need = 3

-- So many bytes were given.
abbrev pub HasGiven : Need → ℕ → Type 0
HasGiven (beginning image) n = n ≡ 0
HasGiven (wanting place parts) n = parts.raw_len ≡ n
HasGiven (putting place parts name) n = parts.raw_len ≡ n
HasGiven need n = ⊤

-- it ended by a reply of the depot, or for want of memory
abbrev pub IsEarly : Ending → Type 0
IsEarly (with_reply reply) = ⊤
IsEarly with_memory = ⊤
IsEarly end = ⊥

-- it ended, and wasn't stopped
abbrev pub IsUnstopped : Ending → Type 0
IsUnstopped with_stop = ⊥
IsUnstopped end = ⊤

-- what a creation may end with before it wants more
abbrev pub MayEnd : Need → Ending → Type 0
MayEnd (beginning image) end = IsEarly end
MayEnd (wanting place parts) end = ⊥
MayEnd (putting place parts name) end = IsEarly end
MayEnd (finishing place fields) end = IsUnstopped end
MayEnd (leaving session e) end = e ≡ end
MayEnd (ended e) end = e ≡ end

-- pieces, joined
abbrev pub joined : List (List ℕ) → List ℕ
joined pieces = flat_map itself pieces

-- Pieces that may come after so many bytes, each but the last a whole chunk.
abbrev pub ArePieces : ℕ → List (List ℕ) → Type 0
ArePieces len [] = ⊤
ArePieces len (p ∷ pieces) = (len % 524288 ≡ 0) × (1 ≤ length p) × (length p ≤ 524288) × ArePieces (len + length p) pieces
