-- Logs that calls made longer.
use Rattle.std.specs.Prelude.{◌≡◌, ℕ, List, [], ◌∷◌, ◌++◌}
use Rattle.lr_object.specs.declared.entry.Entry.{Entry}

-- A log, and one that begins with it: each further entry is of a call that the object answered so, and may stand there.
pub data Grown {F N T C R : Type 0} (answers : F → List (Entry N T) → ℕ → C → R → Type 0) (enters : F → List (Entry N T) → ℕ → C → R → Entry N T → Type 0) (fixed : F) : List (Entry N T) → List (Entry N T) → Type 0 where
  same : {log : List (Entry N T)} → Grown answers enters fixed log log
  more : {start log : List (Entry N T)} → Grown answers enters fixed start log → (call : C) (reply : R) (e : Entry N T) → answers fixed log e.caller call reply → enters fixed log e.caller call reply e → Grown answers enters fixed start (log ++ e ∷ [])
