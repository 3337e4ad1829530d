-- Logs that a cache can have.
use Rattle.std.specs.Prelude.{◌≡◌, ℕ, List, [], ◌∷◌, true, ⊤}
use Rattle.lr_cache.specs.Machine.{State, CacheStep, is_logged, LogEntry, empty, after_entry}
use Rattle.lr_cache.specs.Orderly.{IsCacheLog}

-- Each entry is one that a cache of this capacity gives and keeps, holding what the earlier ones made of this state.
abbrev pub IsLegal : ℕ → State → List LogEntry → Type 0
IsLegal capacity st [] = ⊤
IsLegal capacity st (e ∷ log) =
    CacheStep st e.caller e.call e.reply × (is_logged e.reply ≡ true) × IsLegal capacity (after_entry capacity st e) log

-- What calls made of an empty log is legal.
abbrev pub CacheLogsAreLegal : Type 0
CacheLogsAreLegal = (capacity : ℕ) (log : List LogEntry) → IsCacheLog capacity log → IsLegal capacity empty log
