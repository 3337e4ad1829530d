-- The entries of one caller.
use Rattle.std.specs.Prelude.{ℕ, ◌==◌, List, filter}
use Rattle.lr_object.specs.declared.entry.Entry.{Entry}

-- a caller's own entries, in the log's order
abbrev pub own_entries : {C R : Type 0} → ℕ → List (Entry C R) → List (Entry C R)
own_entries caller log = filter (λ e. e.caller == caller) log
