-- How plays end: their statuses with their lines.
use Rattle.std.specs.Prelude.{ℕ, List, ◌++◌, codes, decimal}
use Rattle.lr_desk.specs.Outcome.{words_of}
use Rattle.lr_desk.specs.Outcome as commands
use Rattle.lr_top.specs.declared.ends.PlayEnd.{PlayEnd}
use Rattle.lr_top.specs.declared.ends.PlayEnd.TheVariants.{By, OutsideAt, RefusedAt}

-- the exit status
abbrev pub status_of : PlayEnd → ℕ
status_of (By outcome) = commands.status_of outcome
status_of (OutsideAt n) = 3
status_of (RefusedAt n refusal) = 8

-- the status in words
abbrev pub line_of : PlayEnd → List ℕ
line_of (By outcome) = commands.line_of outcome
line_of (OutsideAt n) = codes "script line " ++ decimal n
line_of (RefusedAt n refusal) = codes "line " ++ (decimal n ++ (codes " refused " ++ words_of refusal))
