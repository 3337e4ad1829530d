-- What is left of a depot.
use Rattle.std.specs.Prelude.{List}
use Rattle.lr_origin.specs.declared.key.KeyKind.{KeyKind}
use Rattle.lr_depot.specs.Machine.{LogEntry}

-- the log, and the keys in doubt at the end, in byte order
pub record Left : Type 0 where
  pub log : List LogEntry
  pub doubts : List KeyKind
