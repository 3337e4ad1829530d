-- Sources and sinks in memory, which fail at chosen calls.
use Rattle.std.specs.Prelude.{ℕ, List}

-- the bytes left, the numbers of the calls that fail, the calls made so far, and how many of them failed
pub record SourceInMemory : Type 0 where
  pub left : List ℕ
  pub fails : List ℕ
  pub calls : ℕ
  pub faults : ℕ

-- the bytes written, the numbers of the calls that fail, the calls made so far, and how many of them failed
pub record SinkInMemory : Type 0 where
  pub written : List ℕ
  pub fails : List ℕ
  pub calls : ℕ
  pub faults : ℕ
