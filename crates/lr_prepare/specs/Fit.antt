-- Scripts whose caches and nodes can be made.
use Rattle.std.specs.Prelude.{ℕ, ◌<◌, ◌≤◌, length}
use Rattle.std.specs.List.{AllByRecursion}
use Rattle.lr_script.specs.Limits.{hosts_most}
use Rattle.lr_script.specs.Seen.{ScriptSeen}
use Rattle.lr_prepare.specs.Lines.{unnumbered, capacities}

-- there is room for one chunk
abbrev pub HasRoom : ℕ → Type 0
HasRoom capacity = 0 < capacity

-- Each cache and each node has room, and there are no more hosts than a script may have.
pub record IsFit (script : ScriptSeen) : Type 0 where
  pub nodes : HasRoom script.cap
  pub hosts : AllByRecursion HasRoom (capacities (unnumbered script.setup))
  pub few : length (capacities (unnumbered script.setup)) ≤ hosts_most
