use Rattle.std.proofs.Common.{◌≡◌, ◌<◌}
use mathlib.Core.Logic.{◌⊎◌}
use Rattle.std.specs.FinMap as map
use Rattle.lr_depot.specs.Sessions.{without_caller}
use Rattle.lr_depot.proofs.numbered.end_all.Given as goal

abbrev pub invariant-loop-number : goal.invariant-loop-number
invariant-loop-number l = record {
  same : without_caller l.caller l.sessions ≡ without_caller l.caller l.fn.sessions;
  fewer : (map.len l.sessions < map.len l.fn.sessions) ⊎ (l.sessions ≡ l.fn.sessions);
}

abbrev pub decreases-loop-number : goal.decreases-loop-number
decreases-loop-number l = map.len l.sessions
