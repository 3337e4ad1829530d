use Rattle.std.proofs.Common.{◌≡◌, ◌≤◌, true, List}
use Rattle.std.specs.Prelude.{◌⊎◌}
use Rattle.lr_spec.specs.Rose.{Rose}
use Rattle.lr_depot.specs.Machine.{LogEntry}
use Rattle.lr_desk.specs.Drive.{Carries, IsFaultStage, IsUnderWay, moves_left}
use Rattle.lr_desk.proofs.moving.move_on.Given as goal

abbrev pub invariant-loop-end : goal.invariant-loop-end
invariant-loop-end g l = record {
  ready : l.machine.ready ≡ true;
  goes : IsUnderWay l.machine.need;
  image : l.machine.image ≡ l.initial.machine.image;
  start : l.depot.start ≡ l.initial.depot.start;
  drives : (base : List LogEntry) → Carries base l.initial.machine l.initial.depot.log → Carries base l.machine l.depot.log;
  rising : g.O.Origin.faults l.initial.depot.origin ≤ g.O.Origin.faults l.depot.origin;
  cause : IsFaultStage l.machine.need → IsFaultStage l.initial.machine.need ⊎ Rose (g.O.Origin.faults l.initial.depot.origin) (g.O.Origin.faults l.depot.origin);
}

abbrev pub decreases-loop-end : goal.decreases-loop-end
decreases-loop-end g l = moves_left l.machine.need
