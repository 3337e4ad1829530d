use Rattle.std.proofs.Common.{◌≡◌, ◌≤◌, true}
use Rattle.std.specs.FinMap as map
use Rattle.lr_spec.specs.Rose.{Rose}
use Rattle.lr_depot.specs.Depot.{state}
use Rattle.lr_desk.specs.Drive.{Drives, IsFaultNeed, turns_left}
use Rattle.lr_desk.proofs.collecting.collect.Given as goal

abbrev pub invariant-loop-end : goal.invariant-loop-end
invariant-loop-end g l = record {
  ready : l.machine.ready ≡ true;
  job : l.machine.job ≡ l.fn.job;
  start : l.depot.start ≡ l.initial.depot.start;
  drives : Drives l.initial.depot.log l.machine l.depot.log;
  rising : g.O.Origin.faults l.initial.depot.origin ≤ g.O.Origin.faults l.depot.origin;
  cause : IsFaultNeed l.machine.need → Rose (g.O.Origin.faults l.initial.depot.origin) (g.O.Origin.faults l.depot.origin);
}

abbrev pub decreases-loop-end : goal.decreases-loop-end
decreases-loop-end g l = turns_left l.machine.need (map.len (state l.depot.start l.depot.log).known.view)
