use Rattle.std.proofs.Common.{◌≡◌, ◌++◌, take}
use Rattle.std.specs.List.{flat_map, zip}
use Rattle.lr_report.specs.Report.{device_part}
use Rattle.lr_report.proofs.devices.put_devices.Given as goal

abbrev pub invariant-loop-at : goal.invariant-loop-at
invariant-loop-at l = l.out.items ≡ l.initial.out.items ++ flat_map (device_part l.callers) (take l.at (zip l.names (zip l.opened l.devices)))
