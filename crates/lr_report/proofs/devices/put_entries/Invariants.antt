use Rattle.std.proofs.Common.{◌≡◌, ◌++◌, take}
use Rattle.std.specs.List.{flat_map}
use Rattle.lr_device.specs.Machine.{history}
use Rattle.lr_report.specs.Report.{entry_text}
use Rattle.lr_report.proofs.devices.put_entries.Given as goal

abbrev pub invariant-loop-at : goal.invariant-loop-at
invariant-loop-at l = l.out.items ≡ l.initial.out.items ++ flat_map (entry_text l.callers) (history (take l.at l.device.log))
