use Rattle.std.proofs.Common.{◌≡◌, ◌++◌, take}
use Rattle.std.specs.List.{flat_map}
use Rattle.lr_script.specs.Seen.{setup_seen}
use Rattle.lr_report.specs.Names.{device_name}
use Rattle.lr_report.proofs.names.device_names.Given as goal

abbrev pub invariant-loop-line : goal.invariant-loop-line
invariant-loop-line l = l.names.items ≡ l.initial.names.items ++ flat_map (λ p. device_name (setup_seen p.1)) (take l.line-index l.line-items)
