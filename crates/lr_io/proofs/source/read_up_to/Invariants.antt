use Rattle.std.proofs.Common.{◌+◌, ◌-◌, ◌≤◌, length}
use Rattle.lr_io.specs.Streams.{Takes}
use Rattle.lr_io.proofs.source.read_up_to.Given as goal

abbrev pub invariant-loop-buffer : goal.invariant-loop-buffer
invariant-loop-buffer g l =
    (length l.bytes.items ≤ l.limit + 1)
    × Takes (g.I.Source.left l.initial.source) l.bytes.items (g.I.Source.left l.source)
    × (g.I.Source.faults l.initial.source ≤ g.I.Source.faults l.source)

abbrev pub decreases-loop-buffer : goal.decreases-loop-buffer
decreases-loop-buffer g l = l.limit + 1 - length l.bytes.items
