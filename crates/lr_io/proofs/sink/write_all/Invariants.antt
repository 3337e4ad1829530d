use Rattle.std.proofs.Common.{length, ◌-◌, ◌≤◌, take}
use Rattle.lr_io.specs.Streams.{Appends}
use Rattle.lr_io.proofs.sink.write_all.Given as goal

abbrev pub invariant-loop-done : goal.invariant-loop-done
invariant-loop-done g l =
    (l.done ≤ length l.bytes)
    × Appends (g.W.Sink.written l.initial.sink) (take l.done l.bytes) (g.W.Sink.written l.sink)
    × (g.W.Sink.faults l.initial.sink ≤ g.W.Sink.faults l.sink)

abbrev pub decreases-loop-done : goal.decreases-loop-done
decreases-loop-done g l = length l.bytes - l.done
