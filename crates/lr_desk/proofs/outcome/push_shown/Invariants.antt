use Rattle.std.proofs.Common.{◌≡◌, ◌+◌, ◌++◌, length, map, take}
use Rattle.lr_desk.specs.Outcome.{printed}
use Rattle.lr_desk.proofs.outcome.push_shown.Given as goal

abbrev pub invariant-loop-byte : goal.invariant-loop-byte
invariant-loop-byte l =
    (l.line ≡ l.initial.line ++ map printed (take l.byte-index l.byte-items)) × (length l.line ≡ length l.initial.line + l.byte-index)
