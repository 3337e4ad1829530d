use Rattle.std.proofs.Common.{◌-◌, ◌*◌}
use Rattle.lr_aes.specs.Cipher.{cipher}
use Rattle.lr_aes.proofs.CounterFacts.{Begun}
use Rattle.lr_aes.proofs.counter.ctr_in_place.Given as goal

abbrev pub invariant-loop-i : goal.invariant-loop-i
invariant-loop-i l = Begun (cipher (l.rounds - 1) l.keys) l.first l.fn.buffer (32 * l.i) l.buffer
