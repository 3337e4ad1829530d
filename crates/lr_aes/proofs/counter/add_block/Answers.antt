use Rattle.std.proofs.Common.{arith}
use Rattle.lr_aes.proofs.CounterFacts.{stored}
use Rattle.lr_aes.proofs.counter.add_block.Goals as goal

pub returns-then-buffer-at-ge16 : goal.returns-then-buffer-at-ge16
returns-then-buffer-at-ge16 c = stored c.args.at c.args.buffer.now c.args.block (omega arith) c.fits-block.0
