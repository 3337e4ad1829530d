use Rattle.std.proofs.Common.{length, arith}
use Rattle.lr_gen.specs.Bytes.{seed_byte}
use Rattle.lr_actors.proofs.Created.{same_bytes}
use Rattle.lr_actors.proofs.bytes.fill_from_start.Goals as goal

pub returns : goal.returns
returns c = same_bytes c.fill.new.buffer (seed_byte c.args.number) (length c.args.buffer.now) c.fill.auto.buffer (λ k lt. c.fill.ensures k (omega arith))
