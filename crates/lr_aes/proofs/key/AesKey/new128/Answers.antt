use Rattle.lr_aes.proofs.KeyFacts.{front, keeps}
use Rattle.std.proofs.Common.{arith}
use Rattle.lr_aes.proofs.key.AesKey.new128.Goals as goal

pub returns : goal.returns
returns c = front c.args.key.now c.expand.result 4 (omega arith) c.expand.ensures.words

pub invariant_of-result : goal.invariant_of-result
invariant_of-result c = keeps c.args.key.now c.expand.result 4 (omega arith) (omega arith) (omega arith) c.expand.ensures.long c.expand.ensures.words
