use Rattle.std.proofs.Common.{sym, arith}
use Rattle.lr_aes.proofs.TableFacts.{sbox_at}
use Rattle.lr_aes.proofs.schedule.sub.Goals as goal

pub returns : goal.returns
returns c = sym (sbox_at c.args.b (omega arith)).0
