use Rattle.lr_loader.specs.Seen.{seen_reply, fetched_chunk}
use Rattle.lr_loader.proofs.stage.advance.Goals as goal

pub returns-in-Puts-clause-next : goal.returns-in-Puts-clause-next
returns-in-Puts-clause-next c = rw c.in-Puts.is (c.put.ensures.next c.in-Puts.stripe.value (seen_reply c.args.reply) (fetched_chunk c.args.reply))
