use Rattle.lr_actors.specs.Asked.{seen_reply}
use Rattle.lr_actors.proofs.forge.advance.Goals as goal

pub returns-clause-next : goal.returns-clause-next
returns-clause-next c = rw c.in-Puts.is (c.put.ensures.next c.in-Puts.field-0.value c.in-Puts.answer (seen_reply c.args.reply) c.answer_after.ensures)
