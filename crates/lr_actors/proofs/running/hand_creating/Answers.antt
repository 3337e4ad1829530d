use Rattle.std.proofs.Common.{sym}
use Rattle.lr_actors.proofs.Runs.{out_creating}
use Rattle.lr_actors.proofs.running.hand_creating.Goals as goal

pub returns-in-Call : goal.returns-in-Call
returns-in-Call c = (out_creating c.args.job c.next.new.self c.next.ensures.same.0 c.next.ensures.same.1 c.next.ensures.same.2 c.next.ensures.ready c.next.ensures.front, c.in-Call.ensures.asked, c.in-Call.ensures.may)

pub returns-in-End : goal.returns-in-End
returns-in-End c = λ steps s. c.next.ensures.walk steps c.in-End.answer (sym c.in-End.ensures.asked) s
