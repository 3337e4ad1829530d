use Rattle.lr_actors.proofs.OneCall.{is_walk, is_front}
use Rattle.lr_actors.proofs.single.SingleJob.next.Goals as goal

pub returns-clause-walk : goal.returns-clause-walk
returns-clause-walk c = λ steps answer e stands. is_walk c.args.self.now steps answer e stands

pub returns-clause-front : goal.returns-clause-front
returns-clause-front c = λ steps more reply a adds stands. is_front c.args.self.now steps more reply a adds stands
