use Rattle.lr_collector.proofs.Collections.{is_done, step_is_front}
use Rattle.lr_collector.proofs.collect.Collect.next.Goals as goal

pub returns-clause-walk : goal.returns-clause-walk
returns-clause-walk c = λ steps end e stands. is_done c.args.self.now steps end e stands

pub returns-clause-front : goal.returns-clause-front
returns-clause-front c = λ steps reply a stands. step_is_front c.args.self.now steps reply a stands
