use Rattle.lr_loader.proofs.Walks.{is_walk, is_front}
use Rattle.lr_loader.proofs.load.Load.next.Goals as goal

pub returns-clause-walk : goal.returns-clause-walk
returns-clause-walk c = λ steps end e stands. is_walk c.args.self.now steps end e stands

pub returns-clause-front : goal.returns-clause-front
returns-clause-front c = λ steps reply a stands. is_front c.args.self.now steps reply a stands
