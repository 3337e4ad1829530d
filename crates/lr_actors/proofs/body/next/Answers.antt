use Rattle.lr_actors.proofs.Whole.{fronts_of}
use Rattle.lr_actors.proofs.body.next.Goals as goal

pub returns-clause-fronts : goal.returns-clause-fronts
returns-clause-fronts c = fronts_of c.args.body.now.setting c.args.body.now.book c.args.body.now.stage c.requires.whole
