use Rattle.std.proofs.Common.{rules}
use Rattle.lr_creator.specs.Seen.{need_of}
use Rattle.lr_creator.proofs.Creations.{last_whole, finished_of}
use Rattle.lr_creator.proofs.create.Create.finish.Goals as goal

pub invariant_of-self : goal.invariant_of-self
invariant_of-self c = last_whole _ (need_of c.replace-stage.result) c.last_turn-turn.result c.last_turn-turn.ensures

pub returns-clause-finished : goal.returns-clause-finished
returns-clause-finished c =
    finished_of c.self.inside.tenant.bytes c.args.self.now.tenant (need_of c.replace-stage.result) c.args.self.now.need c.last_turn-turn.result (search rules) (search rules) c.last_turn-turn.ensures
