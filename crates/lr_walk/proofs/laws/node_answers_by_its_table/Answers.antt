use Rattle.lr_walk.proofs.Others.{node_answers, node_step}
use Rattle.lr_walk.proofs.laws.node_answers_by_its_table.Goals as goal

pub returns : goal.returns
returns c = record { answers = node_answers; kept = node_step }
