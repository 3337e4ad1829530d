use Rattle.lr_walk.proofs.Others.{cache_answers, cache_step}
use Rattle.lr_walk.proofs.laws.cache_answers_by_its_table.Goals as goal

pub returns : goal.returns
returns c = record { answers = cache_answers; kept = cache_step }
