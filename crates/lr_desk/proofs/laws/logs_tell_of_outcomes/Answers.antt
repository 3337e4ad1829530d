use Rattle.lr_desk.proofs.Commanding.{walked_tells, walked_is}
use Rattle.lr_desk.proofs.laws.logs_tell_of_outcomes.Goals as goal

pub returns-clause-tells : goal.returns-clause-tells
returns-clause-tells c = λ k v log o text w b. walked_tells k v log o text w b

pub returns-clause-only : goal.returns-clause-only
returns-clause-only c = λ k v log o text w e b t. walked_is k v log o text w e b t
