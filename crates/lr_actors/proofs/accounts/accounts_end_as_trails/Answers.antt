use Rattle.lr_actors.proofs.Accounted.{stands_new, stands_end, has_trail}
use Rattle.lr_actors.proofs.Ended.{job_ends}
use Rattle.lr_actors.proofs.accounts.accounts_end_as_trails.Goals as goal

pub returns-clause-new : goal.returns-clause-new
returns-clause-new c = stands_new

pub returns-clause-ends : goal.returns-clause-ends
returns-clause-ends c = λ context lists jobs a job r steps stands at e reads walk. stands_end context lists jobs a job r steps stands at e (job_ends context job steps r.answer walk) reads walk

pub returns-clause-trail : goal.returns-clause-trail
returns-clause-trail c = has_trail
