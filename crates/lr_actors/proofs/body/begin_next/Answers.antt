use Rattle.std.proofs.Common.{length}
use Rattle.lr_actors.specs.Body.{context_of, hosts_of}
use Rattle.lr_actors.proofs.Going.{given_at, may_job}
use Rattle.lr_actors.proofs.body.begin_next.Goals as goal

pub begin-requires : goal.begin-requires
begin-requires c = rw c.deref-2.ensures (record {
  context = c.requires.setting.context;
  job = may_job (context_of c.args.setting.now) (hosts_of c.args.setting.now) _ (given_at c.args.setting.now (length c.args.book.now.trail.results.items) _ c.requires.setting c.next_job-job.ensures);
})
