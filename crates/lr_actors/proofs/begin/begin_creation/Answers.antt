use Rattle.std.proofs.Common.{inr, refl}
use Rattle.lr_script.specs.Seen.{body_seen}
use Rattle.lr_actors.specs.Creating.{raw_of}
use Rattle.lr_actors.specs.Jobs.{seen_context}
use Rattle.lr_actors.proofs.Begins.{begun_creation}
use Rattle.lr_actors.proofs.begin.begin_creation.Goals as goal

pub returns-in-Ok : goal.returns-in-Ok
returns-in-Ok c = begun_creation (seen_context c.args._context.now) c.args.image c.args.tenant (raw_of c.args.whole (body_seen c.args.body.now)) c.in-Ok.raw.items c.new-job.result c.new-job.ensures.new c.in-Ok.ensures c.new-job.ensures.stands

pub returns-in-Err : goal.returns-in-Err
returns-in-Err c = inr (refl, refl)
