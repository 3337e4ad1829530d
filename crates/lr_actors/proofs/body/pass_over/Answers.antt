use Rattle.std.proofs.Common.{[], subst}
use Rattle.lr_walk.specs.declared.trail.Answer.{Answer}
use Rattle.lr_actors.specs.Jobs.{Job, WalksJob}
use Rattle.lr_actors.specs.Body.{context_of, Next}
use Rattle.lr_actors.proofs.Going.{idle_prepared}
use Rattle.lr_actors.proofs.body.pass_over.Goals as goal

pub returns-in-NoChunk : goal.returns-in-NoChunk
returns-in-NoChunk c =
    idle_prepared c.args.setting.now c.args.book.now c.requires.setting c.requires.between c.requires.crash
    (subst (λ (a : Answer). Next c.args.setting.now c.args.book.now (λ (j : Job). WalksJob (context_of c.args.setting.now) j [] a)) c.in-NoChunk.is c.requires.walks)
