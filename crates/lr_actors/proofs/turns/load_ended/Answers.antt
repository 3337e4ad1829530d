use Rattle.std.proofs.Common.{subst, ap, ◌∙◌}
use Rattle.lr_walk.specs.Depot as depots
use Rattle.lr_loader.specs.declared.action.LoadEnd.{LoadEnd}
use Rattle.lr_loader.specs.Seen as loader
use Rattle.lr_actors.specs.Serving.{dropping}
use Rattle.lr_actors.specs.Stages.{work_of, seen_left, EndsWell}
use Rattle.lr_actors.proofs.LoadTurns.{failed}
use Rattle.lr_actors.proofs.turns.load_ended.Goals as goal

pub returns-in-Other-clause-next : goal.returns-in-Other-clause-next
returns-in-Other-clause-next c =
    rw c.in-Other.is (λ at e. failed (work_of c.args.setting.now) (record { place = at; key = c.args.key.bytes }) (seen_left c.args.waiting) (depots.seen_reply c.in-Other.reply) _
    (subst (λ (e : LoadEnd). EndsWell (loader.seen_end e)) c.in-Other.is c.requires.well) (c.to_drop.ensures.need ∙ ap dropping c.answer_of_depot.ensures))
