use Rattle.lr_top.proofs.Headlines.{has_headline}
use Rattle.lr_top.proofs.laws.plays_have_the_headline.Goals as goal

pub returns : goal.returns
returns g c = λ before after run played.
    has_headline g.O.Origin.objects g.O.Origin.faults before after run played c.runs_serve.ensures c.runs_follow.ensures c.runs_find_nothing_spoiled.ensures c.answers_are_told.ensures.unspoiled c.logs_can_be_cut.ensures c.calls_keep_the_promise.ensures.parts c.calls_keep_the_promise.ensures.homed
