use Rattle.std.proofs.Common.{◌∙◌}
use Rattle.lr_turn.proofs.Ends.{does_close}
use Rattle.lr_turn.proofs.shared.Shared.finish.Goals as goal

pub returns-clause-fixed : goal.returns-clause-fixed
returns-clause-fixed g c = let o = g.S.Object in let v = c.args.first in
    let d = does_close o.log o.fixed o.shares o.answers o.enters _ _ _ v.place.me.0 _ _ v.idle.1 v.idle.2
    (v.number_is ∙ c.requires.first) c.requires.joined c.close_with-closed.ensures.values.2 c.take-state.result c.take-state.ensures.value in
    (d.0, d.2)

pub returns-clause-start : goal.returns-clause-start
returns-clause-start g c = let o = g.S.Object in let v = c.args.first in
    (does_close o.log o.fixed o.shares o.answers o.enters _ _ _ v.place.me.0 _ _ v.idle.1 v.idle.2 (v.number_is
    ∙ c.requires.first) c.requires.joined c.close_with-closed.ensures.values.2 c.take-state.result c.take-state.ensures.value).1

pub returns-clause-log : goal.returns-clause-log
returns-clause-log g c = let o = g.S.Object in let v = c.args.first in
    (does_close o.log o.fixed o.shares o.answers o.enters _ _ _ v.place.me.0 _ _ v.idle.1 v.idle.2 (v.number_is
    ∙ c.requires.first) c.requires.joined c.close_with-closed.ensures.values.2 c.take-state.result c.take-state.ensures.value).3
