use Rattle.lr_replies.proofs.Holding.{looks_none}
use Rattle.lr_replies.proofs.laws.looks_hold_none.Goals as goal

pub returns : goal.returns
returns c =
    let fit = c.calls_fit.ensures in
    looks_none (record { fit = fit.walks; next = fit.next; tell = fit.paths; planned = fit.made; granted = fit.granted }) c.replies_are_admitted.ensures
