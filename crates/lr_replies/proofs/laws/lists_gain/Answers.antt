use Rattle.lr_replies.proofs.Gains.{lists_gained}
use Rattle.lr_replies.proofs.laws.lists_gain.Goals as goal

pub returns : goal.returns
returns c =
    let fit = c.calls_fit.ensures in
    lists_gained (record { fit = fit.walks; next = fit.next; tell = fit.paths; planned = fit.made; granted = fit.granted })
