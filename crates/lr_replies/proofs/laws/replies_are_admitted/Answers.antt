use Rattle.lr_replies.proofs.Admitted.{admitted}
use Rattle.lr_replies.proofs.laws.replies_are_admitted.Goals as goal

pub returns : goal.returns
returns c =
    let fit = c.calls_fit.ensures in
    admitted (record { fit = fit.walks; next = fit.next; tell = fit.paths; planned = fit.made; granted = fit.granted })
