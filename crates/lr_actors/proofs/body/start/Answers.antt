use Rattle.lr_actors.proofs.Going.{started}
use Rattle.lr_actors.proofs.body.start.Goals as goal

pub returns-in-Goes : goal.returns-in-Goes
returns-in-Goes c =
    let e = c.in-Goes.ensures in
    rw c.hold.ensures (started c.args.setting.now c.args.book.now c.args.job c.in-Goes.job c.in-Goes.call c.requires.setting c.requires.between c.requires.crash c.requires.begun c.requires.room e.0 e.1 e.2)
