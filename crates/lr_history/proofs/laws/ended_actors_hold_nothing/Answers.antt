use Rattle.lr_history.proofs.Out.{busy_waits, ended_has_none}
use Rattle.lr_history.proofs.laws.ended_actors_hold_nothing.Goals as goal

pub returns : goal.returns
returns c = record { busy = busy_waits; ended = ended_has_none }
