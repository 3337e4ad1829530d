use Rattle.lr_world.proofs.Held.{ended_holds}
use Rattle.lr_world.proofs.laws.laws.Goals as goal

pub returns : goal.returns
returns c =
    record {
      admitted = c.replies_are_admitted.ensures;
      gain = c.lists_gain.ensures;
      made = c.logs_stay_made.ensures;
      leases = c.leases_stay_out.ensures;
      looks = c.looks_hold_none.ensures;
      ended = ended_holds c.ended_hold_none.ensures;
      busy = c.ended_actors_hold_nothing.ensures.busy;
      planned = c.calls_fit.ensures.made;
      legal = c.cache_logs_are_legal.ensures;
    }
