use Rattle.std.proofs.Common.{refl}
use Rattle.lr_collector.specs.Seen.{seen_end}
use Rattle.lr_desk.proofs.Gathering.{drives_same, has_collected, fault_at_end}
use Rattle.lr_desk.proofs.collecting.turn.Goals as goal

pub returns-in-End-clause-drives : goal.returns-in-End-clause-drives
returns-in-End-clause-drives g c = λ base d.
    has_collected base c.args.depot.now.log c.args.machine.now (seen_end c.in-End.end) c.in-End.ensures.asked c.next.ensures.walk d

pub returns-in-End-clause-cause : goal.returns-in-End-clause-cause
returns-in-End-clause-cause g c =
    (λ h. fault_at_end c.args.machine.now.job c.args.machine.now.need (seen_end c.in-End.end) c.in-End.ensures.asked h, refl)

pub returns-in-Depot-clause-drives : goal.returns-in-Depot-clause-drives
returns-in-Depot-clause-drives g c = λ base d.
    c.call.ensures.drives base (drives_same base c.args.depot.now.log c.args.machine.now c.next.new.self c.next.ensures.same c.next.ensures.waits d)
