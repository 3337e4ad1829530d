use Rattle.std.proofs.Common.{refl, inl, inr, subst, ap, sym}
use Rattle.lr_migrator.specs.Seen.{seen_end}
use Rattle.lr_desk.specs.Drive.{IsFaultStage, moves_left}
use Rattle.lr_desk.proofs.Carrying.{carries_same, has_moved, fault_at_end, same_way}
use Rattle.lr_desk.proofs.moving.turn.Goals as goal

pub returns-in-End-clause-drives : goal.returns-in-End-clause-drives
returns-in-End-clause-drives g c = λ base d.
    has_moved base c.args.depot.now.log c.args.machine.now (seen_end c.in-End.end) c.in-End.ensures.asked c.next.ensures.walk d

pub returns-in-End-clause-cause : goal.returns-in-End-clause-cause
returns-in-End-clause-cause g c =
    (λ h. fault_at_end c.args.machine.now.image c.args.machine.now.need (seen_end c.in-End.end) c.in-End.ensures.asked h, refl)

pub returns-in-Depot-clause-drives : goal.returns-in-Depot-clause-drives
returns-in-Depot-clause-drives g c = λ base d.
    c.call.ensures.drives base (carries_same base c.args.depot.now.log c.args.machine.now c.next.new.self c.next.ensures.same c.next.ensures.waits d)

pub returns-in-Depot-clause-falls : goal.returns-in-Depot-clause-falls
returns-in-Depot-clause-falls g c = λ _ w.
    rw (← c.next.ensures.waits) (c.call.ensures.falls (same_way c.args.machine.now.need c.next.new.self.need c.next.ensures.waits w))

pub returns-in-Depot-clause-cause : goal.returns-in-Depot-clause-cause
returns-in-Depot-clause-cause g c = λ h.
    elim (c.call.ensures.cause h) [ inl f ↦ inl (subst IsFaultStage c.next.ensures.waits f) | inr rose ↦ inr rose ]
