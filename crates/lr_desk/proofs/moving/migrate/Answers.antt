use Rattle.std.proofs.Common.{refl, ap, subst, sym, ◌∙◌, inl, inr, arith}
use Rattle.lr_spec.specs.Rose.{Rose}
use Rattle.lr_migrator.specs.Progress.{Progress}
use Rattle.lr_migrator.specs.Seen.{seen_end}
use Rattle.lr_desk.proofs.Logs.{rose_from, rose_to}
use Rattle.lr_desk.proofs.Carrying.{carries_start, moved_of, no_fault}
use Rattle.lr_desk.proofs.moving.migrate.Goals as goal

pub turn-requires : goal.turn-requires
turn-requires g c = record { ready = ap (λ (p : Progress). p.ready) c.new-machine.ensures.new }

pub returns-in-Some-clause-walk : goal.returns-in-Some-clause-walk
returns-in-Some-clause-walk g c =
    moved_of c.args.depot.now.log c.turn.new.depot.log c.args.image c.new-machine.result.image (seen_end c.in-Some.end) (ap (λ (p : Progress). p.image) c.new-machine.ensures.new)
    (c.in-Some.ensures.drives c.args.depot.now.log (carries_start c.args.depot.now.log c.new-machine.result c.new-machine.ensures.stands))

pub returns-in-Some-clause-cause : goal.returns-in-Some-clause-cause
returns-in-Some-clause-cause g c = λ h.
    absurd (no_fault c.args.image c.new-machine.result c.new-machine.ensures.new (c.in-Some.ensures.cause.0 h))

pub returns-clause-walk : goal.returns-clause-walk
returns-clause-walk g c =
    moved_of c.args.depot.now.log c.move_on.new.depot.log c.args.image c.turn.new.machine.image (seen_end c.move_on.result) (c.in-None.ensures.image ∙ ap (λ (p : Progress). p.image) c.new-machine.ensures.new)
    (c.move_on.ensures.walk c.args.depot.now.log (c.in-None.ensures.drives c.args.depot.now.log (carries_start c.args.depot.now.log c.new-machine.result c.new-machine.ensures.stands)))

pub returns-clause-cause : goal.returns-clause-cause
returns-clause-cause g c = λ h.
    elim (c.move_on.ensures.cause h) [
      | inl f ↦ elim (c.in-None.ensures.cause f) [
        | inl old ↦ absurd (no_fault c.args.image c.new-machine.result c.new-machine.ensures.new old)
        | inr rose ↦ rose_to (g.O.Origin.faults c.args.depot.now.origin) (g.O.Origin.faults c.turn.new.depot.origin) (g.O.Origin.faults c.move_on.new.depot.origin) c.move_on.ensures.never_falls rose
      ]
      | inr rose ↦ rose_from (g.O.Origin.faults c.args.depot.now.origin) (g.O.Origin.faults c.turn.new.depot.origin) (g.O.Origin.faults c.move_on.new.depot.origin) c.in-None.ensures.never_falls rose
    ]
