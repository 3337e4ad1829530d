use Rattle.std.proofs.Common.{refl, ap, subst, sym, ◌∙◌, ◌≤◌, inl, inr, arith}
use Rattle.std.specs.Prelude.{◌⊎◌}
use Rattle.lr_spec.specs.Rose.{Rose}
use Rattle.lr_migrator.specs.Seen.{seen_end}
use Rattle.lr_desk.specs.Drive.{IsFaultStage}
use Rattle.lr_desk.proofs.Carrying.{fault_since, moved_of}
use Rattle.lr_desk.proofs.moving.move_on.Goals as goal

pub loop-end-preserved : goal.loop-end-preserved
loop-end-preserved g c = record {
  ready = c.in_default.ensures.ready refl;
  goes = c.in_default.ensures.goes refl;
  image = c.in_default.ensures.image ∙ c.loop-end.invariant.image;
  start = c.in_default.ensures.start ∙ c.loop-end.invariant.start;
  drives = λ base d. c.in_default.ensures.drives base (c.loop-end.invariant.drives base d);
  rising = omega (arith, c.loop-end.invariant.rising, c.in_default.ensures.never_falls);
  cause = λ h. fault_since c.args.machine.now.need c.loop-end.machine.need (g.O.Origin.faults c.args.depot.now.origin) (g.O.Origin.faults c.loop-end.depot.origin) (g.O.Origin.faults c.turn.new.depot.origin)
      c.loop-end.invariant.rising c.in_default.ensures.never_falls c.loop-end.invariant.cause (c.in_default.ensures.cause h);
}

pub returns-in-Some-clause-walk : goal.returns-in-Some-clause-walk
returns-in-Some-clause-walk g c = λ base d.
    moved_of base c.turn.new.depot.log c.args.machine.now.image c.loop-end.machine.image (seen_end c.in-Some.end) c.loop-end.invariant.image (c.in-Some.ensures.drives base (c.loop-end.invariant.drives base d))

pub returns-in-Some-clause-start : goal.returns-in-Some-clause-start
returns-in-Some-clause-start g c = c.in-Some.ensures.start ∙ c.loop-end.invariant.start

pub returns-in-Some-clause-never_falls : goal.returns-in-Some-clause-never_falls
returns-in-Some-clause-never_falls g c = omega (arith, c.loop-end.invariant.rising, c.in-Some.ensures.never_falls)

pub returns-in-Some-clause-cause : goal.returns-in-Some-clause-cause
returns-in-Some-clause-cause g c = λ h.
    subst (λ n. IsFaultStage c.args.machine.now.need ⊎ Rose (g.O.Origin.faults c.args.depot.now.origin) n) (sym c.in-Some.ensures.cause.1) (c.loop-end.invariant.cause (c.in-Some.ensures.cause.0 h))
