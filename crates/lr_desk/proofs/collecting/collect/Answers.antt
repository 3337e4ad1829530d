use Rattle.std.proofs.Common.{refl, ap, subst, sym, ◌∙◌, ◌≤◌, arith}
use Rattle.lr_spec.specs.Rose.{Rose}
use Rattle.lr_collector.specs.Progress.{Progress}
use Rattle.lr_collector.specs.Seen.{seen_end}
use Rattle.lr_desk.proofs.Logs.{rose_from}
use Rattle.lr_desk.proofs.Gathering.{drives_start, no_fault, collected_of}
use Rattle.lr_desk.proofs.collecting.collect.Goals as goal

pub loop-end-init : goal.loop-end-init
loop-end-init g c = record {
  ready = ap (λ (p : Progress). p.ready) c.new-machine.ensures.new;
  job = ap (λ (p : Progress). p.job) c.new-machine.ensures.new;
  start = refl;
  drives = drives_start c.args.depot.now.log c.args.job c.new-machine.result c.new-machine.ensures.stands;
  rising = omega arith;
  cause = λ h. absurd (no_fault c.args.job c.new-machine.result c.new-machine.ensures.new h);
}

pub loop-end-preserved : goal.loop-end-preserved
loop-end-preserved g c = record {
  ready = c.in_default.ensures.ready refl;
  job = c.in_default.ensures.job ∙ c.loop-end.invariant.job;
  start = c.in_default.ensures.start ∙ c.loop-end.invariant.start;
  drives = c.in_default.ensures.drives c.args.depot.now.log c.loop-end.invariant.drives;
  rising = omega (arith, c.loop-end.invariant.rising, c.in_default.ensures.never_falls);
  cause = λ h. rose_from (g.O.Origin.faults c.args.depot.now.origin) (g.O.Origin.faults c.loop-end.depot.origin) (g.O.Origin.faults c.turn.new.depot.origin) c.loop-end.invariant.rising (c.in_default.ensures.cause h);
}

pub returns-in-Some-clause-walk : goal.returns-in-Some-clause-walk
returns-in-Some-clause-walk g c =
    collected_of c.args.depot.now.log c.turn.new.depot.log c.args.job c.loop-end.machine.job (seen_end c.in-Some.end) c.loop-end.invariant.job (c.in-Some.ensures.drives c.args.depot.now.log c.loop-end.invariant.drives)

pub returns-in-Some-clause-start : goal.returns-in-Some-clause-start
returns-in-Some-clause-start g c = c.in-Some.ensures.start ∙ c.loop-end.invariant.start

pub returns-in-Some-clause-never_falls : goal.returns-in-Some-clause-never_falls
returns-in-Some-clause-never_falls g c = omega (arith, c.loop-end.invariant.rising, c.in-Some.ensures.never_falls)

pub returns-in-Some-clause-cause : goal.returns-in-Some-clause-cause
returns-in-Some-clause-cause g c = λ h.
    subst (λ n. Rose (g.O.Origin.faults c.args.depot.now.origin) n) (sym c.in-Some.ensures.cause.1) (c.loop-end.invariant.cause (c.in-Some.ensures.cause.0 h))
