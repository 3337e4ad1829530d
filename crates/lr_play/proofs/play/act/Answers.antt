use Rattle.std.proofs.Common.{◌≡◌, ◌≤◌, ◌+◌, ℕ, length, sym, ap, ◌∙◌, vec_len, arith}
use Rattle.lr_script.specs.Seen.{schedule_seen}
use Rattle.lr_world.specs.World.{Seen, seen_of, seen, objects_of}
use Rattle.lr_play.proofs.Counting.{run_rises}
use Rattle.lr_play.proofs.Acting.{as_many, acted}
use Rattle.lr_play.proofs.play.act.Goals as goal

pub returns-clause-acted : goal.returns-clause-acted
returns-clause-acted g c = record {
  more = c.trails_of.ensures.trails.0;
  added = c.trails_of.ensures.trails.1;
  acted = acted (schedule_seen c.args.schedule.now) (seen_of c.args.parts c.args.actors) (seen c.new-world.result) (seen c.run.new.self) c.end-parts.result.0 c.trails_of.ensures.trails.0 c.end-parts.result.1.items c.new-world.ensures.seen
      (ap (λ (w : Seen _). objects_of w) c.end-parts.ensures) (ap (λ (w : Seen _). w.actors) c.end-parts.ensures) c.new-world.ensures.is c.run.ensures.is c.run.ensures.left c.run.ensures.ends c.run.ensures.counted c.run.ensures.bounded c.trails_of.ensures.trails.2;
}

pub returns-clause-len : goal.returns-clause-len
returns-clause-len g c =
    let many : length (seen c.run.new.self).actors ≡ length (seen c.new-world.result).actors = as_many (seen c.new-world.result) (seen c.run.new.self) c.run.ensures.left in
    let first : length (seen c.new-world.result).actors ≡ length c.args.actors.items = ap (λ (w : Seen _). length w.actors) c.new-world.ensures.seen in
    let last : length c.end-parts.result.1.items ≡ length (seen c.run.new.self).actors = ap (λ (w : Seen _). length w.actors) c.end-parts.ensures in
    let taken : c.end-parts.result.1.len ≡ length c.end-parts.result.1.items = c.end-parts.result.1.ok.0 in
    let given : c.args.actors.len ≡ length c.args.actors.items = c.args.actors.ok.0 in
    let same : vec_len c.end-parts.result.1 ≡ vec_len c.args.actors = taken ∙ (last ∙ (many ∙ (first ∙ sym given))) in
    c.trails_of.ensures.len ∙ ap (λ (n : ℕ). vec_len c.args.trails.now + n) same

pub returns-clause-never_falls : goal.returns-clause-never_falls
returns-clause-never_falls g c =
    let began : g.O.Origin.faults (seen c.new-world.result).depot.origin ≡ g.O.Origin.faults c.args.parts.depot.origin = ap (λ (w : Seen _). g.O.Origin.faults w.depot.origin) c.new-world.ensures.seen in
    let ended : g.O.Origin.faults c.end-parts.result.0.depot.origin ≡ g.O.Origin.faults (seen c.run.new.self).depot.origin = ap (λ (w : Seen _). g.O.Origin.faults w.depot.origin) c.end-parts.ensures in
    let rises : g.O.Origin.faults (seen c.new-world.result).depot.origin ≤ g.O.Origin.faults (seen c.run.new.self).depot.origin =
    run_rises g.O.Origin.objects g.O.Origin.faults (seen c.new-world.result) c.run.ensures.ran.0 (seen c.run.new.self) c.run.ensures.ran.2 in
    omega (arith, began, ended, rises)
