use Rattle.std.proofs.Common.{[], refl, sym, ◌∙◌}
use Rattle.lr_world.specs.World.{seen}
use Rattle.lr_world.specs.Runs.{begun}
use Rattle.lr_world.proofs.Alone.{works_more, over_at, still_there, part_number, at_some}
use Rattle.lr_world.proofs.world.World.work_out.Goals as goal

pub loop-going-init : goal.loop-going-init
loop-going-init g c = record { is = λ context hosts is. is; cast = refl; others = λ j ne. refl; alone = c.requires.alone; worked = λ a e. ([], begun); done = λ e. absurd (cc) }

pub loop-going-preserved : goal.loop-going-preserved
loop-going-preserved g c =
    record {
      is = λ context hosts is. c.turn_alone.ensures.is context hosts (c.loop-going.invariant.is context hosts is);
      cast = c.turn_alone.ensures.cast ∙ c.loop-going.invariant.cast;
      others = λ j ne. c.turn_alone.ensures.others j ne ∙ c.loop-going.invariant.others j ne;
      alone = c.turn_alone.ensures.alone;
      worked = λ a e.
          let was = c.loop-going.invariant.worked a e in
          let b = still_there (seen c.args.self.now) (seen c.loop-going.self) c.args.at a c.loop-going.invariant.cast e in
          works_more g.O.Origin.objects g.O.Origin.faults a.number (seen c.args.self.now) (seen c.loop-going.self) (seen c.turn_alone.new.self) was.0 c.args.at b.0 c.turn_alone.result was.1 b.1 (part_number b.0 a b.2) c.turn_alone.ensures.turned;
      done = λ e. over_at g.O.Origin.objects g.O.Origin.faults (seen c.loop-going.self) (seen c.turn_alone.new.self) c.args.at c.turn_alone.result c.turn_alone.ensures.turned (sym c.is_going-going.ensures ∙ e);
    }

pub returns-clause-worked : goal.returns-clause-worked
returns-clause-worked g c =
    let a = at_some c.args.self.now.actors.items c.args.at c.requires.at in
    let w = c.loop-going.invariant.worked a.0 a.1 in
    record {
      worker = a.0;
      at = a.1;
      steps = w.0;
      works = w.1;
      ended = c.loop-going.invariant.done c.loop-going-test.false;
      alone = c.loop-going.invariant.alone;
      cast = c.loop-going.invariant.cast;
      others = c.loop-going.invariant.others;
    }
