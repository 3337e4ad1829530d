use Rattle.std.proofs.Common.{[], ◌++◌, refl, ◌∙◌, arith}
use Rattle.std.proofs.lemmas.Option.{slice_get_within}
use Rattle.lr_world.specs.World.{seen}
use Rattle.lr_world.specs.Runs.{begun}
use Rattle.lr_world.proofs.Alone.{length_stays}
use Rattle.lr_world.proofs.Serial.{still_free, ended_more, turns_more}
use Rattle.lr_world.proofs.world.World.serial.Goals as goal

pub loop-at-init : goal.loop-at-init
loop-at-init g c = record { is = λ context hosts is. is; cast = refl; free = c.requires.free; ran = ([], begun); ended = λ j a h e. absurd (omega (arith, h)) }

pub loop-at-preserved : goal.loop-at-preserved
loop-at-preserved g c =
    let w = c.work_out.ensures.worked in
    let is = c.work_out.ensures.is c.requires.world.0 c.requires.world.1 (c.loop-at.invariant.is c.requires.world.0 c.requires.world.1 c.requires.world.2) in
    record {
      is = λ context hosts known. c.work_out.ensures.is context hosts (c.loop-at.invariant.is context hosts known);
      cast = w.cast ∙ c.loop-at.invariant.cast;
      free = still_free g.O.Origin.objects g.O.Origin.faults c.requires.world.0 c.requires.world.1 (seen c.args.self.now) (seen c.loop-at.self) (seen c.work_out.new.self) c.loop-at.at w is;
      ran = (
        c.loop-at.invariant.ran.0 ++ w.steps,
        turns_more g.O.Origin.objects g.O.Origin.faults c.requires.world.0 c.requires.world.1 (seen c.args.self.now) (seen c.loop-at.self) (seen c.work_out.new.self) c.loop-at.at w is c.loop-at.invariant.cast c.loop-at.invariant.ran.1,
      );
      ended = ended_more g.O.Origin.objects g.O.Origin.faults c.requires.world.0 c.requires.world.1 (seen c.args.self.now) (seen c.loop-at.self) (seen c.work_out.new.self) c.loop-at.at w is c.loop-at.invariant.ended;
    }

pub returns-clause-ended : goal.returns-clause-ended
returns-clause-ended g c = λ i a e.
    c.loop-at.invariant.ended i a
    (omega (arith, slice_get_within c.loop-at.self.actors.items i a e, length_stays (seen c.args.self.now) (seen c.loop-at.self) c.loop-at.invariant.cast)) e
