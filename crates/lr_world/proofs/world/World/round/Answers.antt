use Rattle.std.proofs.Common.{◌+◌, sym, subst, arith}
use Rattle.lr_world.specs.World.{seen}
use Rattle.lr_world.specs.Rounding.{SoFar}
use Rattle.lr_world.proofs.Alone.{length_stays}
use Rattle.lr_world.proofs.Rounds.{begins, so_far_more, round_falls, round_ended}
use Rattle.lr_world.proofs.world.World.round.Goals as goal

pub loop-at-init : goal.loop-at-init
loop-at-init g c = record { is = λ context hosts is. is; so = begins g.O.Origin.objects g.O.Origin.faults (seen c.args.self.now) }

pub loop-at-preserved : goal.loop-at-preserved
loop-at-preserved g c =
    record {
      is = λ context hosts known. c.turn.ensures.is context hosts (c.loop-at.invariant.is context hosts known);
      so = subst (SoFar g.O.Origin.objects g.O.Origin.faults (seen c.args.self.now) (seen c.turn.new.self) (c.loop-at.at + 1)) (sym c.either-moved.ensures)
          (so_far_more g.O.Origin.objects g.O.Origin.faults c.requires.0 c.requires.1 (seen c.args.self.now) (seen c.loop-at.self) (seen c.turn.new.self) c.loop-at.at c.loop-at.moved c.turn.result
          (c.loop-at.invariant.is c.requires.0 c.requires.1 c.requires.2) c.turn.ensures.turned c.turn.ensures.goes c.turn.ensures.cast c.turn.ensures.others c.loop-at.invariant.so);
    }

pub returns-clause-falls : goal.returns-clause-falls
returns-clause-falls g c = λ m.
    round_falls g.O.Origin.objects g.O.Origin.faults c.requires.0 c.requires.1 (seen c.args.self.now) (seen c.loop-at.self) c.loop-at.at c.loop-at.moved (c.loop-at.invariant.is c.requires.0 c.requires.1 c.requires.2)
    (omega (arith, length_stays (seen c.args.self.now) (seen c.loop-at.self) c.loop-at.invariant.so.cast)) c.loop-at.invariant.so m

pub returns-clause-ended : goal.returns-clause-ended
returns-clause-ended g c = λ m.
    round_ended g.O.Origin.objects g.O.Origin.faults (seen c.args.self.now) (seen c.loop-at.self) c.loop-at.at c.loop-at.moved
    (omega (arith, length_stays (seen c.args.self.now) (seen c.loop-at.self) c.loop-at.invariant.so.cast)) c.loop-at.invariant.so m
