use Rattle.std.proofs.Common.{List, [], ◌++◌, refl, subst, ◌∙◌}
use Rattle.lr_world.specs.World.{seen, Part, numbers_of}
use Rattle.lr_world.specs.Runs.{Round, begun, next}
use Rattle.lr_world.proofs.world.World.rounds.Goals as goal

pub loop-going-init : goal.loop-going-init
loop-going-init g c = record { is = λ context hosts is. is; cast = refl; ran = ([], begun); done = λ e. absurd (cc) }

pub loop-going-preserved : goal.loop-going-preserved
loop-going-preserved g c =
    let round = c.round-going.ensures.ran in
    record {
      is = λ context hosts known. c.round-going.ensures.is context hosts (c.loop-going.invariant.is context hosts known);
      cast = c.round-going.ensures.cast ∙ c.loop-going.invariant.cast;
      ran = (
        c.loop-going.invariant.ran.0 ++ round.0,
        next c.loop-going.invariant.ran.1 (subst (λ (cast : List Part). Round g.O.Origin.objects g.O.Origin.faults (seen c.loop-going.self) (numbers_of cast) round.0 (seen c.round-going.new.self)) c.loop-going.invariant.cast round.1),
      );
      done = λ e. (c.round-going.ensures.ended e).0;
    }
