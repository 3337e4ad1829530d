use Rattle.std.proofs.Common.{ℕ, List, refl, subst, ◌∙◌}
use Rattle.lr_world.specs.World.{seen}
use Rattle.lr_world.specs.Runs.{Runs, none, more}
use Rattle.lr_world.proofs.Running.{replicate_more}
use Rattle.lr_world.proofs.world.World.repeat.Goals as goal

pub loop-init : goal.loop-init
loop-init g c = record { is = λ context hosts is. is; ran = none; cast = refl }

pub loop-preserved : goal.loop-preserved
loop-preserved g c =
    record {
      is = λ context hosts is. c.step.ensures.is context hosts (c.loop.invariant.is context hosts is);
      ran = subst (λ (l : List ℕ). Runs g.O.Origin.objects g.O.Origin.faults (seen c.args.self.now) l (seen c.step.new.self)) (replicate_more c.loop.counter c.args.actor)
          (more c.loop.invariant.ran c.args.actor c.step.ensures.steps);
      cast = c.step.ensures.cast ∙ c.loop.invariant.cast;
    }
