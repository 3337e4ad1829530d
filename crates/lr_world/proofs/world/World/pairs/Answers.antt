use Rattle.std.proofs.Common.{ℕ, List, refl, sym, subst, ◌∙◌, arith}
use Rattle.std.specs.Prelude.{slice_index_or}
use Rattle.std.proofs.lemmas.Option.{slice_get-get_or}
use Rattle.lr_world.specs.World.{seen, Part, IsNumber}
use Rattle.lr_world.specs.Runs.{Runs, none}
use Rattle.lr_world.proofs.Running.{runs_on, listed_more}
use Rattle.lr_world.proofs.world.World.pairs.Goals as goal

pub loop-pair-init : goal.loop-pair-init
loop-pair-init g c = record { is = λ context hosts is. is; ran = none; cast = refl }

pub repeat-requires-clause-known : goal.repeat-requires-clause-known
repeat-requires-clause-known g c =
    subst (λ (cast : List Part). IsNumber cast (slice_index_or c.args.pairs.now c.loop-pair.pair-index (0, 0)).0) (sym c.loop-pair.invariant.cast)
    (c.requires.known c.loop-pair.pair-index (slice_index_or c.args.pairs.now c.loop-pair.pair-index (0, 0)) (slice_get-get_or c.args.pairs.now c.loop-pair.pair-index (0, 0) (omega arith)))

pub loop-pair-preserved : goal.loop-pair-preserved
loop-pair-preserved g c =
    record {
      is = λ context hosts is. c.repeat.ensures.is context hosts (c.loop-pair.invariant.is context hosts is);
      ran = subst (λ (l : List ℕ). Runs g.O.Origin.objects g.O.Origin.faults (seen c.args.self.now) l (seen c.repeat.new.self))
          (listed_more c.args.pairs.now c.loop-pair.pair-index (slice_index_or c.args.pairs.now c.loop-pair.pair-index (0, 0)) (slice_get-get_or c.args.pairs.now c.loop-pair.pair-index (0, 0) (omega arith)))
          (runs_on g.O.Origin.objects g.O.Origin.faults c.loop-pair.invariant.ran c.repeat.ensures.ran);
      cast = c.repeat.ensures.cast ∙ c.loop-pair.invariant.cast;
    }
