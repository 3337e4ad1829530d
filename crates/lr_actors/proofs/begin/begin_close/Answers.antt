use Rattle.std.proofs.Common.{inl, arith, refl}
use Rattle.lr_actors.specs.declared.single.Single.TheVariants.{Close}
use Rattle.lr_actors.specs.Jobs.{closes}
use Rattle.lr_actors.specs.Jobs.{seen_context}
use Rattle.lr_actors.specs.Places.{seen_place}
use Rattle.lr_actors.proofs.Begins.{begun_single}
use Rattle.lr_actors.proofs.begin.begin_close.Goals as goal

pub returns : goal.returns
returns c = begun_single (seen_context c.args.context.now) (closes c.args.device) (Close c.place_at-place.result.now.lease) c.new-job.result c.new-job.ensures.new c.new-job.ensures.stands
    (seen_place c.place_at-place.result.now, c.place_at-place.ensures, refl) (omega arith) (λ steps answer walk. inl (seen_place c.place_at-place.result.now, c.place_at-place.ensures, walk))
