use Rattle.std.proofs.Common.{◌<◌, length, vec_len, arith}
use Rattle.lr_walk.specs.declared.trail.Answer.TheVariants.{Unbegun}
use Rattle.lr_actors.proofs.Going.{results_more}
use Rattle.lr_actors.proofs.Ending.{one_unbegun}
use Rattle.lr_actors.proofs.body.leave_rest.Goals as goal

pub loop-preserved : goal.loop-preserved
loop-preserved c =
    let lt : length c.loop.book.trail.results.items < vec_len c.args.setting.now.jobs = omega arith in
    record {
      rest = one_unbegun c.args.setting.now c.args.book.now c.loop.book c.finish.new.book c.loop.invariant.rest lt c.finish.ensures;
      at = omega (arith, results_more c.loop.book c.finish.new.book Unbegun c.finish.ensures);
      end = c.loop.invariant.end;
    }
