use Rattle.std.proofs.Common.{arith}
use Rattle.lr_actors.proofs.Going.{skip_more, prepared_after}
use Rattle.lr_actors.proofs.body.prepare.Goals as goal

pub loop-preserved : goal.loop-preserved
loop-preserved c = record {
  skips = skip_more c.args.setting.now c.args.book.now c.loop.book c.begin_next.new.book c.loop.invariant.skips c.in_default.ensures;
  at = omega (arith, c.loop.invariant.at, c.in_default.ensures.results);
  end = c.loop.invariant.end;
}

pub returns-in-Some : goal.returns-in-Some
returns-in-Some c = prepared_after c.args.setting.now c.args.book.now c.loop.book c.begin_next.new.book c.in-Some.stage c.loop.invariant.skips c.in-Some.ensures
