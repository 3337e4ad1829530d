use Rattle.std.proofs.Common.{◌<◌, sym, ap, subst, ◌∙◌}
use Rattle.std.specs.FinMap as map
use Rattle.lr_depot.specs.Doubts.{without_keys}
use Rattle.lr_depot.proofs.Settling.{left_removed, all_left, fewer_left}
use Rattle.lr_depot.proofs.doubts.keep_puts.Goals as goal

pub loop-key-smaller : goal.loop-key-smaller
loop-key-smaller c = subst (λ m. map.len m < map.len c.loop-key.doubts) (sym c.remove.ensures) (fewer_left c.loop-key.doubts c.in-Some.key c.in-Some.ensures.0)

pub loop-key-preserved : goal.loop-key-preserved
loop-key-preserved c =
    ap (without_keys c.args.catalog.now.view) c.remove.ensures ∙ left_removed c.args.catalog.now.view c.loop-key.doubts c.in-Some.key c.in-Some.ensures.1 ∙ c.loop-key.invariant

pub returns : goal.returns
returns c = sym (all_left c.args.catalog.now.view c.loop-key.doubts (rw c.in_default.is at c.deletion_in_doubt.ensures)) ∙ c.loop-key.invariant
