use Rattle.std.proofs.Common.{arith}
use Rattle.lr_rootlines.proofs.Lines.{none_yet, one_more, all_roots}
use Rattle.lr_rootlines.proofs.part.put_roots.Goals as goal

pub loop-below-init : goal.loop-below-init
loop-below-init c = none_yet c.args.catalog.now.view c.args.out.now.items

pub loop-below-preserved : goal.loop-below-preserved
loop-below-preserved c =
    one_more c.args.catalog.now.view c.loop-below.below c.args.out.now.items c.loop-below.out.items c.put_root.new.out.items c.loop-below.invariant c.in_ok-put_root.ensures

pub returns : goal.returns
returns c = all_roots c.args.catalog.now.view c.loop-below.below c.args.out.now.items c.loop-below.out.items (omega arith) c.loop-below.invariant
