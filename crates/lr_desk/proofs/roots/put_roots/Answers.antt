use Rattle.std.proofs.Common.{◌+◌, refl, arith}
use Rattle.lr_desk.proofs.Viewing.{root_there, no_roots, one_root, all_roots}
use Rattle.lr_desk.proofs.roots.put_roots.Goals as goal

pub put_root-requires : goal.put_root-requires
put_root-requires c = root_there c.args.catalog.now.view c.roots-top.result c.loop-below.below (c.loop-below.below + 1) refl c.requires c.roots-top.ensures c.loop-below-test.true

pub loop-below-init : goal.loop-below-init
loop-below-init c = no_roots c.args.catalog.now.view c.args.out.now.items

pub loop-below-preserved : goal.loop-below-preserved
loop-below-preserved c =
    one_root c.args.catalog.now.view c.loop-below.below (c.loop-below.below + 1) c.args.out.now.items c.loop-below.out.items c.put_root.new.out.items refl c.loop-below.invariant c.in_ok-put_root.ensures

pub returns : goal.returns
returns c = all_roots c.args.catalog.now.view c.roots-top.result c.loop-below.below c.args.out.now.items c.loop-below.out.items c.roots-top.ensures (omega arith) c.loop-below.invariant
