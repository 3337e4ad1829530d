use Rattle.lr_images.specs.Cat.{HasFetched}
use Rattle.lr_images.proofs.reading.fetch_all.Given as goal

abbrev pub invariant-loop-index : goal.invariant-loop-index
invariant-loop-index g l = HasFetched g.O.Origin.objects g.O.Origin.faults l.initial.depot l.lease l.keys l.index l.depot l.bytes.items
