use Rattle.std.proofs.Common.{◌-◌, ◌^◌}
use Rattle.lr_roots.specs.Keys.{plain}
use Rattle.lr_opening.proofs.Names.{fewer_inserted}
use Rattle.lr_opening.proofs.reading.put_in.Goals as goal

pub prepare-requires-clause-few : goal.prepare-requires-clause-few
prepare-requires-clause-few c = fewer_inserted c.args.catalog.now.view c.args.key (plain c.args.kept) (2 ^ 32 - 1) c.requires.few
