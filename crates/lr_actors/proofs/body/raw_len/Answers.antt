use Rattle.std.proofs.Common.{sym}
use Rattle.std.proofs.lemmas.List.FromFn.{length-map-range_with_len}
use Rattle.lr_actors.proofs.body.raw_len.Goals as goal

pub returns-in-Seed : goal.returns-in-Seed
returns-in-Seed c = rw c.in-Seed.is (sym (length-map-range_with_len _ 0 c.args.whole))
