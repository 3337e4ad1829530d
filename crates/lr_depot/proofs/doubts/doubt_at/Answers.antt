use Rattle.std.proofs.Common.{◌∙◌}
use Rattle.std.specs.FinMap as map
use Rattle.std.proofs.lemmas.Iterator.Consumers.{nth_from_yields_List, YieldsList-from_rest}
use Rattle.lr_depot.proofs.Listed.{read_key}
use Rattle.lr_depot.proofs.doubts.doubt_at.Goals as goal

pub returns : goal.returns
returns c = read_key c.nth.result ∙ nth_from_yields_List c.nth.result c.nth.new.self c.args.at c.nth.ensures.ran (YieldsList-from_rest (map.keys c.args.doubts.now) c.iter.ensures.list)
