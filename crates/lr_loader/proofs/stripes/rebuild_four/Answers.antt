use Rattle.std.proofs.Common.{[], ◌∷◌}
use Rattle.lr_loader.proofs.Rebuilding.{are_whole, rebuilt_to}
use Rattle.lr_loader.proofs.stripes.rebuild_four.Goals as goal

pub rebuilt_bytes-requires : goal.rebuilt_bytes-requires
rebuilt_bytes-requires c = are_whole c.args.name.now (c.args.first.now ∷ c.args.second.now ∷ c.args.third.now ∷ c.args.last.now ∷ []) c.requires

pub returns : goal.returns
returns c =
    rebuilt_to c.args.name.now (c.args.first.now ∷ c.args.second.now ∷ c.args.third.now ∷ c.args.last.now ∷ []) c.in_ok-bytes.bytes.items c.in_ok-bytes.ensures.rebuilt c.in_ok-bytes.ensures.only
    c.named.result c.named.ensures.some c.named.ensures.none
