use Rattle.lr_desk.proofs.Viewing.{state_there, root_line_put}
use Rattle.lr_desk.proofs.roots.put_root.Goals as goal

pub unwrap-state-requires : goal.unwrap-state-requires
unwrap-state-requires c = state_there c.args.catalog.now.view c.args.root c.state.result c.requires c.state.ensures

pub returns : goal.returns
returns c =
    root_line_put c.args.catalog.now.view c.args.root c.state.result c.unwrap-state.result c.counts-images.result.0 c.counts-images.result.1 c.args.out.now.items c.put_root_line.new.out.items c.put_root_line.result
    c.unwrap-state.ensures c.state.ensures c.counts-images.ensures.manifests c.counts-images.ensures.chunks c.put_root_line.ensures
