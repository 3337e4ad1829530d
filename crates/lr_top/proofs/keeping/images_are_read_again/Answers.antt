use Rattle.lr_top.proofs.ReadBack.{read_again}
use Rattle.lr_top.proofs.keeping.images_are_read_again.Goals as goal

pub returns : goal.returns
returns c = read_again c.stores_open_again.ensures.found c.is_denoted_by_tag.ensures
