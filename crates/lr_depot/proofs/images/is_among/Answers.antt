use Rattle.std.proofs.Common.{sym, ◌∙◌}
use Rattle.lr_depot.proofs.Counted.{any_text, text_any}
use Rattle.lr_depot.proofs.images.is_among.Goals as goal

pub returns : goal.returns
returns c = (λ t. any_text c.args.names.now c.args.image.now (sym c.contains.ensures.value ∙ t), λ i. c.contains.ensures.value ∙ text_any c.args.names.now c.args.image.now i)
