use Rattle.std.proofs.Common.{◌≡◌, take}
use Rattle.lr_prepare.specs.Lines.{seen_lines}
use Rattle.lr_top.specs.Opening.{images_opened}
use Rattle.lr_top.proofs.opening.images_of.Given as goal

abbrev pub invariant-loop-line : goal.invariant-loop-line
invariant-loop-line l = l.images.items ≡ images_opened (seen_lines (take l.line-index l.setup))
