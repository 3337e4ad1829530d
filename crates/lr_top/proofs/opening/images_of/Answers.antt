use Rattle.std.proofs.Common.{◌++◌, List, ℕ, ap, sym, ◌∙◌, arith}
use Rattle.lr_script.specs.Seen.{setup_seen}
use Rattle.lr_top.specs.Opening.{image_opened, images_opened}
use Rattle.lr_top.proofs.Opened.{images_more}
use Rattle.lr_top.proofs.opening.images_of.Goals as goal

pub loop-line-init : goal.loop-line-init
unfolding images_opened
loop-line-init c = c.new-images.ensures.items

pub loop-line-preserved : goal.loop-line-preserved
loop-line-preserved c =
    let more = images_more c.args.setup.now c.loop-line.line-index c.line-item.result (omega arith) (sym c.line-item.is) in
    c.in_ok-add_image.ensures ∙ (ap (λ (l : List (List ℕ)). l ++ image_opened (setup_seen c.line-item.result.1)) c.loop-line.invariant ∙ sym more)
