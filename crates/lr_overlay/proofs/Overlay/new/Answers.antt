use Rattle.std.proofs.Common.{◌≡◌, ◌/◌, ◌+◌, ℕ, [], replicate, ap, ◌∙◌, arith}
use Rattle.lr_overlay.specs.Pages.{Pages}
use Rattle.lr_overlay.proofs.Places.{table_new}
use Rattle.lr_overlay.proofs.Overlay.new.Goals as goal

pub returns : goal.returns
returns c =
    let same : c.div_ceil.result ≡ (c.args.length / 4096 + 127) / 128 = omega arith in
    table_new c.in_ok-chunks.chunks.items ((c.args.length / 4096 + 127) / 128) (c.args.length / 4096) (c.in_ok-chunks.ensures ∙ ap (λ (n : ℕ). replicate {A = Pages} n []) same)
