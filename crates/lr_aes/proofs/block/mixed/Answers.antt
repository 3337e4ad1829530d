use Rattle.std.proofs.Common.{List, ℕ, map, bit_xor, ap, ◌∙◌}
use Rattle.std.specs.Simd.Lanes.{zip2}
use Rattle.lr_aes.specs.Lanes.{standard, up}
use Rattle.lr_aes.proofs.StateFacts.{mixed_is}
use Rattle.lr_aes.proofs.block.mixed.Goals as goal

pub returns : goal.returns
returns c s is double_is =
    let single : List ℕ = c.args.single in
    let double : List ℕ = c.args.double in
    let half = c.up_2-half.ensures in
    let turned = c.up_1.ensures ∙ ap (λ (h : List ℕ). up 1 (zip2 bit_xor (zip2 bit_xor single double) h)) half in
    (λ i. map standard (zip2 bit_xor (zip2 bit_xor (turned i) double) (half i)))
    ∙ mixed_is single double s c.fits-single.0 c.fits-double.0 c.fits-single.1 is double_is
