use Rattle.std.proofs.Common.{ℕ, List, map, sym, ap, ◌∙◌}
use Rattle.std.proofs.lemmas.Simd.{map-map}
use Rattle.lr_aes.specs.Cipher.{sub_byte}
use Rattle.lr_aes.specs.Lanes.{standard, read_at}
use Rattle.lr_aes.specs.declared.tables.TheConstants.{ONCE_UPPER, ONCE_LOWER}
use Rattle.lr_aes.proofs.LaneFacts.{same_lanes, once_at}
use Rattle.lr_aes.proofs.lanes.once.Goals as goal

pub returns : goal.returns
returns c =
    let y : List ℕ = c.args.y in
    let s : ℕ → ℕ = λ b. sub_byte b in
    ap (map standard) c.read.ensures ∙ map-map standard (read_at ONCE_UPPER ONCE_LOWER 0x5b) y
    ∙ same_lanes (λ b. standard (read_at ONCE_UPPER ONCE_LOWER 0x5b b)) (λ b. s (standard b)) once_at y c.fits-y.1
    ∙ sym (map-map s standard y)
