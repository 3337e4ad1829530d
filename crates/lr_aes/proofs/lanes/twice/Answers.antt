use Rattle.std.proofs.Common.{ℕ, List, map, sym, ap, ◌∙◌}
use Rattle.std.proofs.lemmas.Simd.{map-map}
use Rattle.lr_field.specs.Field.{product}
use Rattle.lr_aes.specs.Cipher.{sub_byte}
use Rattle.lr_aes.specs.Lanes.{standard, read_at}
use Rattle.lr_aes.specs.declared.tables.TheConstants.{TWICE_UPPER, TWICE_LOWER}
use Rattle.lr_aes.proofs.LaneFacts.{same_lanes, twice_at}
use Rattle.lr_aes.proofs.lanes.twice.Goals as goal

pub returns : goal.returns
returns c =
    let y : List ℕ = c.args.y in
    let s : ℕ → ℕ = λ b. product 2 (sub_byte b) in
    ap (map standard) c.read.ensures ∙ map-map standard (read_at TWICE_UPPER TWICE_LOWER 0x4e) y
    ∙ same_lanes (λ b. standard (read_at TWICE_UPPER TWICE_LOWER 0x4e b)) (λ b. s (standard b)) twice_at y c.fits-y.1
    ∙ sym (map-map s standard y)
