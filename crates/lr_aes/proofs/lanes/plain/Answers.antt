use Rattle.std.proofs.Common.{ℕ, List, sym, ◌∙◌}
use Rattle.std.proofs.lemmas.Simd.{map-map}
use Rattle.lr_aes.specs.Cipher.{sub_byte}
use Rattle.lr_aes.specs.Lanes.{standard, read_at}
use Rattle.lr_aes.specs.declared.tables.TheConstants.{LAST_UPPER, LAST_LOWER}
use Rattle.lr_aes.proofs.LaneFacts.{same_lanes, last_at}
use Rattle.lr_aes.proofs.lanes.plain.Goals as goal

pub returns : goal.returns
returns c =
    let y : List ℕ = c.args.y in
    c.read.ensures
    ∙ same_lanes (read_at LAST_UPPER LAST_LOWER 0x63) (λ b. sub_byte (standard b)) last_at y c.fits-y.1
    ∙ sym (map-map sub_byte standard y)
