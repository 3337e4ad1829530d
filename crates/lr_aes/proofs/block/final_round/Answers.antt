use Rattle.std.proofs.Common.{◌≡◌, ℕ, List, map, bit_xor, ap, ◌∙◌}
use Rattle.std.specs.Simd.Lanes.{zip2}
use Rattle.lr_aes.specs.Cipher.{sub_byte, shift_rows}
use Rattle.lr_aes.specs.Lanes.{standard}
use Rattle.lr_aes.proofs.StateFacts.{rows_of, last_is}
use Rattle.lr_aes.proofs.block.final_round.Goals as goal

pub returns : goal.returns
returns c w n key =
    let s : List ℕ = map standard c.args.y in
    let rows : map standard c.rows.result ≡ shift_rows s = ap (map standard) c.rows.ensures ∙ rows_of standard c.args.y c.fits-y.0 in
    (λ i. zip2 bit_xor ((c.plain.ensures ∙ ap (map sub_byte) rows) i) (key i)) ∙ last_is w s n
