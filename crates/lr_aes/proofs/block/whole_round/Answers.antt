use Rattle.std.proofs.Common.{◌≡◌, ℕ, List, map, bit_xor, sym, ap, ◌∙◌}
use Rattle.std.proofs.lemmas.Simd.{map-map}
use Rattle.std.specs.Simd.Lanes.{zip2}
use Rattle.lr_field.specs.Field.{product}
use Rattle.lr_aes.specs.Cipher.{sub_byte, shift_rows}
use Rattle.lr_aes.specs.Lanes.{standard}
use Rattle.lr_aes.proofs.LaneFacts.{standard_sum}
use Rattle.lr_aes.proofs.StateFacts.{rows_of, round_is}
use Rattle.lr_aes.proofs.block.whole_round.Goals as goal

pub returns : goal.returns
returns c w n key =
    let s : List ℕ = map standard c.args.y in
    let rows : map standard c.rows-x.result ≡ shift_rows s = ap (map standard) c.rows-x.ensures ∙ rows_of standard c.args.y c.fits-y.0 in
    let single = c.once.ensures ∙ ap (map sub_byte) rows in
    let double = c.twice.ensures ∙ ap (map (λ b. product 2 (sub_byte b))) rows ∙ sym (map-map (product 2) sub_byte (shift_rows s)) in
    let state = c.mixed.ensures (map sub_byte (shift_rows s)) single double in
    standard_sum c.mixed.result c.args.key ∙ (λ i. zip2 bit_xor (state i) (key i)) ∙ round_is w s n
