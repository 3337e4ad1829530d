use Rattle.std.proofs.Common.{ℕ, ◌/◌, ◌%◌, List, map, bit_xor, ap, ◌∙◌}
use Rattle.std.proofs.lemmas.Simd.{zip2_of_maps, map-map}
use Rattle.lr_aes.specs.Lanes.{standard, entry}
use Rattle.lr_aes.specs.declared.tables.TheConstants.{BASIS_LOW, BASIS_HIGH}
use Rattle.lr_aes.proofs.LaneFacts.{places_are, looked_up, low_place, high_place, same_lanes, as_it_is, basis_at}
use Rattle.lr_aes.proofs.lanes.in_basis.Goals as goal

pub entries-requires : goal.entries-requires
entries-requires c = places_are (λ b. b % 16) low_place c.args.x _ c.fits-x.1 c.low_halves.ensures

pub entries-requires-2 : goal.entries-requires-2
entries-requires-2 c = places_are (λ b. b / 16) high_place c.args.x _ c.fits-x.1 c.high_halves.ensures

pub returns : goal.returns
returns c =
    let x : List ℕ = c.args.x in
    let low = looked_up BASIS_LOW (λ b. b % 16) x _ _ c.entries.ensures c.low_halves.ensures in
    let high = looked_up BASIS_HIGH (λ b. b / 16) x _ _ c.entries-2.ensures c.high_halves.ensures in
    ap (map standard) (zip2_of_maps bit_xor (λ b. entry BASIS_LOW (b % 16)) (λ b. entry BASIS_HIGH (b / 16)) x low high)
    ∙ map-map standard (λ b. bit_xor (entry BASIS_LOW (b % 16)) (entry BASIS_HIGH (b / 16))) x
    ∙ same_lanes (λ b. standard (bit_xor (entry BASIS_LOW (b % 16)) (entry BASIS_HIGH (b / 16)))) (λ b. b) basis_at x c.fits-x.1
    ∙ as_it_is x
