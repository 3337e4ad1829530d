use Rattle.std.proofs.Common.{ℕ, ◌/◌, ◌%◌, List, map, bit_xor, ◌∙◌}
use Rattle.std.proofs.lemmas.Simd.{zip2_of_maps}
use Rattle.lr_aes.specs.Lanes.{entry}
use Rattle.lr_aes.specs.declared.tables.TheConstants.{INVERSES, QUOTIENTS}
use Rattle.lr_aes.proofs.LaneFacts.{places_are, looked_up, low_place, high_place, sum_place, upper_before_place, lower_before_place, sum_of, upper_before, lower_before, upper_is, lower_is}
use Rattle.lr_aes.proofs.lanes.places_of.Goals as goal

pub entries-quotient-requires : goal.entries-quotient-requires
entries-quotient-requires c = places_are (λ b. b % 16) low_place c.args.y _ c.fits-y.1 c.low_halves-low.ensures

pub entries-requires : goal.entries-requires
entries-requires c = places_are (λ b. b / 16) high_place c.args.y _ c.fits-y.1 c.high_halves-high.ensures

pub entries-requires-2 : goal.entries-requires-2
entries-requires-2 c =
    let y : List ℕ = c.args.y in
    places_are sum_of sum_place y _ c.fits-y.1 (zip2_of_maps bit_xor (λ b. b / 16) (λ b. b % 16) y c.high_halves-high.ensures c.low_halves-low.ensures)

pub entries-requires-3 : goal.entries-requires-3
entries-requires-3 c =
    let y : List ℕ = c.args.y in
    let quotient = looked_up QUOTIENTS (λ b. b % 16) y _ _ c.entries-quotient.ensures c.low_halves-low.ensures in
    let inverse = looked_up INVERSES (λ b. b / 16) y _ _ c.entries.ensures c.high_halves-high.ensures in
    places_are upper_before upper_before_place y _ c.fits-y.1
    (zip2_of_maps bit_xor (λ b. entry INVERSES (b / 16)) (λ b. entry QUOTIENTS (b % 16)) y inverse quotient)

pub entries-requires-4 : goal.entries-requires-4
entries-requires-4 c =
    let y : List ℕ = c.args.y in
    let quotient = looked_up QUOTIENTS (λ b. b % 16) y _ _ c.entries-quotient.ensures c.low_halves-low.ensures in
    let sum = zip2_of_maps bit_xor (λ b. b / 16) (λ b. b % 16) y c.high_halves-high.ensures c.low_halves-low.ensures in
    let inverse = looked_up INVERSES sum_of y _ _ c.entries-2.ensures sum in
    places_are lower_before lower_before_place y _ c.fits-y.1
    (zip2_of_maps bit_xor (λ b. entry INVERSES (sum_of b)) (λ b. entry QUOTIENTS (b % 16)) y inverse quotient)

pub returns-clause-upper : goal.returns-clause-upper
returns-clause-upper c =
    let y : List ℕ = c.args.y in
    let quotient = looked_up QUOTIENTS (λ b. b % 16) y _ _ c.entries-quotient.ensures c.low_halves-low.ensures in
    let sum = zip2_of_maps bit_xor (λ b. b / 16) (λ b. b % 16) y c.high_halves-high.ensures c.low_halves-low.ensures in
    let inverse = looked_up INVERSES (λ b. b / 16) y _ _ c.entries.ensures c.high_halves-high.ensures in
    let before = zip2_of_maps bit_xor (λ b. entry INVERSES (b / 16)) (λ b. entry QUOTIENTS (b % 16)) y inverse quotient in
    let after = looked_up INVERSES upper_before y _ _ c.entries-3.ensures before in
    zip2_of_maps bit_xor (λ b. entry INVERSES (upper_before b)) sum_of y after sum ∙ (λ i. map (λ b. upper_is b i) y)

pub returns-clause-lower : goal.returns-clause-lower
returns-clause-lower c =
    let y : List ℕ = c.args.y in
    let quotient = looked_up QUOTIENTS (λ b. b % 16) y _ _ c.entries-quotient.ensures c.low_halves-low.ensures in
    let sum = zip2_of_maps bit_xor (λ b. b / 16) (λ b. b % 16) y c.high_halves-high.ensures c.low_halves-low.ensures in
    let inverse = looked_up INVERSES sum_of y _ _ c.entries-2.ensures sum in
    let before = zip2_of_maps bit_xor (λ b. entry INVERSES (sum_of b)) (λ b. entry QUOTIENTS (b % 16)) y inverse quotient in
    let after = looked_up INVERSES lower_before y _ _ c.entries-4.ensures before in
    zip2_of_maps bit_xor (λ b. entry INVERSES (lower_before b)) (λ b. b / 16) y after c.high_halves-high.ensures ∙ (λ i. map (λ b. lower_is b i) y)
