use Rattle.std.proofs.Common.{ℕ, List, bit_xor}
use Rattle.std.proofs.lemmas.Simd.{zip2_of_maps, splat_is_map}
use Rattle.lr_aes.specs.Lanes.{entry, upper_place, lower_place}
use Rattle.lr_aes.proofs.LaneFacts.{places_are, looked_up, upper_place_at, lower_place_at}
use Rattle.lr_aes.proofs.lanes.read.Goals as goal

pub entries-requires : goal.entries-requires
entries-requires c = places_are upper_place upper_place_at c.args.y _ c.fits-y.1 c.places_of-places.ensures.upper

pub entries-requires-2 : goal.entries-requires-2
entries-requires-2 c = places_are lower_place lower_place_at c.args.y _ c.fits-y.1 c.places_of-places.ensures.lower

pub returns : goal.returns
returns c =
    let y : List ℕ = c.args.y in
    let upper = looked_up c.args.upper upper_place y _ _ c.entries.ensures c.places_of-places.ensures.upper in
    let lower = looked_up c.args.lower lower_place y _ _ c.entries-2.ensures c.places_of-places.ensures.lower in
    let sum = zip2_of_maps bit_xor (λ b. entry c.args.upper (upper_place b)) (λ b. entry c.args.lower (lower_place b)) y upper lower in
    zip2_of_maps bit_xor (λ b. bit_xor (entry c.args.upper (upper_place b)) (entry c.args.lower (lower_place b))) (λ _. c.args.added) y sum
    (splat_is_map y 16 c.args.added c.fits-y.0)
