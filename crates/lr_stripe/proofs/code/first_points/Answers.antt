use Rattle.std.proofs.Common.{◌≡◌, ◌<◌, ◌+◌, slice_index, sym, ◌∙◌, arith}
use Rattle.std.proofs.lemmas.List.FromFn.{length-range_with_len, get_or-range_with_len}
use Rattle.std.proofs.lemmas.Grind.{same_number_lists}
use Rattle.lr_stripe.specs.Code.{points}
use Rattle.lr_stripe.proofs.code.first_points.Goals as goal

pub returns : goal.returns
returns g c =
    same_number_lists c.loop-i.all (points g.row.K) (c.loop-i.invariant.0 ∙ sym (length-range_with_len 0 g.row.K))
    (λ k lt.
    let within : k < g.row.K = omega (arith, c.loop-i.invariant.0) in
    let at : slice_index (points g.row.K) k ≡ 0 + k = get_or-range_with_len 0 g.row.K k 0 within in
    let here : slice_index c.loop-i.all k ≡ k = c.loop-i.invariant.1 k (omega arith) in
    omega arith)
