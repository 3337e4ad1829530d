use Rattle.std.proofs.Common.{◌≡◌, ◌≢◌, ℕ, ◌<◌, length, take, get_or, bit_xor, refl, ap, sym, ◌∙◌, arith, below_more, get_or-set_other, get_or-set_same}
use Rattle.std.proofs.lemmas.List.{take_more_set}
use lib.Bits.{xor_assoc}
use Rattle.lr_field.specs.Field.{product, inverse}
use Rattle.lr_field.specs.Weights.{xor_sum}
use Rattle.lr_field.proofs.Polynomials.{scaled_from, xor_sum_push}
use Rattle.lr_field.proofs.interpolation.scale.Goals as goal

pub loop-i-init : goal.loop-i-init
unfolding xor_sum
loop-i-init c = (λ k h. absurd (omega arith), λ k h. refl, refl)

pub loop-i-preserved : goal.loop-i-preserved
loop-i-preserved c =
    let i = c.loop-i.i in
    let v = c.mul-w.result in
    let lt : i < length c.loop-i.weights = omega arith in
    let here : get_or c.loop-i.weights i 0 ≡ get_or c.args.weights.now i 0 = c.loop-i.invariant.1 i (omega arith) in
    let value : v ≡ product (get_or c.args.weights.now i 0) (product (bit_xor c.args.at c.args.p) (inverse (bit_xor (get_or c.args.points.now i 0) c.args.p))) =
    cc (c.mul-w.ensures, c.mul.ensures, c.inv.ensures.value) in (
      below_more _ _
          (λ k h. let ne : k ≢ i = omega arith in rw get_or-set_other (c.loop-i.invariant.0 k h))
          (rw get_or-set_same value),
      λ k h. let ne : k ≢ i = omega arith in rw get_or-set_other (c.loop-i.invariant.1 k (omega arith)),
      ap (λ (x : ℕ). bit_xor x v) c.loop-i.invariant.2 ∙ xor_assoc 1 (xor_sum (take i c.loop-i.weights)) v
          ∙ ap (bit_xor 1) (sym (xor_sum_push (take i c.loop-i.weights) v)) ∙ ap (λ l. bit_xor 1 (xor_sum l)) (sym (take_more_set c.loop-i.weights i v lt)),
    )

pub returns-clause-weights : goal.returns-clause-weights
returns-clause-weights c =
    scaled_from inverse c.args.at c.args.p c.args.points.now c.args.weights.now c.loop-i.weights c.requires (omega arith)
    (λ k lt. c.loop-i.invariant.0 k (omega arith))
