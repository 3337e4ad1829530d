use Rattle.std.proofs.Common.{ℕ, bit_xor, slice_index, sym, ap, ◌∙◌, arith}
use lib.Bits.{xor_zero_r}
use Rattle.lr_field.specs.Field.{product}
use Rattle.lr_field.proofs.Public.{zero-product, is_field}
use Rattle.lr_stripe.proofs.Halves.{all_summed}
use Rattle.lr_stripe.proofs.mix.add_part.Goals as goal

pub returns-in-0 : goal.returns-in-0
returns-in-0 c = λ t lt.
    let x : ℕ = slice_index c.args.out.now t in
    let v : ℕ = slice_index c.args.part.now t in
    sym (ap (λ (w : ℕ). bit_xor x (product w v)) c.in-0.is ∙ ap (bit_xor x) (zero-product v) ∙ xor_zero_r x)

pub returns-in-1 : goal.returns-in-1
returns-in-1 c = λ t lt.
    let x : ℕ = slice_index c.args.out.now t in
    let v : ℕ = slice_index c.args.part.now t in
    let whole = c.add_rest.ensures c.args.out.now c.add_groups.ensures in
    all_summed (λ b. b) c.args.part.now c.args.out.now c.add_rest.new.out whole t lt
    ∙ sym (ap (λ (w : ℕ). bit_xor x (product w v)) c.in-1.is ∙ ap (bit_xor x) (is_field.one v (omega (arith, c.type_inv.part t))))
