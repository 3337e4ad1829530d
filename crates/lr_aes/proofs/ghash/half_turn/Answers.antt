use Rattle.std.proofs.Common.{◌≡◌, ℕ, ◌+◌, ◌*◌, ◌/◌, ◌%◌, ◌^◌, bit_xor, sym, ap, ◌∙◌, arith, one-mul, zero-mul}
use Rattle.std.specs.Int.{bit_at}
use lib.Bits.{xor_zero_r}
use Rattle.lr_aes.specs.Ghash.{times_x}
use Rattle.lr_aes.proofs.ghash.half_turn.Goals as goal

pub returns-then-v-eq1 : goal.returns-then-v-eq1
unfolding times_x
returns-then-v-eq1 c =
    let bit : bit_at c.args.v 0 ≡ 1 = omega (arith, c.if-v-eq1.true) in
    sym (ap (λ (b : ℕ). bit_xor (c.args.v / 2) (b * (0xe1 * 2 ^ 120))) bit)

pub returns-else-v-eq1 : goal.returns-else-v-eq1
unfolding times_x
returns-else-v-eq1 c =
    let bit : bit_at c.args.v 0 ≡ 0 = omega (arith, c.if-v-eq1.false) in
    sym (ap (λ (b : ℕ). bit_xor (c.args.v / 2) (b * (0xe1 * 2 ^ 120))) bit ∙ xor_zero_r (c.args.v / 2))
