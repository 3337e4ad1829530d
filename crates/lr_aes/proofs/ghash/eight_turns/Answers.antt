use Rattle.std.proofs.Common.{◌≡◌, ℕ, ◌+◌, ◌*◌, ◌/◌, ◌%◌, ◌^◌, bit_xor, sym, ap, ◌∙◌, arith}
use Rattle.lr_aes.proofs.Hash.{eight}
use Rattle.lr_aes.proofs.ghash.eight_turns.Goals as goal

pub returns : goal.returns
returns c =
    let small : c.carried.result * 2 ^ 112 % 2 ^ 128 ≡ c.carried.result * 2 ^ 112 = omega arith in
    ap (bit_xor (c.args.z / 256)) (small ∙ ap (λ (r : ℕ). r * 2 ^ 112) c.carried.ensures) ∙ sym (eight c.args.z (omega arith))
