use Rattle.std.proofs.Common.{◌≡◌, ℕ, suc, ◌+◌, ◌-◌, ◌*◌, ◌/◌, ◌%◌, ◌<◌, ◌^◌, bit_xor, refl, sym, ap, ◌∙◌, arith, one-mul, zero-mul}
use Rattle.std.specs.Int.{bit_at}
use lib.Bits.{xor_zero_r}
use Rattle.lr_aes.specs.Ghash.{times_x, shifted, partial_product, block_product}
use Rattle.lr_aes.proofs.Hash.{front_product}
use Rattle.lr_aes.proofs.ghash.byte_product.Goals as goal
use Rattle.lr_aes.proofs.ghash.byte_product.Goals.{then-x-n-eq1, else-x-n-eq1}

up : (x h n : ℕ) → bit_xor (partial_product x h n) (bit_at x (127 - n) * shifted h n) ≡ partial_product x h (n + 1)
unfolding partial_product
up x h n = let e : suc n ≡ n + 1 = omega arith in ap (partial_product x h) e

one_more : (x h n z : ℕ) → z ≡ partial_product x h n → bit_at x (127 - n) ≡ 1 → bit_xor z (shifted h n) ≡ partial_product x h (n + 1)
unfolding partial_product
one_more x h n z e bit = ap (λ (u : ℕ). bit_xor u (shifted h n)) e ∙ sym (ap (λ (b : ℕ). bit_xor (partial_product x h n) (b * shifted h n)) bit ∙ ap (bit_xor (partial_product x h n)) (one-mul (shifted h n))) ∙ up x h n

none_more : (x h n z : ℕ) → z ≡ partial_product x h n → bit_at x (127 - n) ≡ 0 → z ≡ partial_product x h (n + 1)
unfolding partial_product
none_more x h n z e bit = e ∙ sym (ap (λ (b : ℕ). bit_xor (partial_product x h n) (b * shifted h n)) bit ∙ ap (bit_xor (partial_product x h n)) (zero-mul (shifted h n)) ∙ xor_zero_r (partial_product x h n)) ∙ up x h n

turned : (h n : ℕ) → times_x (shifted h n) ≡ shifted h (n + 1)
unfolding shifted
turned h n = let e : suc n ≡ n + 1 = omega arith in ap (shifted h) e

pub loop-n-init : goal.loop-n-init
unfolding partial_product shifted
loop-n-init c = (refl, refl)

pub loop-n-preserved : goal.loop-n-preserved
loop-n-preserved c =
    let x : ℕ = c.args.b * 2 ^ 120 % 2 ^ 128 in
    let h : ℕ = c.args.h in
    let n : ℕ = c.loop-n.n in (
      elim c.if-x-n-eq1.branch [
        | then-x-n-eq1 w ↦ w.z-is ∙ ap (bit_xor c.loop-n.z) c.loop-n.invariant.1 ∙ one_more x h n c.loop-n.z c.loop-n.invariant.0 w.if-x-n-eq1.true
        | else-x-n-eq1 w ↦ w.z-is ∙ none_more x h n c.loop-n.z c.loop-n.invariant.0 (omega (arith, w.if-x-n-eq1.false))
      ],
      c.half_turn-next.ensures ∙ ap times_x c.loop-n.invariant.1 ∙ turned h n,
    )

pub returns : goal.returns
returns c =
    let x : c.args.b * 2 ^ 120 % 2 ^ 128 ≡ c.args.b * 2 ^ 120 = omega arith in
    let end : c.loop-n.n ≡ 8 = omega arith in
    c.loop-n.invariant.0 ∙ (λ i. partial_product (x i) c.args.h (end i)) ∙ sym (front_product c.args.b c.args.h (omega arith))
